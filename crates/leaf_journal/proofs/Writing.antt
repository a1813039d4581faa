-- What stands on a disk after a write and a sync.
use Rattle.std.proofs.Common.{◌≡◌, ◌+◌, ◌<◌, ℕ, List, [], ◌∷◌, length, get_or, sym, ap, ◌∙◌, arith}
use Rattle.std.specs.Prelude.{Option, Some}
use Rattle.std.proofs.lemmas.List.{ext_get_or}
use Rattle.octets.specs.Content.{Told}
use Rattle.edge_io.specs.Disk.{Written}

-- the byte that was written
pub written_one : (at : ℕ) (was now : List ℕ) → Written at (1 ∷ []) was now → get_or now at 0 ≡ 1
written_one at was now written =
    let first : 0 < 1 = omega arith in
    let place : at + 0 ≡ at = omega arith in
    ap (λ (k : ℕ). get_or now k 0) (sym place) ∙ written.has 0 first

same_file : (a b : List ℕ) (seen : Option (List ℕ)) → seen ≡ Some a → a ≡ b → seen ≡ Some b
same_file a b seen told same = cc

-- what was written to an empty disk is all that is there
pub written_whole : (bytes file : List ℕ) (seen mid : Option (List ℕ)) → mid ≡ Some file → Told (Written 0 bytes) seen mid → ((was : List ℕ) → seen ≡ Some was → was ≡ [])
    → (file ≡ bytes) × (seen ≡ Some [])
written_whole bytes file seen mid here written empty =
    let was = written file here in
    let none : was.0 ≡ [] = empty was.0 was.1 in
    let long : length was.0 ≡ 0 = ap (λ (l : List ℕ). length l) none in
    let same : length file ≡ length bytes = omega (arith, was.2.size, long) in (
      ext_get_or 0 file bytes same (λ i low.
          let within : i < length bytes = omega (arith, low, same) in
          let place : 0 + i ≡ i = omega arith in
          ap (λ (k : ℕ). get_or file k 0) (sym place) ∙ was.2.has i within),
      same_file was.0 [] seen was.1 none,
    )
