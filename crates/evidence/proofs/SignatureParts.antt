-- The uses of a good signature are its parts.
use Rattle.std.proofs.Common.{◌≡◌, ◌==◌, ◌≤◌, ◌<◌, ◌-◌, ℕ, suc, zero, Bool, List, [], ◌∷◌, ◌++◌, length, take, drop, refl, sym, ap, ◌∙◌, arith, append_assoc}
use Rattle.std.specs.Prelude.{if◌then◌else◌}
use Rattle.std.specs.Int.{w32, from_be_bytes}
use Rattle.std.proofs.lemmas.Bool.{ne_eqb}
use Rattle.std.proofs.lemmas.List.{append-nil, drop_at, take-append-le, take_at}
use Rattle.lmots.specs.Chain.{joined}
use Rattle.lms_keys.specs.PublicKey.{number_in}
use Rattle.lms_keys.specs.SigOk.{HssSigOk, LmsSigOk}
use Rattle.lms_keys.specs.Signature.{leaf_in}
use Rattle.lms_keys.proofs.Levels.{spelled-number, spelled-rest}
use Rattle.lms_keys.proofs.OnBytes.{hss-long}
use Rattle.evidence.specs.SignatureParts.{UsesAreParts, parts_of}
use Rattle.evidence.specs.Uses.{len_by, next_key, uses, uses_from}
use Rattle.evidence.proofs.KeyLengths.{four_within, signature_long}

joined-none : (z : ℕ → List ℕ) (last : List ℕ) → joined z 0 ++ last ≡ last
unfolding joined
joined-none z last = refl

joined-first : (z : ℕ → List ℕ) (n : ℕ) → joined z (suc n) ≡ z 0 ++ joined (λ i. z (suc i)) n
unfolding joined
joined-first z zero = sym (append-nil (z 0))
joined-first z (suc n) = ap (λ (l : List ℕ). l ++ z (suc n)) (joined-first z n) ∙ append_assoc (z 0) (joined (λ i. z (suc i)) n) (z (suc n))

leaf_front : (link rest : List ℕ) → 4 ≤ length link → leaf_in (link ++ rest) ≡ leaf_in link
leaf_front link rest room = ap (from_be_bytes w32) (take-append-le 4 link rest room)

module _ (message : List ℕ) where
  -- each signature is good by the key before it of the key beside it, and the last of the message
  abbrev AreLinked : ℕ → (ℕ → List ℕ) → (ℕ → List ℕ) → Type 0
  AreLinked n keys signatures = ((i : ℕ) → i < n → LmsSigOk (keys i) (keys (suc i)) (signatures i)) × LmsSigOk (keys n) message (signatures n)

  key_long : (n : ℕ) (keys signatures : ℕ → List ℕ) → AreLinked n keys signatures → length (keys 0) ≡ 56
  key_long zero keys signatures good = good.1.long
  key_long (suc n) keys signatures good = (good.0 0 (omega arith)).long

  from_parts : (n : ℕ) (keys signatures : ℕ → List ℕ) (s : List ℕ) → s ≡ joined (λ i. signatures i ++ keys (suc i)) n ++ signatures n → AreLinked n keys signatures
      → uses_from n (keys 0) message s ≡ parts_of n keys signatures message
  unfolding uses_from
  from_parts zero keys signatures s spelled good =
      ap (λ (t : List ℕ). record { key = keys 0; leaf = leaf_in t; message = message } ∷ []) (spelled ∙ joined-none (λ i. signatures i ++ keys (suc i)) (signatures 0))
  from_parts (suc n) keys signatures s spelled good =
      let z : ℕ → List ℕ = λ i. signatures i ++ keys (suc i) in
      let more : ℕ → List ℕ = λ i. signatures (suc i) ++ keys (suc (suc i)) in
      let link : List ℕ = signatures 0 in
      let next : List ℕ = keys 1 in
      let below : List ℕ = joined more n ++ signatures (suc n) in
      let first : LmsSigOk (keys 0) next link = good.0 0 (omega arith) in
      let linked : AreLinked n (λ i. keys (suc i)) (λ i. signatures (suc i)) = ((λ i lt. good.0 (suc i) (omega (arith, lt))), good.1) in
      let whole : s ≡ link ++ (next ++ below) =
      spelled ∙ ap (λ (l : List ℕ). l ++ signatures (suc n)) (joined-first z n) ∙ append_assoc (z 0) (joined more n) (signatures (suc n)) ∙ append_assoc link next below in
      let behind : drop (len_by (keys 0)) s ≡ next ++ below =
      ap (drop (len_by (keys 0))) whole ∙ drop_at link (next ++ below) (len_by (keys 0)) (signature_long (keys 0) next link first) in
      let long : length next ≡ 56 = key_long n (λ i. keys (suc i)) (λ i. signatures (suc i)) linked in
      let next_is : next_key (keys 0) s ≡ next = ap (take 56) behind ∙ take_at next below 56 long in
      let rest_is : drop 56 (drop (len_by (keys 0)) s) ≡ below = ap (drop 56) behind ∙ drop_at next below 56 long in
      let leaf_is : leaf_in s ≡ leaf_in link = ap leaf_in whole ∙ leaf_front link (next ++ below) (four_within (keys 0) next link first) in
      let rest = (λ j. uses_from n (next_is j) message (rest_is j)) ∙ from_parts n (λ i. keys (suc i)) (λ i. signatures (suc i)) below refl linked in
      λ i. record { key = keys 0; leaf = leaf_is i; message = next_is i } ∷ rest i

one_part : (public message s : List ℕ) → LmsSigOk public message s → uses public message s ≡ record { key = public; leaf = leaf_in s; message = message } ∷ []
unfolding uses uses_from
one_part public message s ok =
    ap (λ (n : ℕ). if n == 60 then uses_from (number_in public 0 - 1) (drop 4 public) message (drop 4 s) else uses_from 0 public message s) ok.long

-- a key of 60 bytes: its number of levels, the first key, and what is behind both numbers
pub uses_behind : (public message s : List ℕ) → length public ≡ 60 → uses public message s ≡ uses_from (number_in public 0 - 1) (drop 4 public) message (drop 4 s)
unfolding uses
uses_behind public message s long =
    ap (λ (n : ℕ). if n == 60 then uses_from (number_in public 0 - 1) (drop 4 public) message (drop 4 s) else uses_from 0 public message s) long

-- any other key
pub uses_one : (public message s : List ℕ) → (length public ≡ 60 → ⊥) → uses public message s ≡ uses_from 0 public message s
unfolding uses
uses_one public message s other =
    ap (λ (b : Bool). if b then uses_from (number_in public 0 - 1) (drop 4 public) message (drop 4 s) else uses_from 0 public message s) (ne_eqb (length public) 60 other)

level_parts : (public message s : List ℕ) (ok : HssSigOk public message s) → uses public message s ≡ parts_of (ok.levels - 1) ok.signed.keys ok.signed.signatures message
level_parts public message s ok =
    let first : drop 4 public ≡ ok.first = spelled-rest ok.levels public ok.first ok.key in
    let rest : drop 4 s ≡ ok.rest = spelled-rest (ok.levels - 1) s ok.rest ok.spelled in
    let number : number_in public 0 ≡ ok.levels = spelled-number ok.levels public ok.first (omega (arith, ok.few)) ok.key in
    uses_behind public message s (hss-long public message s ok)
    ∙ (λ i. uses_from (number i - 1) (first i) message (rest i))
    ∙ ap (λ (k : List ℕ). uses_from (ok.levels - 1) k message ok.rest) (sym ok.signed.first)
    ∙ from_parts message (ok.levels - 1) ok.signed.keys ok.signed.signatures ok.rest ok.signed.spelled (ok.signed.signed, ok.signed.last)

pub uses_are_parts : UsesAreParts
uses_are_parts = record { of_one = one_part; of_levels = level_parts }
