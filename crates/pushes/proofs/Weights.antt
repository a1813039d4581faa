-- What is left to be named: it falls at each visit.
use Rattle.std.proofs.Common.{◌≡◌, ℕ, ◌+◌, ◌<◌, ◌≤◌, Bool, true, false, ◌||◌, cond, List, [], ◌∷◌, ◌++◌, Option, Some, None, length, reverse, refl, sym, ap, subst, ◌∙◌, arith, length-append}
use Rattle.std.specs.Prelude.{if◌then◌else◌}
use Rattle.std.specs.List.{find, list_any}
use Rattle.std.specs.Str.{bytes_eq}
use Rattle.std.proofs.lemmas.Bool.{true≢false, or_right}
use Rattle.std.proofs.lemmas.List.{length-reverse}
use Rattle.std.proofs.lemmas.List.Folds.{list_any-append}
use Rattle.std.proofs.lemmas.Slice.Eq.{bytes_eq-Decides}
use Rattle.git_object.specs.Ids.{zeros}
use Rattle.git_object.specs.Objects.{Pair, pair_id}
use Rattle.pushes.specs.Pushes.{has_own_id, object_in}
use Rattle.pushes.specs.Naming.{names_of}
use Rattle.pushes.specs.Needing.{has, is_done, names_in, names_or}

-- what one object may still name
abbrev part : List (List ℕ) → Pair → ℕ
part seen pair = if has seen (pair_id pair) then 0 else length (names_of pair)

abbrev pub weight : List Pair → List (List ℕ) → ℕ
weight [] seen = 0
weight (pair ∷ objects) seen = part seen pair + weight objects seen

one_more : (seen : List (List ℕ)) (id x : List ℕ) → has (seen ++ id ∷ []) x ≡ (has seen x || (bytes_eq id x || false))
one_more seen id x = list_any-append (λ (y : List ℕ). bytes_eq y x) seen (id ∷ [])

less : (a c : Bool) (n : ℕ) → (if a || c then 0 else n) ≤ (if a then 0 else n)
less true c n = omega arith
less false true n = omega arith
less false false n = omega arith

part_falls : (seen : List (List ℕ)) (id : List ℕ) (pair : Pair) → part (seen ++ id ∷ []) pair ≤ part seen pair
part_falls seen id pair =
    let x : List ℕ = pair_id pair in
    let n : ℕ = length (names_of pair) in
    let P : Bool → Type 0 = λ b. (if b then 0 else n) ≤ part seen pair in
    subst P (sym (one_more seen id x)) (less (has seen x) (bytes_eq id x || false) n)

weight_falls : (objects : List Pair) (seen : List (List ℕ)) (id : List ℕ) → weight objects (seen ++ id ∷ []) ≤ weight objects seen
weight_falls [] seen id = omega arith
weight_falls (pair ∷ objects) seen id = let a = part_falls seen id pair in let b = weight_falls objects seen id in omega arith

later : (a b : Bool) → (a || b) ≡ false → b ≡ false
later true b e = absurd (true≢false e)
later false b e = e

last_true : (a : Bool) → (a || (true || false)) ≡ true
last_true true = refl
last_true false = refl

pub falls : (objects : List Pair) (seen : List (List ℕ)) (id : List ℕ) → is_done seen id ≡ false → weight objects (seen ++ id ∷ []) + length (names_in objects id) ≤ weight objects seen
falls [] seen id fresh = omega arith
falls (pair ∷ objects) seen id fresh = by_test (has_own_id id pair) refl (falls objects seen id fresh)
  where
    by_test : (b : Bool) → has_own_id id pair ≡ b → weight objects (seen ++ id ∷ []) + length (names_in objects id) ≤ weight objects seen
        → (part (seen ++ id ∷ []) pair + weight objects (seen ++ id ∷ [])) + length (names_or (cond b (Some pair) (object_in objects id))) ≤ part seen pair + weight objects seen
    by_test true e more =
        let same : pair_id pair ≡ id = (bytes_eq-Decides (pair_id pair) id).0 e in
        let n : ℕ = length (names_of pair) in
        let P : Bool → ℕ = λ b. if b then 0 else n in
        let there : has (seen ++ id ∷ []) (pair_id pair) ≡ true =
        one_more seen id (pair_id pair) ∙ ap (λ (t : Bool). has seen (pair_id pair) || (t || false)) ((bytes_eq-Decides id (pair_id pair)).1 (sym same)) ∙ last_true (has seen (pair_id pair)) in
        let not_yet : has seen (pair_id pair) ≡ false = ap (has seen) same ∙ later (bytes_eq id zeros) (has seen id) fresh in
        let now : part (seen ++ id ∷ []) pair ≡ 0 = ap P there in
        let was : part seen pair ≡ n = ap P not_yet in
        let w = weight_falls objects seen id in
        omega (arith, now, was, w)
    by_test false e more = let p = part_falls seen id pair in omega (arith, p, more)

-- the measure of a walk falls at each visit
pub smaller : (objects : List Pair) (seen next before popped after : List (List ℕ)) (id : List ℕ) → is_done seen id ≡ false → next ≡ seen ++ id ∷ [] → before ≡ popped ++ id ∷ [] → reverse after ≡ names_in objects id ++ reverse popped
    → weight objects next + length after < weight objects seen + length before
smaller objects seen next before popped after id fresh next_is before_is after_is =
    let f = falls objects seen id fresh in
    let w : weight objects next ≡ weight objects (seen ++ id ∷ []) = ap (weight objects) next_is in
    let a : length before ≡ length (popped ++ id ∷ []) = ap length before_is in
    let b = length-append popped (id ∷ []) in
    let d : length (reverse after) ≡ length (names_in objects id ++ reverse popped) = ap length after_is in
    let e = length-append (names_in objects id) (reverse popped) in
    let g = length-reverse after in
    let h = length-reverse popped in
    omega (arith, f, w, a, b, d, e, g, h)
