-- Parts of a list that are read or written one after the other.
use Rattle.std.proofs.Common.{◌≡◌, ◌+◌, ℕ, zero, suc, List, [], ◌∷◌, ◌++◌, take, drop, refl, sym, ap, ◌∙◌, append_assoc, arith}
use Rattle.std.specs.Prelude.{Option, Some, None}
use Rattle.std.proofs.lemmas.List.{take-append-drop}
use Rattle.octets.specs.Content.{with_end}

-- nothing is left of nothing
drop_nothing : (m n : ℕ) → drop {A = ℕ} m [] ≡ drop n []
drop_nothing zero zero = refl
drop_nothing zero (suc n) = refl
drop_nothing (suc m) zero = refl
drop_nothing (suc m) (suc n) = refl

-- what is dropped in two steps
drop_further : (xs : List ℕ) (m n : ℕ) → drop n (drop m xs) ≡ drop (m + n) xs
drop_further xs zero n = let e : 0 + n ≡ n = omega arith in ap (λ (k : ℕ). drop k xs) (sym e)
drop_further [] (suc m) n = drop_nothing n (suc m + n)
drop_further (x ∷ xs) (suc m) n = let e : suc m + n ≡ suc (m + n) = omega arith in drop_further xs m n ∙ ap (λ (k : ℕ). drop k (x ∷ xs)) (sym e)

-- from one place on: so many, and what comes after them
pub rejoined : (xs : List ℕ) (at count : ℕ) → drop at xs ≡ take count (drop at xs) ++ drop (at + count) xs
rejoined xs at count = sym (take-append-drop count (drop at xs)) ∙ ap (λ (rest : List ℕ). take count (drop at xs) ++ rest) (drop_further xs at count)

-- two pieces at the end are one
pub with_ends : (told : Option (List ℕ)) (a b : List ℕ) → with_end (with_end told a) b ≡ with_end told (a ++ b)
with_ends None a b = refl
with_ends (Some before) a b = ap Some (append_assoc before a b)
