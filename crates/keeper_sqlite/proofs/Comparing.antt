-- Schemas, put together from what was compared.
use Rattle.std.proofs.Common.{◌≡◌, suc, List, [], ◌∷◌, length, Some, ap, arith}
use Rattle.std.specs.Prelude.{slice_get}

-- a list of so many items, by each of them
pub one_item : {X : Type 0} (xs : List X) (a : X) → length xs ≡ 1 → slice_get xs 0 ≡ Some a → xs ≡ a ∷ []
one_item [] a n p = absurd (let e : 0 ≡ 1 = n in cc)
one_item (x ∷ []) a n p = let e : x ≡ a = cc in ap (λ y. y ∷ []) e
one_item (x ∷ y ∷ xs) a n p = absurd (let e : suc (suc (length xs)) ≡ 1 = n in omega (arith, e))

pub two_items : {X : Type 0} (xs : List X) (a b : X) → length xs ≡ 2 → slice_get xs 0 ≡ Some a → slice_get xs 1 ≡ Some b → xs ≡ a ∷ b ∷ []
two_items [] a b n p q = absurd (let e : 0 ≡ 2 = n in cc)
two_items (x ∷ []) a b n p q = absurd (let e : 1 ≡ 2 = n in cc)
two_items (x ∷ y ∷ []) a b n p q = let e : x ≡ a = cc in let f : y ≡ b = cc in λ i. e i ∷ f i ∷ []
two_items (x ∷ y ∷ z ∷ xs) a b n p q = absurd (let e : suc (suc (suc (length xs))) ≡ 2 = n in omega (arith, e))

pub three_items : {X : Type 0} (xs : List X) (a b d : X) → length xs ≡ 3 → slice_get xs 0 ≡ Some a → slice_get xs 1 ≡ Some b → slice_get xs 2 ≡ Some d → xs ≡ a ∷ b ∷ d ∷ []
three_items [] a b d n p q r = absurd (let e : 0 ≡ 3 = n in cc)
three_items (x ∷ []) a b d n p q r = absurd (let e : 1 ≡ 3 = n in cc)
three_items (x ∷ y ∷ []) a b d n p q r = absurd (let e : 2 ≡ 3 = n in cc)
three_items (x ∷ y ∷ z ∷ []) a b d n p q r = let e : x ≡ a = cc in let f : y ≡ b = cc in let h : z ≡ d = cc in λ i. e i ∷ f i ∷ h i ∷ []
three_items (x ∷ y ∷ z ∷ w ∷ xs) a b d n p q r = absurd (let e : suc (suc (suc (suc (length xs)))) ≡ 3 = n in omega (arith, e))

pub first_item : {X : Type 0} (xs : List X) (a b : X) (rest : List X) → Some a ≡ slice_get xs 0 → xs ≡ b ∷ rest → a ≡ b
first_item xs a b rest p q = let e : slice_get xs 0 ≡ Some b = ap (λ l. slice_get l 0) q in cc
