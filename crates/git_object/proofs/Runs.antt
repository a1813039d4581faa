-- A run of records in front of a text: two runs that cannot go on are one.
use Rattle.std.proofs.Common.{◌≡◌, ◌≢◌, ℕ, List, [], ◌∷◌, ◌++◌, refl, sym, ap, subst, ◌∙◌, append_assoc}
use Rattle.std.specs.List.{AllByRecursion, flat_map}

pub all_front : {X : Type 0} (P : X → Type 0) (xs ys : List X) → AllByRecursion P (xs ++ ys) → AllByRecursion P xs
all_front P [] ys all = tt
all_front P (x ∷ xs) ys all = (all.0, all_front P xs ys all.1)

pub all_last : {X : Type 0} (P : X → Type 0) (xs : List X) (x : X) → AllByRecursion P (xs ++ x ∷ []) → P x
all_last P [] x all = all.0
all_last P (y ∷ xs) x all = all_last P xs x all.1

pub all_push : {X : Type 0} (P : X → Type 0) (xs : List X) (x : X) → AllByRecursion P xs → P x → AllByRecursion P (xs ++ x ∷ [])
all_push P [] x all is = (is, tt)
all_push P (y ∷ xs) x all is = (all.0, all_push P xs x all.1 is)

pub flat_push : {X : Type 0} (f : X → List ℕ) (xs : List X) (x : X) → flat_map f (xs ++ x ∷ []) ≡ flat_map f xs ++ f x
flat_push f [] x = append_none (f x)
  where
    append_none : (a : List ℕ) → a ++ [] ≡ a
    append_none [] = refl
    append_none (b ∷ a) = ap (λ (rest : List ℕ). b ∷ rest) (append_none a)
flat_push f (y ∷ xs) x = ap (λ (rest : List ℕ). f y ++ rest) (flat_push f xs x) ∙ sym (append_assoc (f y) (flat_map f xs) (f x))

-- `P` says that records may stand after one another; `same` that one record is read in one way
module _ {X : Type 0} (text_of : X → List ℕ) (P : List X → Type 0) (front : (xs ys : List X) → P (xs ++ ys) → P xs)
    (same : (xs : List X) (e f : X) (x y : List ℕ) → P (xs ++ e ∷ []) → P (xs ++ f ∷ []) → text_of e ++ x ≡ text_of f ++ y → (e ≡ f) × (x ≡ y)) where
  -- no record goes on from these here
  abbrev pub IsEnd : List X → List ℕ → Type 0
  IsEnd xs rest = (e : X) (more : List ℕ) → P (xs ++ e ∷ []) → rest ≢ text_of e ++ more

  next : (done : List X) (x : X) (xs : List X) → P (done ++ x ∷ xs) → P (done ++ x ∷ [])
  next done x xs p = front (done ++ x ∷ []) xs (subst P (sym (append_assoc done (x ∷ []) xs)) p)

  after : (done : List X) (x : X) → P (done ++ x ∷ []) → P ((done ++ []) ++ x ∷ [])
  after done x p = subst P (sym (append_assoc done [] (x ∷ []))) p

  pub one_run : (done xs ys : List X) (rest tail : List ℕ) → P (done ++ xs) → P (done ++ ys) → IsEnd (done ++ xs) rest → IsEnd (done ++ ys) tail
      → flat_map text_of xs ++ rest ≡ flat_map text_of ys ++ tail → (xs ≡ ys) × (rest ≡ tail)
  one_run done [] [] rest tail px py ends end e = (refl, e)
  one_run done [] (y ∷ ys) rest tail px py ends end e =
      absurd (ends y (flat_map text_of ys ++ tail) (after done y (next done y ys py)) (e ∙ append_assoc (text_of y) (flat_map text_of ys) tail))
  one_run done (x ∷ xs) [] rest tail px py ends end e =
      absurd (end x (flat_map text_of xs ++ rest) (after done x (next done x xs px)) (sym e ∙ append_assoc (text_of x) (flat_map text_of xs) rest))
  one_run done (x ∷ xs) (y ∷ ys) rest tail px py ends end e =
      let first = same done x y (flat_map text_of xs ++ rest) (flat_map text_of ys ++ tail) (next done x xs px) (next done y ys py)
      (sym (append_assoc (text_of x) (flat_map text_of xs) rest) ∙ e ∙ append_assoc (text_of y) (flat_map text_of ys) tail) in
      let there = λ (zs : List X). sym (append_assoc done (x ∷ []) zs) in
      let py' : P (done ++ x ∷ ys) = subst (λ z. P (done ++ z ∷ ys)) (sym first.0) py in
      let end' : IsEnd (done ++ x ∷ ys) tail = subst (λ z. IsEnd (done ++ z ∷ ys) tail) (sym first.0) end in
      let then = one_run (done ++ x ∷ []) xs ys rest tail (subst P (there xs) px) (subst P (there ys) py')
      (subst (λ zs. IsEnd zs rest) (there xs) ends) (subst (λ zs. IsEnd zs tail) (there ys) end') first.1 in
      (λ i. first.0 i ∷ then.0 i, then.1)
