-- The first of some items that passes a test, and fronts of lists.
use Rattle.std.proofs.Common.{◌≡◌, ℕ, zero, suc, ◌+◌, Bool, true, false, List, [], ◌∷◌, ◌++◌, Option, Some, None, take, refl, sym, ap, ◌∙◌, arith}
use Rattle.std.specs.Prelude.{◌||◌, cond, slice_get}
use Rattle.std.specs.List.{find}
use Rattle.std.specs.Str.{bytes_eq}
use Rattle.std.proofs.lemmas.Bool.{true≢false}
use Rattle.pushes.specs.Needing.{has}
use Rattle.std.specs.Option.{is_none}
use Rattle.git_object.specs.Objects.{Pair}
use Rattle.git_object.specs.Repository.{Repository, object_at}
use Rattle.pushes.specs.Making.{is_missing}
use Rattle.pushes.proofs.Values.{same_some}

module _ {A : Type 0} (p : A → Bool) where
  pub first_at : (xs : List A) (i : ℕ) (x : A) → slice_get xs i ≡ Some x → find p (take i xs) ≡ None → p x ≡ true → find p xs ≡ Some x
  first_at [] i x there none is = absurd (cc there)
  first_at (y ∷ xs) zero x there none is =
      let same : y ≡ x = same_some y x there in
      ap (λ (b : Bool). cond b (Some y) (find p xs)) (ap p same ∙ is) ∙ ap Some same
  first_at (y ∷ xs) (suc i) x there none is = by_test (p y) (λ e. first_at xs i x there e is) none
    where
      by_test : (b : Bool) → (find p (take i xs) ≡ None → find p xs ≡ Some x) → cond b (Some y) (find p (take i xs)) ≡ None
          → cond b (Some y) (find p xs) ≡ Some x
      by_test true more e = absurd (cc e)
      by_test false more e = more e

  pub none_next : (xs : List A) (i : ℕ) (x : A) → slice_get xs i ≡ Some x → find p (take i xs) ≡ None → p x ≡ false → find p (take (suc i) xs) ≡ None
  none_next [] i x there none is = absurd (cc there)
  none_next (y ∷ xs) zero x there none is =
      let same : y ≡ x = same_some y x there in
      ap (λ (b : Bool). cond b (Some y) None) (ap p same ∙ is)
  none_next (y ∷ xs) (suc i) x there none is = by_test (p y) (λ e. none_next xs i x there e is) none
    where
      by_test : (b : Bool) → (find p (take i xs) ≡ None → find p (take (suc i) xs) ≡ None) → cond b (Some y) (find p (take i xs)) ≡ None
          → cond b (Some y) (find p (take (suc i) xs)) ≡ None
      by_test true more e = absurd (cc e)
      by_test false more e = more e

  pub none_more : (xs : List A) (i : ℕ) (x : A) → slice_get xs i ≡ Some x → find p (take i xs) ≡ None → p x ≡ false → find p (take (i + 1) xs) ≡ None
  none_more xs i x there none is =
      let next : i + 1 ≡ suc i = omega arith in ap (λ (n : ℕ). find p (take n xs)) next ∙ none_next xs i x there none is

pub missing_is : (r : Repository) (id : List ℕ) → object_at r id ≡ None → is_missing r id ≡ true
missing_is r id none = ap is_none none

pub kept_is : (r : Repository) (id : List ℕ) → (object_at r id ≡ None → ⊥) → is_missing r id ≡ false
kept_is r id never = by_found (object_at r id) never
  where
    by_found : (o : Option Pair) → (o ≡ None → ⊥) → is_none o ≡ false
    by_found None some = absurd (some refl)
    by_found (Some pair) some = refl

pub take_next : {A : Type 0} (xs : List A) (i : ℕ) (x : A) → slice_get xs i ≡ Some x → take (suc i) xs ≡ take i xs ++ x ∷ []
take_next [] i x there = absurd (cc there)
take_next {A} (y ∷ xs) zero x there = ap (λ (a : A). a ∷ []) (same_some y x there)
take_next {A} (y ∷ xs) (suc i) x there = ap (λ (rest : List A). y ∷ rest) (take_next xs i x there)

pub has_taken : (xs : List (List ℕ)) (i : ℕ) (q : List ℕ) → has (take i xs) q ≡ true → has xs q ≡ true
has_taken [] zero q e = e
has_taken [] (suc i) q e = e
has_taken (x ∷ xs) zero q e = absurd (true≢false (sym e))
has_taken (x ∷ xs) (suc i) q e = by_test (bytes_eq x q) (has_taken xs i q) e
  where
    by_test : (b : Bool) → (has (take i xs) q ≡ true → has xs q ≡ true) → (b || has (take i xs) q) ≡ true → (b || has xs q) ≡ true
    by_test true more h = refl
    by_test false more h = more h
