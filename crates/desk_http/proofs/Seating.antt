-- What holds of each item of a list, and of its last.
use Rattle.std.proofs.Common.{◌≡◌, ◌<◌, ◌+◌, ℕ, zero, suc, List, [], ◌∷◌, ◌++◌, length, get_or, refl, ap, subst, arith, length-append, append-nil}
use Rattle.std.specs.Prelude.{All, Option, Some, None, IfSome}
use Rattle.std.specs.Option.{option_to_list}
use Rattle.std.proofs.lemmas.List.Elements.{All-append, All-cons}

front_at : {A : Type 0} (xs ys : List A) (k : ℕ) (d : A) → k < length xs → get_or (xs ++ ys) k d ≡ get_or xs k d
front_at [] ys k d lt = absurd (omega arith)
front_at (x ∷ xs) ys zero d lt = refl
front_at (x ∷ xs) ys (suc k) d lt = front_at xs ys k d (omega arith)

end_at : {A : Type 0} (xs : List A) (x d : A) → get_or (xs ++ x ∷ []) (length xs) d ≡ x
end_at [] x d = refl
end_at (y ∷ xs) x d = end_at xs x d

module _ {A : Type 0} (P : A → Type 0) (xs : List A) (x : A) where
  pub all_front : All P (xs ++ x ∷ []) → All P xs
  all_front all k d lt = subst P (front_at xs (x ∷ []) k d lt) (all k d (omega (arith, lt, length-append xs (x ∷ []))))

  pub all_end : All P (xs ++ x ∷ []) → P x
  all_end all = subst P (end_at xs x x) (all (length xs) x (omega (arith, length-append xs (x ∷ []))))

  pub all_more : All P xs → P x → All P (xs ++ x ∷ [])
  all_more all p = All-append P xs (x ∷ []) all (All-cons P x [] p (λ k d lt. absurd (omega (arith, lt))))

module _ {A : Type 0} (P : A → Type 0) (xs : List A) where
  pub all_but_last : (last : Option A) → All P (xs ++ option_to_list last) → All P xs
  all_but_last (Some x) all = all_front P xs x all
  all_but_last None all = subst (All P) (append-nil xs) all

  pub all_last : (last : Option A) → All P (xs ++ option_to_list last) → IfSome last P
  all_last (Some x) all = all_end P xs x all
  all_last None all = tt

-- there is one fewer where there was a last
pub one_fewer : {A : Type 0} (xs ys : List A) (last : Option A) → ys ≡ xs ++ option_to_list last → IfSome last (λ x. length xs + 1 ≡ length ys)
one_fewer xs ys (Some x) is = omega (arith, length-append xs (x ∷ []), ap length is)
one_fewer xs ys None is = tt
