-- Ids and what is kept under them.
use Rattle.std.proofs.Common.{◌≡◌, ◌-◌, ◌++◌, ℕ, true, cond, List, [], ◌∷◌, Option, None, length, take, refl, ap, sym, subst, inl, inr, ◌∙◌, arith}
use Rattle.std.specs.Cmp.{eq_by_cmp_equiv}
use Rattle.std.specs.Cmp.Lexicographic.{bytes_decides, nat_list_cmp_total}
use Rattle.std.specs.FinMap.{nat_cmp-IsAntisymmetric, slice_cmp-IsAntisymmetric}
use Rattle.std.specs.Ordering.{is_eq}
use Rattle.std.specs.Str.{bytes_eq}
use Rattle.std.specs.declared.cmp.Ordering.{Ordering}
use Rattle.std.specs.declared.cmp.Ordering.TheVariants.{Equal, Less, Greater}
use Rattle.std.proofs.lemmas.Bool.{cases_Bool, true≢false}
use Rattle.std.proofs.lemmas.Bool.Decides.{same_from_decides}
use Rattle.std.proofs.lemmas.List.{length_push, take_at}
use Rattle.octets.specs.BytesMap.{by_bytes}

is_equal : (o : Ordering) → is_eq o ≡ true → o ≡ Equal
is_equal Less e = absurd (true≢false (sym e))
is_equal Equal e = refl
is_equal Greater e = absurd (true≢false (sym e))

pub same_id : (a b : List ℕ) → is_eq (by_bytes a b) ≡ true → a ≡ b
same_id a b e = slice_cmp-IsAntisymmetric nat_cmp-IsAntisymmetric a b (is_equal (by_bytes a b) e)

pub same_test : (a b : List ℕ) → is_eq (by_bytes a b) ≡ bytes_eq a b
same_test a b =
    same_from_decides (is_eq (by_bytes a b)) (bytes_eq a b)
    (same_id a b, λ e. subst (λ (x : List ℕ). is_eq (by_bytes a x) ≡ true) e ((eq_by_cmp_equiv nat_list_cmp_total).refl a)) (bytes_decides a b)

-- what was put under an id that had nothing, and taken away again
pub taken_back : {X : Type 0} (id q : List ℕ) (old put new : List ℕ → Option X) (x : Option X) → old id ≡ None → put q ≡ cond (is_eq (by_bytes id q)) x (old q) → new q ≡ cond (is_eq (by_bytes id q)) None (put q) → new q ≡ old q
taken_back id q old put new x none was now =
    elim (cases_Bool (is_eq (by_bytes id q))) [
      | inl is ↦ now ∙ ap (λ b. cond b None (put q)) is ∙ sym (ap old (sym (same_id id q is)) ∙ none)
      | inr isnt ↦ now ∙ ap (λ b. cond b None (put q)) isnt ∙ was ∙ ap (λ b. cond b x (old q)) isnt
    ]

pub front_of : {X : Type 0} (xs : List X) (x : X) → take (length (xs ++ x ∷ []) - 1) (xs ++ x ∷ []) ≡ xs
front_of xs x = take_at xs (x ∷ []) (length (xs ++ x ∷ []) - 1) (let e = length_push xs x in omega arith)
