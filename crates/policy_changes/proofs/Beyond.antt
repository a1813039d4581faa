-- What is found beyond others, and what is not.
use Rattle.std.proofs.Common.{◌≡◌, ◌&&◌, ◌||◌, ◌∷◌, ℕ, Bool, true, false, cond, not, List, [], refl, ap, sym, ◌∙◌, inl, inr}
use Rattle.std.specs.List.{fold}
use Rattle.std.specs.Str.{bytes_eq}
use Rattle.std.proofs.lemmas.Bool.{cases_Bool}
use Rattle.std.proofs.lemmas.Slice.Eq.{bytes_eq-Decides}
use Rattle.policy_changes.specs.Names.{has_name, with_name}
use Rattle.policy_changes.proofs.LogNaming.{with_has}
use Rattle.policy_changes.specs.Changes.{with_beyond}
use Rattle.policy_changes.specs.Laws.{ToldWhere}

or_false : (b : Bool) → (b || false) ≡ b
or_false true = refl
or_false false = refl

-- f, that a text was found; e, that it is the next; h, that it is a later one
hidden : (f e h : Bool) → (f || (h && false)) ≡ (f || ((e || h) && false))
hidden true e h = refl
hidden false true true = refl
hidden false true false = refl
hidden false false h = refl

shown : (f e h : Bool) → ((f || e) || (h && true)) ≡ (f || ((e || h) && true))
shown true e h = refl
shown false true h = refl
shown false false h = refl

module _ (there : List (List ℕ)) (q x : List ℕ) (f h : Bool) where
  abbrev n : Bool
  n = not (has_name there q)

  -- the next is there
  passed : has_name there x ≡ true → (f || (h && n)) ≡ (f || ((bytes_eq x q || h) && n))
  passed is = elim (cases_Bool (bytes_eq x q)) [
    | inl own ↦
        let has : has_name there q ≡ true = ap (has_name there) (sym ((bytes_eq-Decides x q).0 own)) ∙ is in
        ap (λ (b : Bool). f || (h && not b)) has ∙ hidden f (bytes_eq x q) h
        ∙ sym (ap (λ (b : Bool). f || ((bytes_eq x q || h) && not b)) has)
    | inr other ↦ sym (ap (λ (e : Bool). f || ((e || h) && n)) other)
  ]

  -- it is not
  taken : has_name there x ≡ false → ((f || bytes_eq x q) || (h && n)) ≡ (f || ((bytes_eq x q || h) && n))
  taken isnt = elim (cases_Bool (bytes_eq x q)) [
    | inl own ↦
        let has : has_name there q ≡ false = ap (has_name there) (sym ((bytes_eq-Decides x q).0 own)) ∙ isnt in
        ap (λ (b : Bool). (f || bytes_eq x q) || (h && not b)) has ∙ shown f (bytes_eq x q) h
        ∙ sym (ap (λ (b : Bool). f || ((bytes_eq x q || h) && not b)) has)
    | inr other ↦
        ap (λ (e : Bool). (f || e) || (h && n)) other ∙ ap (λ (b : Bool). b || (h && n)) (or_false f)
        ∙ sym (ap (λ (e : Bool). f || ((e || h) && n)) other)
  ]

found_has : (there : List (List ℕ)) (q : List ℕ) (found texts : List (List ℕ))
    → has_name (fold (with_beyond there) found texts) q ≡ (has_name found q || (has_name texts q && not (has_name there q)))
found_has there q found [] = sym (or_false (has_name found q))
found_has there q found (x ∷ texts) =
    let next : Bool → List (List ℕ) = λ b. fold (with_beyond there) (cond b found (with_name found x)) texts in
    elim (cases_Bool (has_name there x)) [
      | inl is ↦ ap (λ (b : Bool). has_name (next b) q) is ∙ found_has there q found texts ∙ passed there q x (has_name found q) (has_name texts q) is
      | inr isnt ↦
          ap (λ (b : Bool). has_name (next b) q) isnt ∙ found_has there q (with_name found x) texts
          ∙ ap (λ (b : Bool). b || (has_name texts q && not (has_name there q))) (with_has found x q)
          ∙ taken there q x (has_name found q) (has_name texts q) isnt
    ]

pub told_where : ToldWhere
told_where = record { told = λ there texts text. found_has there text [] texts }
