-- The table of names with one more, and with one less.
use Rattle.std.proofs.Common.{◌≡◌, ◌||◌, ◌++◌, ℕ, Bool, true, false, cond, is_some, List, [], ◌∷◌, refl, ap, sym, ◌∙◌, inl, inr}
use Rattle.std.specs.BTreeMap as tree
use Rattle.std.specs.BTreeMap.{BTreeMap}
use Rattle.std.specs.FinMap.{nat_cmp-IsAntisymmetric, slice_cmp-IsAntisymmetric}
use Rattle.std.specs.Ordering.{is_eq}
use Rattle.std.specs.Str.{bytes_eq}
use Rattle.std.specs.declared.cmp.Ordering.{Ordering}
use Rattle.std.specs.declared.cmp.Ordering.TheVariants.{Less, Equal, Greater}
use Rattle.std.proofs.lemmas.Bool.{cases_Bool, false≢true, true≢false}
use Rattle.std.proofs.lemmas.Cmp.{nat_list_cmp_total, tied_itself}
use Rattle.std.proofs.lemmas.Slice.Eq.{bytes_eq-Decides}
use Rattle.octets.specs.BytesMap.{by_bytes}
use Rattle.policy_changes.specs.Keeping.{AreKept}
use Rattle.policy_changes.specs.Names.{has_name}
use Rattle.policy_changes.proofs.LogNaming.{pushed_has}

same_key : (p q : List ℕ) → is_eq (by_bytes p q) ≡ true → p ≡ q
same_key p q e = by_order (by_bytes p q) refl e where
  by_order : (o : Ordering) → by_bytes p q ≡ o → is_eq o ≡ true → p ≡ q
  by_order Less is e = absurd (false≢true e)
  by_order Equal is e = slice_cmp-IsAntisymmetric nat_cmp-IsAntisymmetric p q is
  by_order Greater is e = absurd (false≢true e)

is_same : (p q : List ℕ) → is_eq (by_bytes p q) ≡ bytes_eq p q
is_same p q =
    elim (cases_Bool (bytes_eq p q)) [
      | inl is ↦
          let same : p ≡ q = (bytes_eq-Decides p q).0 is in
          ap (λ x. is_eq (by_bytes x q)) same ∙ ap is_eq (tied_itself nat_list_cmp_total q) ∙ sym is
      | inr isnt ↦
          elim (cases_Bool (is_eq (by_bytes p q))) [
            | inl tied ↦ absurd (true≢false (sym ((bytes_eq-Decides p q).1 (same_key p q tied)) ∙ isnt))
            | inr apart ↦ apart ∙ sym isnt
          ]
    ]

or_either : (a b : Bool) → cond b true a ≡ (a || b)
or_either true true = refl
or_either true false = refl
or_either false true = refl
or_either false false = refl

module _ (names : List (List ℕ)) (name key : List ℕ) (was mid : BTreeMap (List ℕ) ℕ) (kept : AreKept names was) (same : key ≡ name)
    (put : (q : List ℕ) → is_some (tree.get by_bytes mid q) ≡ cond (is_eq (by_bytes key q)) true (is_some (tree.get by_bytes was q))) where
  pub kept_more : (more : List (List ℕ)) → more ≡ names ++ name ∷ [] → AreKept more mid
  kept_more more is = λ q.
      put q ∙ ap (λ k. cond (is_eq (by_bytes k q)) true (is_some (tree.get by_bytes was q))) same
      ∙ ap (λ b. cond b true (is_some (tree.get by_bytes was q))) (is_same name q)
      ∙ ap (cond (bytes_eq name q) true) (kept q) ∙ or_either (has_name names q) (bytes_eq name q)
      ∙ sym (ap (λ xs. has_name xs q) is ∙ pushed_has names name q)

  pub kept_less : (now : BTreeMap (List ℕ) ℕ) → has_name names name ≡ false → (still : List (List ℕ)) → still ≡ names
      → ((q : List ℕ) → is_some (tree.get by_bytes now q) ≡ cond (is_eq (by_bytes name q)) false (is_some (tree.get by_bytes mid q))) → AreKept still now
  kept_less now new still is taken = λ q.
      taken q ∙ ap (λ b. cond b false (is_some (tree.get by_bytes mid q))) (is_same name q) ∙ by_name q ∙ sym (ap (λ xs. has_name xs q) is)
    where
      by_name : (q : List ℕ) → cond (bytes_eq name q) false (is_some (tree.get by_bytes mid q)) ≡ has_name names q
      by_name q =
          elim (cases_Bool (bytes_eq name q)) [
            | inl here ↦ ap (λ b. cond b false (is_some (tree.get by_bytes mid q))) here ∙ sym (ap (has_name names) (sym ((bytes_eq-Decides name q).0 here)) ∙ new)
            | inr other ↦
                ap (λ b. cond b false (is_some (tree.get by_bytes mid q))) other ∙ put q
                ∙ ap (λ k. cond (is_eq (by_bytes k q)) true (is_some (tree.get by_bytes was q))) same
                ∙ ap (λ b. cond b true (is_some (tree.get by_bytes was q))) (is_same name q ∙ other) ∙ kept q
          ]
