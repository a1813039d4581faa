-- Names of which one is told from the other by a test, and names that are the same bytes.
use Rattle.std.proofs.Common.{◌≡◌, ℕ, Bool, true, false, List, refl, sym, ap, ◌∙◌}
use Rattle.std.specs.Cmp.{tied_itself}
use Rattle.std.specs.Ordering.{eq_by_cmp, is_eq}
use Rattle.std.specs.Str.{bytes_eq}
use Rattle.std.specs.declared.cmp.Ordering.{Ordering}
use Rattle.std.specs.declared.cmp.Ordering.TheVariants.{Less, Equal, Greater}
use Rattle.std.proofs.lemmas.Bool.{false≢true}
use Rattle.std.proofs.lemmas.Cmp.{nat_list_cmp_total}
use Rattle.std.proofs.lemmas.Slice.Eq.{bytes_eq-Decides}
use Rattle.octets.specs.BytesMap.{by_bytes}
use Rattle.keeper_api.proofs.Trees.{exact_bytes}

-- names that a test tells apart do not tie
pub told_apart : (test : List ℕ → Bool) (q name : List ℕ) → (test q ≡ test name → ⊥) → eq_by_cmp by_bytes q name ≡ false
told_apart test q name differ = by_order (by_bytes q name) refl where
  by_order : (o : Ordering) → by_bytes q name ≡ o → is_eq o ≡ false
  by_order Less is = refl
  by_order Greater is = refl
  by_order Equal is = absurd (differ (ap test (exact_bytes q name is)))

-- to tie is to be the same bytes
pub same_test : (a b : List ℕ) → eq_by_cmp by_bytes a b ≡ bytes_eq a b
same_test a b = by_test (bytes_eq a b) refl where
  by_test : (t : Bool) → bytes_eq a b ≡ t → eq_by_cmp by_bytes a b ≡ t
  by_test true is = ap (λ (x : List ℕ). eq_by_cmp by_bytes a x) (sym ((bytes_eq-Decides a b).0 is)) ∙ ap is_eq (tied_itself nat_list_cmp_total a)
  by_test false is = by_order (by_bytes a b) refl where
    by_order : (o : Ordering) → by_bytes a b ≡ o → is_eq o ≡ false
    by_order Less at = refl
    by_order Greater at = refl
    by_order Equal at = absurd (false≢true (sym is ∙ (bytes_eq-Decides a b).1 (exact_bytes a b at)))
