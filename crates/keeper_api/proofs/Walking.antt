-- A walk over a map by the entry after a key meets each entry in its place.
use Rattle.std.proofs.Common.{◌≡◌, ℕ, suc, Bool, true, false, cond, ◌&&◌, T, List, [], ◌∷◌, Some, refl, ap, subst, ◌∙◌}
use Rattle.std.proofs.lemmas.Cmp.{nat_list_cmp_total}
use Rattle.std.proofs.lemmas.Option.{same_Some}
use Rattle.std.specs.Cmp.{IsTotalOrder, tied_itself}
use Rattle.std.specs.FinMap.{entries, entries_sorted, is_sorted}
use Rattle.std.specs.FinMap.Entries.{below_all}
use Rattle.std.specs.List.{find, slice_get}
use Rattle.std.specs.Ordering.{is_lt, ordering_reverse}
use Rattle.std.specs.declared.cmp.Ordering.{Ordering}
use Rattle.std.specs.declared.cmp.Ordering.TheVariants.{Less, Equal, Greater}
use Rattle.octets.specs.BytesMap.{BytesMap, entry_after}
use Prim.Native.Nat as Nat

first : (a b : Bool) → T (a && b) → T a
first true b p = tt
first false b p = p

second : (a b : Bool) → T (a && b) → T b
second true b p = p
second false b p = absurd p

is_true : (b : Bool) → T b → b ≡ true
is_true true p = refl
is_true false p = absurd p

-- what is below another is not above it
turned : (r s : Ordering) → s ≡ ordering_reverse r → T (is_lt r) → is_lt s ≡ false
turned Less s e p = ap is_lt e
turned Equal s e p = absurd p
turned Greater s e p = absurd p

module _ {K X : Type 0} {R : K → K → Ordering} (o : IsTotalOrder R) where
  below_at : (k : K) (es : List (K × X)) (i : ℕ) (e : K × X) → T (below_all R k es) → slice_get es i ≡ Some e → T (is_lt (R k e.0))
  below_at k [] i e h at = cc
  below_at k (x ∷ es) Nat.zero e h at = subst (λ (y : K × X). T (is_lt (R k y.0))) (same_Some x e at) (first _ _ h)
  below_at k (x ∷ es) (suc i) e h at = below_at k es i e (second _ _ h) at

  first_above : (x : K × X) (es : List (K × X)) → T (below_all R x.0 es) → find (λ f. is_lt (R x.0 f.0)) es ≡ slice_get es 0
  first_above x [] h = refl
  first_above x (y ∷ es) h =
      ap (λ b. cond b (Some y) (find (λ f. is_lt (R x.0 f.0)) es)) (is_true _ (first _ _ h))

  next_at : (es : List (K × X)) (i : ℕ) (e : K × X) → T (is_sorted R es) → slice_get es i ≡ Some e → find (λ f. is_lt (R e.0 f.0)) es ≡ slice_get es (suc i)
  next_at [] i e h at = cc
  next_at (x ∷ es) Nat.zero e h at =
      subst (λ (y : K × X). find (λ f. is_lt (R y.0 f.0)) (x ∷ es) ≡ slice_get es 0) (same_Some x e at)
      (ap (λ r. cond (is_lt r) (Some x) (find (λ f. is_lt (R x.0 f.0)) es)) (tied_itself o x.0) ∙ first_above x es (first _ _ h))
  next_at (x ∷ es) (suc i) e h at =
      ap (λ b. cond b (Some x) (find (λ f. is_lt (R e.0 f.0)) es)) (turned (R x.0 e.0) (R e.0 x.0) (o.antisymm e.0 x.0) (below_at x.0 es i e (first _ _ h) at))
      ∙ next_at es i e (second _ _ h) at

-- the entry after the key of the one at a place is the one at the next place
pub entry_after_at : {X : Type 0} (m : BytesMap X) (i : ℕ) (e : List ℕ × X) → slice_get (entries m) i ≡ Some e → entry_after m (Some e.0) ≡ slice_get (entries m) (suc i)
entry_after_at m i e at = next_at nat_list_cmp_total (entries m) i e (entries_sorted m) at
