-- Inserts of inserts: one more at the end, and the last one taken back.
use Rattle.std.proofs.Common.{◌≡◌, Bool, true, false, cond, List, [], ◌∷◌, ◌++◌, Option, Some, IsSome, is_some, refl, sym, ap, subst, ◌∙◌}
use Rattle.std.specs.BTreeMap as tree
use Rattle.std.specs.BTreeMap.{BTreeMap}
use Rattle.std.specs.Cmp.{IsTotalOrder, tied_itself}
use Rattle.std.specs.FinMap.{FinMap, IsAntisymmetric, get, get_tied, get-insert, insert, same_map}
use Rattle.std.specs.Ordering.{eq_by_cmp, is_eq}
use Rattle.std.specs.declared.cmp.Ordering.{Ordering}
use Rattle.std.specs.declared.cmp.Ordering.TheVariants.{Less, Equal, Greater}
use Rattle.keeper_api.specs.Trees.{tree_map, with_entries}
use Rattle.keeper_api.specs.Undoing.{Inserts}
use Rattle.keeper_api.proofs.Trees.{get_tree, get_tree_put}

equal : (r : Ordering) → is_eq r ≡ true → r ≡ Equal
equal Less p = cc
equal Equal p = refl
equal Greater p = cc

module _ {K X : Type 0} {R : K → K → Ordering} where
  pub steps_push : (first last : FinMap R X) (steps : List (K × Option X)) (k : K) (v : X) → Inserts first steps last → Inserts first (steps ++ (k, get last k) ∷ []) (insert last k v)
  steps_push first last [] k v h = (v, ap (λ m. get m k) h, ap (λ m. insert m k v) h)
  steps_push first last (s ∷ steps) k v h = (h.0, h.1, steps_push (insert first s.0 h.0) last steps k v h.2)

  -- the map before the last step, and what the step put
  pub steps_pop : (first last : FinMap R X) (steps : List (K × Option X)) (step : K × Option X) → Inserts first (steps ++ step ∷ []) last → (prior : FinMap R X) × (v : X) × Inserts first steps prior × (step.1 ≡ get prior step.0) × (last ≡ insert prior step.0 v)
  steps_pop first last [] step h = (first, h.0, refl, h.1, h.2)
  steps_pop first last (s ∷ steps) step h =
      let x = steps_pop (insert first s.0 h.0) last steps step h.2 in
      (x.0, x.1, (h.0, h.1, x.2), x.3, x.4)

  pub with_entries_push : (es : List (K × X)) (k : K) (v : X) (m : FinMap R X) → with_entries (es ++ (k, v) ∷ []) m ≡ insert (with_entries es m) k v
  with_entries_push [] k v m = refl
  with_entries_push (e ∷ es) k v m = with_entries_push es k v (insert m e.0 e.1)

  module _ (o : IsTotalOrder R) where
    -- what a key had, put back where it was given a value
    back : (prior : FinMap R X) (k q : K) (v : X) (had : Option X) (b : Bool) → had ≡ get prior k → eq_by_cmp R q k ≡ b → cond b had (cond b (Some v) (get prior q)) ≡ get prior q
    back prior k q v had true e t = e ∙ get_tied o prior q k (equal _ t)
    back prior k q v had false e t = refl

    -- a key that was given a value is there
    pub is_there : (m prior : FinMap R X) (k : K) (v : X) → m ≡ insert prior k v → IsSome (get m k)
    is_there m prior k v e =
        ap (λ n. is_some (get n k)) e
        ∙ ap is_some (get-insert o prior k v k ∙ ap (λ r. cond (is_eq r) (Some v) (get prior k)) (tied_itself o k))

    module _ (exact : IsAntisymmetric R) where
      pub taken_back : (m n prior : FinMap R X) (k : K) (v : X) (had : Option X) → m ≡ insert prior k v → had ≡ get prior k → ((q : K) → get n q ≡ cond (eq_by_cmp R q k) had (get m q)) → n ≡ prior
      taken_back m n prior k v had is e h =
          same_map o exact n prior (λ q.
          h q ∙ ap (λ x. cond (eq_by_cmp R q k) had (get x q)) is
          ∙ ap (cond (eq_by_cmp R q k) had) (get-insert o prior k v q)
          ∙ back prior k q v had (eq_by_cmp R q k) e refl)

      -- the last step of a tree, taken back
      pub steps_back : (first : FinMap R X) (t u : BTreeMap K X) (steps : List (K × Option X)) (step : K × Option X) → Inserts first (steps ++ step ∷ []) (tree_map R t)
          → ((IsSome step.1 → IsSome (tree.get R t step.0)) → (q : K) → tree.get R u q ≡ cond (eq_by_cmp R step.0 q) step.1 (tree.get R t q)) → Inserts first steps (tree_map R u)
      steps_back first t u steps step h put =
          let x = steps_pop first (tree_map R t) steps step h in
          let there : IsSome (tree.get R t step.0) = subst (λ (y : Option X). IsSome y) (get_tree o t step.0) (is_there (tree_map R t) x.0 step.0 x.1 x.4) in
          let same : tree_map R u ≡ x.0 = taken_back (tree_map R t) (tree_map R u) x.0 step.0 x.1 step.1 x.4 x.3 (get_tree_put o t u step.0 step.1 (put (λ _. there))) in
          subst (λ (m : FinMap R X). Inserts first steps m) (sym same) x.2

      -- one insert into a tree, taken back at once
      pub insert_back : (t u w : BTreeMap K X) (k : K) (v : X) (had : Option X) (put : K × Option X) → had ≡ tree.get R t k → put ≡ (k, had) → tree_map R u ≡ insert (tree_map R t) k v
          → ((IsSome put.1 → IsSome (tree.get R u put.0)) → (q : K) → tree.get R w q ≡ cond (eq_by_cmp R put.0 q) put.1 (tree.get R u q)) → tree_map R w ≡ tree_map R t
      insert_back t u w k v had put e p is again =
          let there : IsSome (tree.get R u k) = subst (λ (y : Option X). IsSome y) (get_tree o u k) (is_there (tree_map R u) (tree_map R t) k v is) in
          let back : (IsSome had → IsSome (tree.get R u k)) → (q : K) → tree.get R w q ≡ cond (eq_by_cmp R k q) had (tree.get R u q) =
          subst (λ (x : K × Option X). (IsSome x.1 → IsSome (tree.get R u x.0)) → (q : K) → tree.get R w q ≡ cond (eq_by_cmp R x.0 q) x.1 (tree.get R u q)) p again
          in
          taken_back (tree_map R u) (tree_map R w) (tree_map R t) k v had is (e ∙ sym (get_tree o t k)) (get_tree_put o u w k had (back (λ _. there)))
