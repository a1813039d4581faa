-- A plan of reference changes grows by one change.
use Rattle.std.proofs.Common.{◌≡◌, ℕ, Bool, true, false, cond, List, [], ◌∷◌, ◌++◌, Option, Some, None, refl, sym, ap, ◌∙◌}
use Rattle.std.specs.BTreeMap as tree
use Rattle.std.specs.BTreeMap.{BTreeMap}
use Rattle.std.specs.Cmp.{eq_by_cmp_equiv}
use Rattle.std.specs.FinMap.{get, get-insert, get-remove, same_map}
use Rattle.std.specs.Ordering.{eq_by_cmp}
use Rattle.std.proofs.lemmas.Cmp.{nat_list_cmp_total}
use Rattle.octets.specs.BytesMap.{BytesMap, by_bytes, map_of}
use Rattle.keeper_api.specs.Changes.{with_ref, with_refs}
use Rattle.keeper_api.specs.Trees.{with_entries}
use Rattle.keeper_api.specs.declared.changes.RefChange.{RefChange}
use Rattle.keeper_api.proofs.Trees.{exact_bytes, get_tree}
use Rattle.keeper_api.proofs.Undos.{with_entries_push}

with_refs_push : (cs : List RefChange) (c : RefChange) (m : BytesMap (List ℕ)) → with_refs (cs ++ c ∷ []) m ≡ with_ref c.name c.to (with_refs cs m)
with_refs_push [] c m = refl
with_refs_push (d ∷ cs) c m = with_refs_push cs c (with_ref d.name d.to m)

module _ {A : Type 0} where
  set_case : (b s : Bool) (w x y : Option A) → y ≡ cond s None x → cond b w y ≡ cond (cond b false s) None (cond b w x)
  set_case true s w x y e = refl
  set_case false s w x y e = e

  gone_case : (b s : Bool) (x y : Option A) → y ≡ cond s None x → cond b None y ≡ cond (cond b true s) None x
  gone_case true s x y e = refl
  gone_case false s x y e = e

-- one name more is set
pub plan_set : (cs : List RefChange) (c : RefChange) (id : List ℕ) (sets : List (List ℕ × List ℕ)) (gone left : List ℕ → Bool) → c.to ≡ Some id → ((q : List ℕ) → left q ≡ cond (eq_by_cmp by_bytes c.name q) false (gone q))
    → ((m : BytesMap (List ℕ)) (q : List ℕ) → get (with_refs cs m) q ≡ cond (gone q) None (get (with_entries sets m) q))
    → (m : BytesMap (List ℕ)) (q : List ℕ) → get (with_refs (cs ++ c ∷ []) m) q ≡ cond (left q) None (get (with_entries (sets ++ (c.name, id) ∷ []) m) q)
plan_set cs c id sets gone left to h is m q =
    let b = eq_by_cmp by_bytes q c.name in
    let turned : left q ≡ cond b false (gone q) = h q ∙ ap (λ t. cond t false (gone q)) ((eq_by_cmp_equiv nat_list_cmp_total).symm c.name q) in
    ap (λ r. get r q) (with_refs_push cs c m ∙ ap (λ t. with_ref c.name t (with_refs cs m)) to)
    ∙ get-insert nat_list_cmp_total (with_refs cs m) c.name id q
    ∙ set_case b (gone q) (Some id) (get (with_entries sets m) q) (get (with_refs cs m) q) (is m q)
    ∙ sym (ap (λ t. cond t None (get (with_entries (sets ++ (c.name, id) ∷ []) m) q)) turned
    ∙ ap (cond (cond b false (gone q)) None) (ap (λ r. get r q) (with_entries_push sets c.name id m) ∙ get-insert nat_list_cmp_total (with_entries sets m) c.name id q))

-- one name more goes
pub plan_gone : (cs : List RefChange) (c : RefChange) (sets : List (List ℕ × List ℕ)) (gone left : List ℕ → Bool) → c.to ≡ None → ((q : List ℕ) → left q ≡ cond (eq_by_cmp by_bytes c.name q) true (gone q))
    → ((m : BytesMap (List ℕ)) (q : List ℕ) → get (with_refs cs m) q ≡ cond (gone q) None (get (with_entries sets m) q))
    → (m : BytesMap (List ℕ)) (q : List ℕ) → get (with_refs (cs ++ c ∷ []) m) q ≡ cond (left q) None (get (with_entries sets m) q)
plan_gone cs c sets gone left to h is m q =
    let b = eq_by_cmp by_bytes q c.name in
    let turned : left q ≡ cond b true (gone q) = h q ∙ ap (λ t. cond t true (gone q)) ((eq_by_cmp_equiv nat_list_cmp_total).symm c.name q) in
    ap (λ r. get r q) (with_refs_push cs c m ∙ ap (λ t. with_ref c.name t (with_refs cs m)) to)
    ∙ get-remove nat_list_cmp_total (with_refs cs m) c.name q
    ∙ gone_case b (gone q) (get (with_entries sets m) q) (get (with_refs cs m) q) (is m q)
    ∙ sym (ap (λ t. cond t None (get (with_entries sets m) q)) turned)

-- the names that are set are put into a tree, and then those that go are taken away
pub planned : (t u w : BTreeMap (List ℕ) (List ℕ)) (cs : List RefChange) (sets : List (List ℕ × List ℕ)) (gone : List ℕ → Bool) → map_of u ≡ with_entries sets (map_of t)
    → ((q : List ℕ) → tree.get by_bytes w q ≡ cond (gone q) None (tree.get by_bytes u q))
    → ((m : BytesMap (List ℕ)) (q : List ℕ) → get (with_refs cs m) q ≡ cond (gone q) None (get (with_entries sets m) q))
    → map_of w ≡ with_refs cs (map_of t)
planned t u w cs sets gone set removed plan =
    same_map nat_list_cmp_total exact_bytes _ _ (λ q.
    get_tree nat_list_cmp_total w q ∙ removed q
    ∙ ap (cond (gone q) None) (sym (get_tree nat_list_cmp_total u q) ∙ ap (λ m. get m q) set)
    ∙ sym (plan (map_of t) q))
