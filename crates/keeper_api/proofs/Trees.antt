-- A tree of the standard library as the finite map that it holds.
use Rattle.std.proofs.Common.{◌≡◌, cond, List, [], ◌∷◌, Option, Some, refl, sym, ap, ◌∙◌}
use Rattle.std.specs.BTreeMap as tree
use Rattle.std.specs.BTreeMap.{BTreeMap, is_at}
use Rattle.std.specs.Cmp.{IsTotalOrder, eq_by_cmp_equiv}
use Rattle.std.specs.Cmp.Lexicographic.{slice_cmp}
use Rattle.std.specs.FinMap.{IsAntisymmetric, nat_cmp-IsAntisymmetric, slice_cmp-IsAntisymmetric, find, get, get-from_entries, get-insert, insert, same_map}
use Rattle.std.specs.Map.{lookup}
use Rattle.std.specs.Ordering.{eq_by_cmp, nat_cmp}
use Rattle.std.specs.declared.cmp.Ordering.{Ordering}
use Rattle.keeper_api.specs.Trees.{tree_map}

find_lookup : {K X : Type 0} (R : K → K → Ordering) (q : K) (es : List (K × X)) → find R q es ≡ lookup (is_at (R q)) es
find_lookup R q [] = refl
find_lookup R q (e ∷ es) = ap (cond (is_at (R q) e.0) (Some e.1)) (find_lookup R q es)

module _ {K X : Type 0} {R : K → K → Ordering} where
  module _ (o : IsTotalOrder R) where
    -- what the map has at a key, the tree has
    pub get_tree : (t : BTreeMap K X) (q : K) → get (tree_map R t) q ≡ tree.get R t q
    get_tree t q = get-from_entries o t.entries q ∙ find_lookup R q t.entries

    -- one key of a tree was put at a value or taken away
    pub get_tree_put : (t u : BTreeMap K X) (k : K) (w : Option X) → ((q : K) → tree.get R u q ≡ cond (eq_by_cmp R k q) w (tree.get R t q)) → (q : K) → get (tree_map R u) q ≡ cond (eq_by_cmp R q k) w (get (tree_map R t) q)
    get_tree_put t u k w h q =
        get_tree u q ∙ h q ∙ ap (λ b. cond b w (tree.get R t q)) ((eq_by_cmp_equiv o).symm k q)
        ∙ ap (cond (eq_by_cmp R q k) w) (sym (get_tree t q))

    module _ (exact : IsAntisymmetric R) where
      -- trees that answer alike hold one map
      pub same_trees : (t u : BTreeMap K X) → ((q : K) → tree.get R t q ≡ tree.get R u q) → tree_map R t ≡ tree_map R u
      same_trees t u h = same_map o exact _ _ (λ q. get_tree t q ∙ h q ∙ sym (get_tree u q))

      pub tree_map_insert : (t u : BTreeMap K X) (k : K) (v : X) → ((q : K) → tree.get R u q ≡ cond (is_at (R k) q) (Some v) (tree.get R t q)) → tree_map R u ≡ insert (tree_map R t) k v
      tree_map_insert t u k v h =
          same_map o exact _ _ (λ q. get_tree_put t u k (Some v) h q ∙ sym (get-insert o (tree_map R t) k v q))

-- only equal byte lists tie
pub exact_bytes : IsAntisymmetric (slice_cmp nat_cmp)
exact_bytes = slice_cmp-IsAntisymmetric nat_cmp-IsAntisymmetric
