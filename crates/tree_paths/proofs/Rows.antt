-- What is known, after a tree more.
use Rattle.std.proofs.Common.{◌≡◌, ℕ, Bool, true, false, cond, List, Option, Some, None, IfSome, refl, sym, subst, ◌∙◌}
use Rattle.std.specs.BTreeMap as tree
use Rattle.std.specs.FinMap.{nat_cmp-IsAntisymmetric, slice_cmp-IsAntisymmetric}
use Rattle.std.specs.Ordering.{is_eq}
use Rattle.std.specs.declared.cmp.Ordering.{Ordering}
use Rattle.std.specs.declared.cmp.Ordering.TheVariants.{Equal, Less, Greater}
use Rattle.std.proofs.lemmas.Bool.{false≢true}
use Rattle.std.proofs.lemmas.Option.{same_Some}
use Rattle.octets.specs.BytesMap.{by_bytes}
use Rattle.git_object.specs.declared.trees.TreeEntry.{TreeEntry}
use Rattle.tree_paths.specs.Known.{AreKnown, HoldsOf, IsKnown}
use Rattle.tree_paths.specs.Readings.{Trees}
use Rattle.tree_paths.specs.declared.known_trees.KnownTree.{KnownTree}
use Rattle.tree_paths.specs.declared.known_trees.KnownTrees.{KnownTrees}

is_equal : (o : Ordering) → is_eq o ≡ true → o ≡ Equal
is_equal Less e = absurd (false≢true e)
is_equal Equal e = refl
is_equal Greater e = absurd (false≢true e)

same_key : (a b : List ℕ) → is_eq (by_bytes a b) ≡ true → a ≡ b
same_key a b e = slice_cmp-IsAntisymmetric nat_cmp-IsAntisymmetric a b (is_equal (by_bytes a b) e)

-- a tree more is known
pub known_more : (trees : Trees) (was now : KnownTrees) (id : List ℕ) (row : KnownTree)
    → ((q : List ℕ) → tree.get by_bytes now.rows q ≡ cond (is_eq (by_bytes id q)) (Some row) (tree.get by_bytes was.rows q))
    → AreKnown trees was → IsKnown trees id row → AreKnown trees now
known_more trees was now id row put are is = λ q found at. by_key q found (is_eq (by_bytes id q)) refl (sym (put q) ∙ at)
  where
    by_key : (q : List ℕ) (found : KnownTree) (b : Bool) → is_eq (by_bytes id q) ≡ b → cond b (Some row) (tree.get by_bytes was.rows q) ≡ Some found → IsKnown trees q found
    by_key q found true same at = subst (λ (k : List ℕ). IsKnown trees k found) (same_key id q same) (subst (IsKnown trees id) (same_Some row found at) is)
    by_key q found false same at = are q found at

pub holds_of : (trees : Trees) (id : List ℕ) (row : KnownTree) → IsKnown trees id row → HoldsOf trees id row
unfolding IsKnown
holds_of trees id row is = is

pub is_known : (trees : Trees) (id : List ℕ) (row : KnownTree) → HoldsOf trees id row → IsKnown trees id row
unfolding IsKnown
is_known trees id row holds = holds

-- the entries that are kept of a tree are its own, wherever what is known is so
pub kept_tree : (known : KnownTrees) (id : List ℕ) (kept : Option (List TreeEntry)) → ((trees : Trees) → AreKnown trees known → IfSome kept (λ es. trees id ≡ Some es))
    → IfSome kept (λ es. (trees : Trees) → AreKnown trees known → trees id ≡ Some es)
kept_tree known id None so = tt
kept_tree known id (Some es) so = so
