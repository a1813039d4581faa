-- What the laws of new trees ask of trees holds of the readings of repositories.
use Rattle.std.proofs.Common.{◌≡◌, ℕ, List, Option, Some, None, sym, subst}
use Rattle.git_object.specs.Objects.{Pair}
use Rattle.git_object.specs.Repository.{HasObject, Repository}
use Rattle.git_object.specs.Trees.{AreEntries}
use Rattle.git_object.specs.declared.trees.TreeEntry.{TreeEntry}
use Rattle.tree_paths.specs.Readings.{IsTreeAt}
use Rattle.tree_paths.specs.Walks.{listed}
use Rattle.tree_paths.proofs.ObjectsRead.{tree_there}
use Rattle.approvals.specs.Finding.{AreHeld}

by_tree : (r : Repository) (id : List ℕ) (tree : Option (List TreeEntry)) → IsTreeAt r id tree → AreEntries (listed tree)
by_tree r id None at = record { formed = record { named = tt; ordered = tt }; ids = tt }
by_tree r id (Some entries) at = at.text.entries_are

there : (before after : Repository) (id : List ℕ) (entries : List TreeEntry) (tree : Option (List TreeEntry)) → IsTreeAt before id (Some entries)
    → ((pair : Pair) → HasObject before id pair → HasObject after id pair) → IsTreeAt after id tree → tree ≡ Some entries
there before after id entries tree at kept now = sym (tree_there after id at.pair entries tree (kept at.pair at.kept) at.kind_is at.text now)

pub are_held : (before after : Repository) → AreHeld before after
are_held before after = λ old new are_old are_new kept. record {
  read = λ id. by_tree before id (old.trees id) (are_old.trees id);
  remain = λ id entries is. there before after id entries (new.trees id) (subst (IsTreeAt before id) is (are_old.trees id)) (kept id) (are_new.trees id);
}
