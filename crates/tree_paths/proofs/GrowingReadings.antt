-- What an id is read as in a repository it is read as in a larger one.
use Rattle.std.proofs.Common.{◌≡◌, ℕ, List, Option, Some, None, refl, ap, ◌∙◌}
use Rattle.std.proofs.lemmas.Option.{IfSome_then}
use Rattle.git_object.specs.Objects.{Pair}
use Rattle.git_object.specs.Repository.{Repository, object_at}
use Rattle.git_object.specs.declared.kinds.Kind.{Kind}
use Rattle.git_object.specs.declared.trees.TreeEntry.{TreeEntry}
use Rattle.tree_paths.specs.Known.{AreKnownIn}
use Rattle.tree_paths.specs.Repositories.{head_in, readings_of, tree_in}
use Rattle.tree_paths.specs.declared.heads.TargetHead.TheVariants.{Next, Other, Root}
use Rattle.tree_paths.specs.declared.known_trees.KnownTrees.{KnownTrees}
use Rattle.tree_paths.proofs.Existence.{are_readings, one_reading}
use Rattle.keeper_api.specs.Growing.{Keeps, Larger}
use Rattle.tree_paths.specs.Growing.{MoreReadings}
use Rattle.tree_paths.proofs.GrowingWalks.{adds_same}
use Rattle.tree_paths.proofs.Rows.{holds_of, is_known}

tree_kept : (few more : Option Pair) → Keeps few more → Keeps (tree_in few) (tree_in more)
tree_kept None more keeps es e = let bad : None ≡ Some es = e in cc
tree_kept (Some pair) more keeps es e = ap tree_in (keeps pair refl) ∙ e

root_kept : (few more : Option Pair) → Keeps few more → (tree : List ℕ) → head_in few ≡ Root tree → head_in more ≡ Root tree
root_kept None more keeps tree e = let bad : Other ≡ Root tree = e in cc
root_kept (Some pair) more keeps tree e = ap head_in (keeps pair refl) ∙ e

next_kept : (few more : Option Pair) → Keeps few more → (object : List ℕ) (names : Kind) → head_in few ≡ Next object names → head_in more ≡ Next object names
next_kept None more keeps object names e = let bad : Other ≡ Next object names = e in cc
next_kept (Some pair) more keeps object names e = ap head_in (keeps pair refl) ∙ e

pub more_read : (small large : Repository) → Larger small large → MoreReadings (readings_of small) (readings_of large)
unfolding readings_of
more_read small large grown = record {
  trees = λ id. tree_kept (object_at small id) (object_at large id) (grown id);
  heads = record {
    roots = λ id. root_kept (object_at small id) (object_at large id) (grown id);
    nexts = λ id. next_kept (object_at small id) (object_at large id) (grown id);
  };
}

pub known_same : (small large : Repository) (known : KnownTrees) → Larger small large → AreKnownIn small known → AreKnownIn large known
known_same small large known grown all readings are id row there =
    let one = one_reading large readings (readings_of large) are (are_readings large) in
    let more = λ (tree : List ℕ) (es : List TreeEntry) (e : (readings_of small).trees tree ≡ Some es). one tree ∙ (more_read small large grown).trees tree es e in
    let small_row = holds_of (readings_of small).trees id row (all (readings_of small) (are_readings small) id row there) in
    is_known readings.trees id row (record {
      adds = λ front len. adds_same (readings_of small).trees readings.trees more row.left front id row.adds (small_row.adds front len);
      entries = IfSome_then row.entries small_row.entries (more id);
    })
