-- Which trees keep a list of objects, and lists of objects that only grow.
use Rattle.std.specs.Prelude.{◌≡◌, ◌++◌, List, Some}
use Rattle.std.specs.List.{AllByRecursion}
use Rattle.git_object.specs.Objects.{Pair, pair_id}
use Rattle.git_object.specs.Trees.{IsTreeText}
use Rattle.git_object.specs.declared.kinds.Kind.TheVariants as kind
use Rattle.git_object.specs.declared.trees.TreeEntry.{TreeEntry}
use Rattle.tree_paths.specs.Readings.{Trees}

-- where the object is a tree, its id leads to the entries of its body
abbrev pub KeepsPair : Trees → Pair → Type 0
KeepsPair trees pair = (entries : List TreeEntry) → pair.kind ≡ kind.Tree
    → IsTreeText (record { entries = entries }) pair.body → trees (pair_id pair) ≡ Some entries

-- this holds of each of these objects
abbrev pub Keeps : Trees → List Pair → Type 0
Keeps trees pairs = AllByRecursion (KeepsPair trees) pairs

-- a tree as an object
pub record IsTreeObject (pair : Pair) : Type 0 where
  pub kind_is : pair.kind ≡ kind.Tree
  pub entries : List TreeEntry
  pub text : IsTreeText (record { entries = entries }) pair.body

-- trees were added at the end, and nothing else
pub record Adds (before after : List Pair) : Type 0 where
  pub more : List Pair
  pub is : after ≡ before ++ more
  pub trees : AllByRecursion IsTreeObject more
