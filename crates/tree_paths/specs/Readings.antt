-- What the objects of a repository are read as, each by its id.
use Rattle.std.specs.Prelude.{◌≡◌, ℕ, List, Option, Some, None}
use Rattle.git_object.specs.Objects.{Pair}
use Rattle.git_object.specs.Repository.{HasObject, Repository}
use Rattle.git_object.specs.Trees.{IsTreeText}
use Rattle.git_object.specs.Commits.{IsCommitText}
use Rattle.git_object.specs.Tags.{IsTagText}
use Rattle.git_object.specs.declared.kinds.Kind.{Kind}
use Rattle.git_object.specs.declared.kinds.Kind.TheVariants as kind
use Rattle.git_object.specs.declared.trees.TreeEntry.{TreeEntry}
use Rattle.git_object.specs.declared.commits.Commit.{Commit}
use Rattle.git_object.specs.declared.tags.Tag.{Tag}
use Rattle.tree_paths.specs.declared.heads.TargetHead.{TargetHead}
use Rattle.tree_paths.specs.declared.heads.TargetHead.TheVariants.{Next, Other, Root}

-- the entries of the tree at an id, where there is a tree
abbrev pub Trees : Type 0
Trees = List ℕ → Option (List TreeEntry)

-- the commit or the tag at an id, where there is one
abbrev pub Heads : Type 0
Heads = List ℕ → TargetHead

-- the object of this id is a tree with these entries
pub record IsTreeOf (r : Repository) (id : List ℕ) (entries : List TreeEntry) : Type 0 where
  pub pair : Pair
  pub kept : HasObject r id pair
  pub kind_is : pair.kind ≡ kind.Tree
  pub text : IsTreeText (record { entries = entries }) pair.body

-- the object of this id is a commit of this tree
pub record IsCommitOf (r : Repository) (id tree : List ℕ) : Type 0 where
  pub pair : Pair
  pub kept : HasObject r id pair
  pub kind_is : pair.kind ≡ kind.Commit
  pub commit : Commit
  pub text : IsCommitText commit pair.body
  pub tree_is : commit.tree ≡ tree

-- the object of this id is a tag that names this object as one of this kind
pub record IsTagOf (r : Repository) (id object : List ℕ) (names : Kind) : Type 0 where
  pub pair : Pair
  pub kept : HasObject r id pair
  pub kind_is : pair.kind ≡ kind.Tag
  pub tag : Tag
  pub text : IsTagText tag pair.body
  pub object_is : tag.object ≡ object
  pub names_is : tag.kind ≡ names

abbrev pub IsTreeAt : Repository → List ℕ → Option (List TreeEntry) → Type 0
IsTreeAt r id (Some entries) = IsTreeOf r id entries
IsTreeAt r id None = (entries : List TreeEntry) → IsTreeOf r id entries → ⊥

-- the object of this id is neither a commit nor a tag
pub record IsOther (r : Repository) (id : List ℕ) : Type 0 where
  pub no_commit : (tree : List ℕ) → IsCommitOf r id tree → ⊥
  pub no_tag : (object : List ℕ) (names : Kind) → IsTagOf r id object names → ⊥

abbrev pub IsHeadAt : Repository → List ℕ → TargetHead → Type 0
IsHeadAt r id (Root tree) = IsCommitOf r id tree
IsHeadAt r id (Next object names) = IsTagOf r id object names
IsHeadAt r id Other = IsOther r id

-- what each id of a repository is read as
pub record Readings : Type 0 where
  pub trees : Trees
  pub heads : Heads

-- these are the readings of the repository; `laws.readings` says that each repository has its readings
pub record AreReadings (r : Repository) (readings : Readings) : Type 0 where
  pub trees : (id : List ℕ) → IsTreeAt r id (readings.trees id)
  pub heads : (id : List ℕ) → IsHeadAt r id (readings.heads id)

-- these are the readings of the repository that is told
pub record Told (content : Option Repository) (readings : Readings) : Type 0 where
  pub repository : Repository
  pub told : content ≡ Some repository
  pub are : AreReadings repository readings
