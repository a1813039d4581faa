-- The readings of a repository, as a function: at each id, what the object there is read as.
use Rattle.std.specs.Prelude.{◌⊎◌, ℕ, List, Option, Some, None}
use Rattle.std.proofs.Common.{inl, inr}
use Rattle.git_object.specs.Commits.{IsCommitFault, IsCommitText}
use Rattle.git_object.specs.Objects.{Pair}
use Rattle.git_object.specs.Repository.{Repository, object_at}
use Rattle.git_object.specs.Tags.{IsTagFault, IsTagText}
use Rattle.git_object.specs.Trees.{IsTreeFault, IsTreeText}
use Rattle.git_object.specs.declared.commits.Commit.{Commit}
use Rattle.git_object.specs.declared.kinds.Kind.{Kind}
use Rattle.git_object.specs.declared.kinds.Kind.TheVariants as kind
use Rattle.git_object.specs.declared.tags.Tag.{Tag}
use Rattle.git_object.specs.declared.trees.Tree.{Tree}
use Rattle.git_object.specs.declared.trees.TreeEntry.{TreeEntry}
use Rattle.git_object.proofs.Totality.{commit_decided, tag_decided, tree_decided}
use Rattle.tree_paths.specs.Readings.{Readings}
use Rattle.tree_paths.specs.declared.heads.TargetHead.{TargetHead}
use Rattle.tree_paths.specs.declared.heads.TargetHead.TheVariants.{Next, Other, Root}

-- each body is a tree's, a commit's, a tag's, or is refused
abbrev pub tree_read : (body : List ℕ) → ((v : Tree) × IsTreeText v body) ⊎ ((at : ℕ) × IsTreeFault body at)
    → Option (List TreeEntry)
tree_read body (inl found) = Some found.0.entries
tree_read body (inr bad) = None

abbrev pub commit_read : (body : List ℕ) → ((v : Commit) × IsCommitText v body) ⊎ ((at : ℕ) × IsCommitFault body at)
    → TargetHead
commit_read body (inl found) = Root found.0.tree
commit_read body (inr bad) = Other

abbrev pub tag_read : (body : List ℕ) → ((v : Tag) × IsTagText v body) ⊎ ((at : ℕ) × IsTagFault body at) → TargetHead
tag_read body (inl found) = Next found.0.object found.0.kind
tag_read body (inr bad) = Other

abbrev pub tree_of_kind : Kind → List ℕ → Option (List TreeEntry)
tree_of_kind kind.Tree body = tree_read body (tree_decided body)
tree_of_kind kind.Blob body = None
tree_of_kind kind.Commit body = None
tree_of_kind kind.Tag body = None

abbrev pub head_of_kind : Kind → List ℕ → TargetHead
head_of_kind kind.Commit body = commit_read body (commit_decided body)
head_of_kind kind.Tag body = tag_read body (tag_decided body)
head_of_kind kind.Blob body = Other
head_of_kind kind.Tree body = Other

abbrev pub tree_in : Option Pair → Option (List TreeEntry)
tree_in None = None
tree_in (Some pair) = tree_of_kind pair.kind pair.body

abbrev pub head_in : Option Pair → TargetHead
head_in None = Other
head_in (Some pair) = head_of_kind pair.kind pair.body

-- `laws.read` says that these are its readings
unfoldable pub readings_of : Repository → Readings
readings_of r = record { trees = λ id. tree_in (object_at r id); heads = λ id. head_in (object_at r id) }
