-- The parents that a repository's commits name.
use Rattle.std.specs.Prelude.{◌≡◌, ◌⊎◌, ◌≤◌, ◌<◌, ℕ, List, Option, Some, None, slice_get}
use Rattle.std.proofs.Common.{inl, inr}
use Rattle.git_object.specs.Commits.{IsCommitFault, IsCommitText}
use Rattle.git_object.specs.Objects.{Pair}
use Rattle.git_object.specs.Repository.{HasObject, Repository, object_at}
use Rattle.git_object.specs.declared.commits.Commit.{Commit}
use Rattle.git_object.specs.declared.kinds.Kind.{Kind}
use Rattle.git_object.specs.declared.kinds.Kind.TheVariants as kind
use Rattle.git_object.proofs.Totality.{commit_decided}
use Rattle.global_rules.specs.Order.{Parents}

-- the object of this id is a commit of these parents
pub record NamesParents (r : Repository) (id : List ℕ) (parents : List (List ℕ)) : Type 0 where
  pub pair : Pair
  pub kept : HasObject r id pair
  pub kind_is : pair.kind ≡ kind.Commit
  pub commit : Commit
  pub text : IsCommitText commit pair.body
  pub parents_are : commit.parents ≡ parents

abbrev pub AreParentsAt : Repository → List ℕ → Option (List (List ℕ)) → Type 0
AreParentsAt r id (Some parents) = NamesParents r id parents
AreParentsAt r id None = (parents : List (List ℕ)) → NamesParents r id parents → ⊥

-- ---- the same as a function

-- each body is a commit's, or is refused
abbrev pub parents_read : (body : List ℕ) → ((v : Commit) × IsCommitText v body) ⊎ ((at : ℕ) × IsCommitFault body at)
    → Option (List (List ℕ))
parents_read body (inl found) = Some found.0.parents
parents_read body (inr bad) = None

abbrev pub parents_of_kind : Kind → List ℕ → Option (List (List ℕ))
parents_of_kind kind.Commit body = parents_read body (commit_decided body)
parents_of_kind kind.Blob body = None
parents_of_kind kind.Tree body = None
parents_of_kind kind.Tag body = None

abbrev pub parents_in : Option Pair → Option (List (List ℕ))
parents_in None = None
parents_in (Some pair) = parents_of_kind pair.kind pair.body

-- the parents of each commit of a repository; `laws.parents` says that they are
unfoldable pub commit_parents : Repository → Parents
commit_parents r id = parents_in (object_at r id)

-- ---- part of a walk

-- no id of these places, from the first up to but not at the second, leads to a commit
abbrev pub NoCommits : Parents → List (List ℕ) → ℕ → ℕ → Type 0
NoCommits parents ids from to =
    (k : ℕ) (id : List ℕ) → from ≤ k → k < to → slice_get ids k ≡ Some id → parents id ≡ None
