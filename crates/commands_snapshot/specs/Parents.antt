-- Where a reference stands before a snapshot: nowhere, or at a commit that can be read.
use Rattle.std.specs.Prelude.{◌≡◌, Bool, true, false, ℕ, List, Option, Some, None}
use Rattle.std.specs.FinMap.{get}
use Rattle.git_object.specs.Commits.{IsCommit}
use Rattle.git_object.specs.Objects.{Pair}
use Rattle.git_object.specs.Repository.{HasObject, Repository}
use Rattle.git_object.specs.declared.kinds.Kind.{Kind}
use Rattle.git_object.specs.declared.kinds.Kind.TheVariants as kind
use Rattle.commands_snapshot.specs.declared.parents.ParentFault.{ParentFault}
use Rattle.commands_snapshot.specs.declared.parents.ParentFault.TheVariants.{Failed, NoCommit, Memory}

abbrev pub is_commit : Kind → Bool
is_commit kind.Blob = false
is_commit kind.Tree = false
is_commit kind.Commit = true
is_commit kind.Tag = false

-- the object of this id is a commit
pub record HasCommit (r : Repository) (id : List ℕ) : Type 0 where
  pub pair : Pair
  pub kept : HasObject r id pair
  pub kind_is : is_commit pair.kind ≡ true
  pub is : IsCommit pair.body

abbrev pub IsParent : Repository → List ℕ → Option (List ℕ) → Type 0
IsParent r name None = get r.refs name ≡ None
IsParent r name (Some id) = (get r.refs name ≡ Some id) × HasCommit r id

-- the reference stands at this id, and no commit is there
pub record HasNoCommit (r : Repository) (name id : List ℕ) : Type 0 where
  pub stands : get r.refs name ≡ Some id
  pub none : HasCommit r id → ⊥

-- the fault that a store counts
abbrev pub parent_failed : ParentFault → Bool
parent_failed Failed = true
parent_failed (NoCommit id) = false
parent_failed Memory = false

-- what each refusal says of the repository
abbrev pub WhyNoParent : List ℕ → ParentFault → Repository → Type 0
WhyNoParent name Failed r = Unit {0}
WhyNoParent name (NoCommit id) r = HasNoCommit r name id
WhyNoParent name Memory r = Unit {0}
