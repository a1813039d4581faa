-- Where a target is broken, read aloud: at the first bad object of its walk.
use Rattle.std.specs.Prelude.{◌≡◌, ◌≢◌, ◌≤◌, ◌<◌, ◌+◌, ◌++◌, ◌∷◌, ◌⊎◌}
use Rattle.std.specs.Prelude.{[], ℕ, suc, List, length, sum_by, Option, Some}
use Rattle.std.specs.Prelude.{None}
use Rattle.git_object.specs.Ids.{zeros}
use Rattle.git_object.specs.declared.kinds.Kind.{Kind}
use Rattle.git_object.specs.declared.kinds.Kind.TheVariants as kind
use Rattle.git_object.specs.declared.trees.TreeEntry.{TreeEntry}
use Rattle.tree_paths.specs.Listings.{leaves}
use Rattle.tree_paths.specs.Readings.{Heads, Readings, Trees}
use Rattle.tree_paths.specs.Walks.{Leaf, Step, Visit, steps}
use Rattle.tree_paths.specs.declared.heads.TargetHead.{TargetHead}
use Rattle.tree_paths.specs.declared.heads.TargetHead.TheVariants.{Next, Other, Root}
use Prim.Native.Nat as Nat

-- ---- the tags before a commit

-- an object of this kind may stand where a tag named a kind, or none did
abbrev pub MayBe : Option Kind → Kind → Type 0
MayBe None k = Unit {0}
MayBe (Some named) k = named ≡ k

-- so many tags lead from an object, each to the next, up to one that the last of them says is of a kind
abbrev pub TagsLead : Heads → ℕ → Option Kind → List ℕ → Option Kind → List ℕ → Type 0
TagsLead heads Nat.zero wanted id last end = (id ≡ end) × (wanted ≡ last)
TagsLead heads (suc n) wanted id last end =
    MayBe wanted kind.Tag × ((object : List ℕ) × (named : Kind) × (heads id ≡ Next object named)
    × TagsLead heads n (Some named) object last end)

-- behind so many tags an object is neither a commit nor a tag, or not of the kind that the last of them names, or it is
-- a tag where no more may follow
abbrev pub IsBadHead : ℕ → ℕ → Option Kind → TargetHead → Type 0
IsBadHead most tags last Other = Unit {0}
IsBadHead most tags last (Root tree) = MayBe last kind.Commit → ⊥
IsBadHead most tags last (Next object named) = (MayBe last kind.Tag → ⊥) ⊎ (tags ≡ most)

-- tags lead from an object to a bad one, at most so many
pub record LeadToBad (heads : Heads) (most : ℕ) (wanted : Option Kind) (id bad : List ℕ) : Type 0 where
  pub tags : ℕ
  pub few : tags ≤ most
  pub last : Option Kind
  pub lead : TagsLead heads tags wanted id last bad
  pub is_bad : IsBadHead most tags last (heads bad)

-- tags lead from an object to a commit of this tree, at most so many
pub record LeadToCommit (heads : Heads) (most : ℕ) (wanted : Option Kind) (id commit tree : List ℕ) : Type 0 where
  pub tags : ℕ
  pub few : tags ≤ most
  pub last : Option Kind
  pub lead : TagsLead heads tags wanted id last commit
  pub may : MayBe last kind.Commit
  pub is_commit : heads commit ≡ Root tree

-- ---- the steps of a tree

-- a tree may not be visited: there is none, or no level is left for it, or it is empty and not the root
abbrev pub IsShut : ℕ → List ℕ → Option (List TreeEntry) → Type 0
IsShut left place None = Unit {0}
IsShut left place (Some entries) = (left ≡ 0) ⊎ ((place ≢ []) × (entries ≡ []))

-- behind these steps a path is one too many, or too long, or the paths are too long together
abbrev pub IsPast : List Step → List ℕ → Type 0
IsPast before path =
    (262144 < length (leaves before) + 1)
    ⊎ ((4096 < length path) ⊎ (67108864 < sum_by length (leaves before) + length path))

-- a step is bad behind these
abbrev pub IsBadStep : Trees → List Step → Step → Type 0
IsBadStep trees before (Visit left place id) = IsShut left place (trees id)
IsBadStep trees before (Leaf holder path mode id) = IsPast before path

-- the tree that a step visits, or the one that holds its path
abbrev pub tree_named : Step → List ℕ
tree_named (Visit left place id) = id
tree_named (Leaf holder path mode id) = holder

-- the first bad one of these steps, which stand behind others, names this tree
pub record IsFirstBad (trees : Trees) (done walk : List Step) (id : List ℕ) : Type 0 where
  pub before : List Step
  pub step : Step
  pub after : List Step
  pub is : walk ≡ before ++ step ∷ after
  pub bad : IsBadStep trees (done ++ before) step
  pub good : (front : List Step) (other : Step) (rest : List Step) → before ≡ front ++ other ∷ rest
      → IsBadStep trees (done ++ front) other → ⊥
  pub named : tree_named step ≡ id

-- ---- a target

-- tags lead from it to a bad object
pub record IsBadTarget (readings : Readings) (target id : List ℕ) : Type 0 where
  pub some : target ≢ zeros
  pub led : LeadToBad readings.heads 8 None target id

-- or to a commit in whose tree the first bad step of the walk names this object
pub record IsBadTree (readings : Readings) (target id : List ℕ) : Type 0 where
  pub some : target ≢ zeros
  pub commit : List ℕ
  pub tree : List ℕ
  pub led : LeadToCommit readings.heads 8 None target commit tree
  pub first : IsFirstBad readings.trees [] (steps readings.trees 32 [] tree) id

abbrev pub IsBrokenAt : Readings → List ℕ → List ℕ → Type 0
IsBrokenAt readings target id = IsBadTarget readings target id ⊎ IsBadTree readings target id

-- no object of its walk is bad
abbrev pub IsUnbroken : Readings → List ℕ → Type 0
IsUnbroken readings target = (id : List ℕ) → IsBrokenAt readings target id → ⊥
