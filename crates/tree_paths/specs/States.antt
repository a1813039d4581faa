-- What a target is peeled to, how the walk of its tree ends, and its state.
use Rattle.std.specs.Prelude.{◌∷◌, [], ℕ, suc, Bool, true, false, cond, List, Option, Some, None}
use Rattle.std.specs.Str.{bytes_eq}
use Rattle.std.specs.FinMap.{from_entries}
use Rattle.octets.specs.BytesMap.{BytesMap}
use Rattle.git_object.specs.Ids.{zeros}
use Rattle.git_object.specs.declared.kinds.Kind.{Kind}
use Rattle.git_object.specs.declared.kinds.Kind.TheVariants as kind
use Rattle.git_object.specs.declared.modes.Mode.{Mode}
use Rattle.tree_paths.specs.Readings.{Heads, Readings, Trees}
use Rattle.tree_paths.specs.Walks.{Leaf, Step, Visit, judge, no_counts, steps}
use Rattle.tree_paths.specs.declared.counts.Counts.{Counts}
use Rattle.tree_paths.specs.declared.counts.Walked.{Walked}
use Rattle.tree_paths.specs.declared.counts.Walked.TheVariants as walked
use Rattle.tree_paths.specs.declared.heads.TargetHead.{TargetHead}
use Rattle.tree_paths.specs.declared.heads.TargetHead.TheVariants.{Next, Other, Root}
use Rattle.tree_paths.specs.declared.heads.Peeled.{Peeled}
use Rattle.tree_paths.specs.declared.heads.Peeled.TheVariants.{At, Bad, Nothing}
use Rattle.tree_paths.specs.declared.states.State.{State}
use Rattle.tree_paths.specs.declared.states.State.TheVariants as state
use Prim.Native.Nat as Nat

-- ---- peeling

-- the object is of the kind that the tag before it names, if there is one
abbrev pub may_be_commit : Option Kind → Bool
may_be_commit None = true
may_be_commit (Some kind.Commit) = true
may_be_commit (Some kind.Blob) = false
may_be_commit (Some kind.Tree) = false
may_be_commit (Some kind.Tag) = false

abbrev pub may_be_tag : Option Kind → Bool
may_be_tag None = true
may_be_tag (Some kind.Tag) = true
may_be_tag (Some kind.Blob) = false
may_be_tag (Some kind.Tree) = false
may_be_tag (Some kind.Commit) = false

abbrev pub peel_step : (List ℕ → Kind → Peeled) → List ℕ → Option Kind → TargetHead → Peeled
peel_step next id wanted Other = Bad id
peel_step next id wanted (Root tree) = cond (may_be_commit wanted) (At id tree) (Bad id)
peel_step next id wanted (Next object names) = cond (may_be_tag wanted) (next object names) (Bad id)

-- a tag is followed to its object while so many tags are left, up to a commit and its tree; one tag more is bad
unfoldable pub peeled : Heads → ℕ → Option Kind → List ℕ → Peeled
peeled heads Nat.zero wanted id = peel_step (λ object names. Bad id) id wanted (heads id)
peeled heads (suc n) wanted id = peel_step (λ object names. peeled heads n (Some names) object) id wanted (heads id)

-- there is nothing at zeros, before anything is looked up; else at most 8 tags are peeled
abbrev pub root_of : Heads → List ℕ → Peeled
root_of heads target = cond (bytes_eq target zeros) Nothing (peeled heads 8 None target)

-- ---- the walk of a target

-- there is nothing, or an object is the first bad one, or the tree has these steps and none is bad
pub data Ended : Type 0 where
  Gone : Ended
  Faulty : (id : List ℕ) → Ended
  Sound : (tree : List ℕ) (steps : List Step) (counts : Counts) → Ended

abbrev pub ended_by : List ℕ → List Step → Walked → Ended
ended_by tree ss (walked.Broken id) = Faulty id
ended_by tree ss (walked.Counted c) = Sound tree ss c

abbrev pub ended : Trees → Peeled → Ended
ended trees Nothing = Gone
ended trees (Bad id) = Faulty id
ended trees (At commit tree) = ended_by tree (steps trees 32 [] tree) (judge trees (steps trees 32 [] tree) no_counts)

abbrev pub walk_of : Readings → List ℕ → Ended
walk_of readings target = ended readings.trees (root_of readings.heads target)

-- ---- the state of a target

abbrev pub state_at : Ended → State
state_at Gone = state.Absent
state_at (Faulty id) = state.Broken id
state_at (Sound tree ss c) = state.Whole tree c.paths c.dirs

abbrev pub is_sound : Ended → Bool
is_sound Gone = true
is_sound (Faulty id) = false
is_sound (Sound tree ss c) = true

-- the id of the root's tree, or zeros where there is none
abbrev pub tree_at : Ended → List ℕ
tree_at Gone = zeros
tree_at (Faulty id) = zeros
tree_at (Sound tree ss c) = tree

abbrev pub steps_in : Ended → List Step
steps_in Gone = []
steps_in (Faulty id) = []
steps_in (Sound tree ss c) = ss

-- what a path has: its mode and its id
abbrev pub PathValue : Type 0
PathValue = Mode × List ℕ

abbrev pub path_values : List Step → List (List ℕ × PathValue)
path_values [] = []
path_values (Visit left place id ∷ ss) = path_values ss
path_values (Leaf holder path mode id ∷ ss) = (path, (mode, id)) ∷ path_values ss

abbrev pub path_map : List Step → BytesMap PathValue
path_map ss = from_entries (path_values ss)

-- the paths of a target with their values; none where it is bad or there is nothing
abbrev pub map_at : Ended → BytesMap PathValue
map_at e = path_map (steps_in e)

abbrev pub dirs_at : Ended → ℕ
dirs_at Gone = 0
dirs_at (Faulty id) = 0
dirs_at (Sound tree ss c) = c.dirs

-- where a state is whole
abbrev pub IfWhole : State → (ℕ → ℕ → Type 0) → Type 0
IfWhole state.Absent P = Unit {0}
IfWhole (state.Broken id) P = Unit {0}
IfWhole (state.Whole tree paths dirs) P = P paths dirs
