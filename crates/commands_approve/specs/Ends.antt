-- From where an approval lets its reference go, and to which tree.
use Rattle.std.specs.Prelude.{◌≡◌, ℕ, Bool, false, List, None}
use Rattle.git_object.specs.Ids.{zeros}
use Rattle.git_object.specs.Repository.{Repository}
use Rattle.rsl_chain.specs.Entries.{Taken}
use Rattle.judging.specs.Logs.{from}
use Rattle.tree_paths.specs.Repositories.{readings_of}
use Rattle.tree_paths.specs.States.{state_at, walk_of}
use Rattle.tree_paths.specs.declared.states.State.{State}
use Rattle.tree_paths.specs.declared.states.State.TheVariants as state
use Rattle.rsl_chain.specs.Logs.{IsUnbroken, log_failed}
use Rattle.entry_rules.specs.RealRules.{real_rules}
use Rattle.verify_ref.specs.Logs.{AreEntries}
use Rattle.commands_approve.specs.declared.ends.NotWanted.{NotWanted}
use Rattle.commands_approve.specs.declared.ends.NotWanted.TheVariants.{Log, Unreadable, Full, TooLong}

-- where the reference stood after the entries at these ids: the target of its last entry that is not skipped, under the
-- policies in force, whatever keys the first root has; zeros where there is none
pub record ComesFrom (r : Repository) (ids : List (List ℕ)) (name at : List ℕ) : Type 0 where
  pub log : List Taken
  pub entries : AreEntries r ids log
  pub is : at ≡ from (real_rules None) log name

-- the tree of a state; zeros where there is nothing
abbrev pub TreeIs : State → List ℕ → Type 0
TreeIs state.Absent tree = tree ≡ zeros
TreeIs (state.Whole root paths dirs) tree = tree ≡ root
TreeIs (state.Broken id) tree = ⊥

abbrev pub state_in : Repository → List ℕ → State
state_in r target = state_at (walk_of (readings_of r) target)

abbrev pub HasTree : Repository → List ℕ → List ℕ → Type 0
HasTree r target tree = TreeIs (state_in r target) tree

-- the first object of the target's walk that is not readable
abbrev pub IsBrokenAt : Repository → List ℕ → List ℕ → Type 0
IsBrokenAt r target id = state_in r target ≡ state.Broken id

-- which refusals are a fault of the store
abbrev pub not_failed : NotWanted → Bool
not_failed (Log fault) = log_failed fault
not_failed (Unreadable id) = false
not_failed Full = false
not_failed TooLong = false

-- why the ends were not read behind a log
abbrev pub WhyNoEnds : Repository → List ℕ → NotWanted → Type 0
WhyNoEnds r target (Log fault) = IsUnbroken fault
WhyNoEnds r target (Unreadable id) = IsBrokenAt r target id
WhyNoEnds r target Full = ⊥
WhyNoEnds r target TooLong = ⊥
