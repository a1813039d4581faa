-- What it means that a gate's shop, which is a store and a gate's state beside it, stands for a history.
use Rattle.std.specs.Prelude.{◌≡◌, ◌⊎◌, ◌≤◌, ℕ, List, length, Option, Some, None}
use Rattle.git_object.specs.Repository.{Repository}
use Rattle.keeper_api.specs.Changes.{changed}
use Rattle.keeper_api.specs.declared.keepers.Keeper as keeper
use Rattle.rsl_chain.specs.Entries.{Taken}
use Rattle.verify_ref.specs.Logs.{AreEntries}
use Rattle.pushes.specs.declared.pushed.Push.{Push}
use Rattle.pushes.specs.Steps.{IsTaken, change_of, ids_of}
use Rattle.desk_turns.specs.States.{IsLoaded}
use Rattle.desk_turns.specs.Histories.{History, IsAtStart, count}
use Rattle.desk_turns.specs.Legal.{last, rows}
use Rattle.desk_turns.specs.Standing.{StandsFor}
use Rattle.desk_core.specs.Adding.{IsAllowed}
use Rattle.desk_core.specs.GateSteps.{Ledger}
use Rattle.desk_core.specs.Runs.{IsJustLoaded, IsLawful, Run, RunReplacesNone, Turn}
use Rattle.desk_core.specs.States.{Judges}
use Rattle.desk_core.specs.declared.gate_state.GateState.{GateState}

-- the ledger of a history: what was loaded, each entry to be judged in the repository that was loaded, and behind it
-- what a gate's steps made of it, in whose last repository the history ends
pub record IsGated (h : History) (g : Ledger) : Type 0 where
  pub start : Ledger
  pub loaded : IsJustLoaded start
  pub opening : h.opening.repository ≡ Some start.repository
  pub many : length start.rows ≡ h.opening.loaded
  pub entries : AreEntries start.repository (ids_of start.rows) start.log
  pub turns : List Turn
  pub run : Run start turns g
  pub rows_are : g.rows ≡ rows h
  pub last_is : last h ≡ Some g.repository

-- an entry is in doubt, which is kept: its push could be taken, and its entry has no fault; the repository is what the
-- push makes of the last, or the last
pub record IsDoubtedAt (g : Ledger) (r : Repository) (state : GateState) (id : List ℕ) : Type 0 where
  pub push : Push
  pub id_is : push.entry.id ≡ id
  pub waits : state.waiting ≡ Some push.entry
  pub taken : IsTaken g.rows g.repository push
  pub allowed : IsAllowed g.log g.rows g.repository push
  pub one : (r ≡ g.repository) ⊎ (r ≡ changed (change_of g.rows push) g.repository)

abbrev pub IsHeldAt : Ledger → Repository → GateState → Option (List ℕ) → Type 0
IsHeldAt g r state None = r ≡ g.repository
IsHeldAt g r state (Some id) = IsDoubtedAt g r state id

-- the state judges by a ledger of the history, while this is held
pub record IsJudgedAt (h : History) (r : Repository) (state : GateState) : Type 0 where
  pub ledger : Ledger
  pub gated : IsGated h ledger
  pub judges : Judges r ledger.log state
  pub held : IsHeldAt ledger r state state.log.doubt

-- the desk's log and the store stand for the history, and while the store tells what it holds, so does what was judged
pub record Stands {R : Type 0} (k : keeper.Ghosts R) (store : R) (state : GateState) (h : History) : Type 0 where
  pub desk : StandsFor k store state.log h
  pub judged : (r : Repository) → k.content store ≡ Some r → IsJudgedAt h r state

-- ---- a shop that was just made

-- the state has the log of the store, and judges its entries in what the store told
pub record IsJustLoadedState (content : Option Repository) (state : GateState) : Type 0 where
  pub loaded : IsLoaded content state.log
  pub few : length state.log.log ≤ 1000000
  pub judges : (r : Repository) → content ≡ Some r
      → (log : List Taken) × AreEntries r (ids_of state.log.log) log × Judges r log state

-- with the log that was loaded, and nothing more
pub record Opens {R : Type 0} (k : keeper.Ghosts R) (store : R) (state : GateState) (h : History) : Type 0 where
  pub stands : Stands k store state h
  pub all_loaded : h.opening.loaded ≡ count h
  pub few : count h ≤ 1000000
  pub at_start : IsAtStart h

-- ---- what holds of it

-- what was loaded lawful is lawful in what the store holds, where no push that was taken kept an object in the place of
-- another
abbrev pub GatedHolds : History → Ledger → Type 0
GatedHolds h g =
    (gated : IsGated h g) → RunReplacesNone gated.start gated.turns g gated.run → IsLawful gated.start → IsLawful g

abbrev pub ShopHolds : {R : Type 0} → keeper.Ghosts R → Type 0
ShopHolds {R} k =
    (store : R) (state : GateState) (h : History) → Stands k store state h → state.log.doubt ≡ None
    → (r : Repository) → k.content store ≡ Some r
    → (g : Ledger) × (g.repository ≡ r) × IsGated h g × Judges r g.log state × GatedHolds h g
