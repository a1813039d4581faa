-- What it means that a shop, which is a store and a desk's state beside it, stands for a history.
use Rattle.std.specs.Prelude.{◌≡◌, ◌⊎◌, ◌∷◌, [], ℕ, List, length, Some, None}
use Rattle.git_object.specs.Repository.{Repository, value_of}
use Rattle.keeper_api.specs.declared.keepers.Keeper as keeper
use Rattle.rsl_chain.specs.Entries.{Taken}
use Rattle.rsl_chain.specs.Logs.{entry_at}
use Rattle.judging.specs.Verdicts.{IsJudged}
use Rattle.judging.specs.declared.verdicts.Verdict.{Verdict}
use Rattle.entry_rules.specs.RealRules.{real_rules}
use Rattle.entry_rules.specs.declared.faults.Fault.{Fault}
use Rattle.verify_ref.specs.Following.{Follows}
use Rattle.verify_ref.specs.declared.engine.Engine.{Engine}
use Rattle.desk_turns.specs.Histories.{History, Member, count}
use Rattle.desk_core.specs.declared.desk_state.DeskState.{DeskState}
use Rattle.desk_turns.specs.Legal.{last}
use Rattle.desk_turns.specs.Standing.{StandsFor}

-- the repository is that of one of these members
abbrev pub IsOfOne : List Member → Repository → Type 0
IsOfOne [] r = ⊥
IsOfOne (m ∷ members) r = (m.repository ≡ Some r) ⊎ IsOfOne members r

-- these are the entries of the first members, each as it stands in the repository of its own member or of a later one
abbrev pub AreEntriesOf : List Taken → List Member → Type 0
AreEntriesOf [] members = Unit {0}
AreEntriesOf (t ∷ log) [] = ⊥
AreEntriesOf (t ∷ log) (m ∷ members) =
    (entry_at t.repository m.id ≡ Some t.entry) × IsOfOne (m ∷ members) t.repository × AreEntriesOf log members

-- the engine took the entries of the first members
pub record Lags (h : History) (engine : Engine) : Type 0 where
  pub log : List Taken
  pub follows : Follows log engine
  pub entries : AreEntriesOf log h.members

-- The desk's log and the store stand for the history, and the engine judges by no anchor. What it took is known while
-- the store tells what it holds.
pub record Stands {R : Type 0} (keeper_of : keeper.Ghosts R) (store : R) (state : DeskState) (h : History) : Type 0
  where
    pub desk : StandsFor keeper_of store state.log h
    pub anchor : state.engine.rules.anchor ≡ None
    pub engine : (r : Repository) → keeper_of.content store ≡ Some r → Lags h state.engine

-- by the entries of all members, each judged in the repository of its own member or of a later one, this is the verdict
-- on the reference at the value that it has in the last repository
pub record IsVerdictOf (h : History) (name : List ℕ) (verdict : Verdict Fault) : Type 0 where
  pub log : List Taken
  pub entries : AreEntriesOf log h.members
  pub all : length log ≡ count h
  pub repository : Repository
  pub last_is : last h ≡ Some repository
  pub judged : IsJudged (real_rules None) log name (value_of repository name) verdict
