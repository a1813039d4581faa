-- What a gate's state has judged, and what each of its calls makes of that.
use Rattle.std.specs.Prelude.{◌≡◌, ◌⊎◌, ◌++◌, ◌∷◌, [], ℕ, Bool, true, false, List, map, Option, Some, None, Result, Err}
use Rattle.git_object.specs.Repository.{Repository}
use Rattle.keeper_api.specs.Changes.{changed}
use Rattle.keeper_api.specs.Undisturbed.{Undisturbed}
use Rattle.keeper_api.specs.declared.keepers.Keeper as keeper
use Rattle.entry_rules.specs.Learning.{AreKnownIn}
use Rattle.rsl_chain.specs.Entries.{Taken}
use Rattle.rsl_chain.specs.declared.entries.Entry.{Entry}
use Rattle.judging.specs.declared.verdicts.EntryVerdict.TheVariants.{Refused}
use Rattle.entry_rules.specs.declared.faults.Fault.{Fault}
use Rattle.verify_ref.specs.Following.{Follows}
use Rattle.verify_ref.specs.declared.engine.Engine.{Engine}
use Rattle.pushes.specs.declared.pushed.Push.{Push}
use Rattle.pushes.specs.Steps.{IsTaken, change_of, ids_of}
use Rattle.pushes.specs.declared.replies.Reply.{Reply}
use Rattle.pushes.specs.declared.replies.Reply.TheVariants as reply_
use Rattle.pushes.specs.declared.rows.Row.{Row}
use Rattle.desk_turns.specs.States as desks
use Rattle.desk_turns.specs.declared.settled.Settled.{Settled}
use Rattle.desk_turns.specs.declared.settled.Settled.TheVariants as settled_
use Rattle.desk_core.specs.Laws.{taken_id}
use Rattle.desk_core.specs.Adding.{IsAllowed, line_of, verdict_on}
use Rattle.desk_core.specs.GateSteps.{GateStep, Ledger}
use Rattle.desk_core.specs.declared.gate_replies.GateReply.{GateReply}
use Rattle.desk_core.specs.declared.gate_replies.GateReply.TheVariants.{Denied, Desk}
use Rattle.desk_core.specs.declared.gate_state.GateState.{GateState}

-- what an engine learned of trees is so in what the store tells
abbrev pub KnowsStore : {R : Type 0} → keeper.Ghosts R → R → Engine → Type 0
KnowsStore k store engine = (r : Repository) → k.content store ≡ Some r → AreKnownIn r engine.known

-- ---- what was judged

-- the engine took all entries but the last, which is this one, to be judged in the repository
pub record IsOneBehind (r : Repository) (log : List Taken) (engine : Engine) (entry : Entry) : Type 0 where
  pub front : List Taken
  pub follows : Follows front engine
  pub is : log ≡ front ++ record { entry = entry; repository = r } ∷ []

-- the engine took these entries, or all but the last, which is the one that is kept
abbrev pub IsBehind : Repository → List Taken → Engine → Option Entry → Type 0
IsBehind r log engine None = Follows log engine
IsBehind r log engine (Some entry) = IsOneBehind r log engine entry

-- the engine took these entries, and the one that is kept is that in doubt
pub record KeepsDoubt (log : List Taken) (engine : Engine) (waiting : Option Entry) (id : List ℕ) : Type 0 where
  pub entry : Entry
  pub waits : waiting ≡ Some entry
  pub id_is : entry.id ≡ id
  pub follows : Follows log engine

abbrev pub IsAt : Repository → List Taken → Engine → Option Entry → Option (List ℕ) → Type 0
IsAt r log engine waiting None = IsBehind r log engine waiting
IsAt r log engine waiting (Some id) = KeepsDoubt log engine waiting id

-- the state judges by these entries, which are those of its rows, each in the repository beside it; the last may be yet
-- to be judged, in the repository that is held
pub record Judges (r : Repository) (log : List Taken) (state : GateState) : Type 0 where
  pub rows : map taken_id log ≡ ids_of state.log.log
  pub anchor : state.engine.rules.anchor ≡ None
  pub at : IsAt r log state.engine state.waiting state.log.doubt

-- so it is with whatever a store told
abbrev pub JudgesAt : Option Repository → List Taken → GateState → Type 0
JudgesAt content log state = (r : Repository) → content ≡ Some r → Judges r log state

-- ---- a push

-- the entry that is kept where a push is done or in doubt
abbrev pub kept_where : Bool → Entry → Option Entry
kept_where true entry = Some entry
kept_where false entry = None

-- the push is done
abbrev pub is_done : Reply → Bool
is_done (reply_.Done number id) = true
is_done (reply_.Already number) = false
is_done (reply_.Stale number id) = false
is_done (reply_.Malformed at) = false
is_done (reply_.Incomplete id) = false
is_done (reply_.TooLarge length) = false
is_done (reply_.Misnumbered number expected) = false
is_done (reply_.Moved found expected) = false
is_done reply_.Fault = false
is_done reply_.Memory = false

-- the store failed
abbrev pub is_gate_fault : GateReply → Bool
is_gate_fault (Desk reply) = desks.is_fault reply
is_gate_fault (Denied number line) = false

abbrev pub gate_answered : GateReply → Result (Unit {0}) GateReply
gate_answered reply = Err reply

-- why a push is not taken, where the store tells this
abbrev pub GateRefuses : Option Repository → List Row → Push → GateReply → Type 0
GateRefuses content rows push (Desk reply) = desks.Refuses content rows push reply
GateRefuses content rows push (Denied number line) = desks.Fits content rows push × (number ≡ push.entry.number)

-- its entry has a fault that the line tells
pub record HasFault (log : List Taken) (rows : List Row) (r : Repository) (push : Push) (line : List ℕ) : Type 0 where
  pub fault : Fault
  pub refused : verdict_on log rows r push ≡ Refused fault
  pub line_is : line_of push.entry fault ≡ Some line

abbrev pub SaysWhy : List Taken → List Row → Repository → Push → GateReply → Type 0
SaysWhy log rows r push (Desk reply) = Unit {0}
SaysWhy log rows r push (Denied number line) = HasFault log rows r push line

abbrev pub ledger_of : GateState → List Taken → Repository → Ledger
ledger_of state log r = record { rows = state.log.log; log = log; repository = r }

module _ {R : Type 0} (k : keeper.Ghosts R) (old new : R) where
  -- nothing changed, as the push could be taken and is denied
  pub record IsHeldBack (was now : desks.Desk) (push : Push) (number : ℕ) : Type 0 where
    pub state : now ≡ was
    pub same : Undisturbed k old new
    pub fits : desks.Fits (k.content new) was.log push
    pub number_is : number ≡ push.entry.number

  -- what each reply means for the log and the store
  abbrev pub GateSteps : desks.Desk → desks.Desk → Push → ℕ → GateReply → Type 0
  GateSteps was now push seat (Desk reply) = desks.Steps k old new was now push seat reply
  GateSteps was now push seat (Denied number line) = IsHeldBack was now push number

  module _ (was now : GateState) (log : List Taken) (r' : Repository) where
    -- the step is the gate's relation between what was and what is
    pub record IsStepped (push : Push) (seat : ℕ) (reply : GateReply) : Type 0 where
      pub r : Repository
      pub told : k.content old ≡ Some r
      pub log_now : List Taken
      pub step : GateStep (ledger_of was log r) push seat reply (ledger_of now log_now r')
      pub judges : Judges r' log_now now

    -- nothing changed, but what the engine took
    pub record IsStill : Type 0 where
      pub told : k.content old ≡ Some r'
      pub log_is : now.log ≡ was.log
      pub judges : Judges r' log now

    -- the commit failed of a push that could be taken and is not denied, and it is in doubt
    pub record IsDoubted (push : Push) : Type 0 where
      pub r : Repository
      pub told : k.content old ≡ Some r
      pub taken : IsTaken was.log.log r push
      pub allowed : IsAllowed log was.log.log r push
      pub held : (r' ≡ r) ⊎ (r' ≡ changed (change_of was.log.log push) r)
      pub doubt : now.log.doubt ≡ Some push.entry.id
      pub waits : now.waiting ≡ Some push.entry
      pub judges : Judges r' log now

    -- after each reply, where the store tells what it holds
    abbrev pub IsGateStep : Push → ℕ → GateReply → Type 0
    IsGateStep push seat (Desk (reply_.Done number id)) = IsStepped push seat (Desk (reply_.Done number id))
    IsGateStep push seat (Desk (reply_.Already number)) = IsStepped push seat (Desk (reply_.Already number))
    IsGateStep push seat (Desk (reply_.Stale number id)) = IsStepped push seat (Desk (reply_.Stale number id))
    IsGateStep push seat (Desk (reply_.Malformed at)) = ⊥
    IsGateStep push seat (Desk (reply_.Incomplete id)) = IsStepped push seat (Desk (reply_.Incomplete id))
    IsGateStep push seat (Desk (reply_.TooLarge length)) = ⊥
    IsGateStep push seat (Desk (reply_.Misnumbered number expected)) =
        IsStepped push seat (Desk (reply_.Misnumbered number expected))
    IsGateStep push seat (Desk (reply_.Moved found expected)) = ⊥
    IsGateStep push seat (Desk reply_.Fault) = IsStill ⊎ IsDoubted push
    IsGateStep push seat (Desk reply_.Memory) = IsStill
    IsGateStep push seat (Denied number line) = IsStepped push seat (Denied number line)

-- ---- settling

module _ (was now : GateState) (log : List Taken) (r' : Repository) where
  -- the entry in doubt, which was kept, is the last, to be judged in the repository that is held
  pub record IsTakenIn (id : List ℕ) : Type 0 where
    pub entry : Entry
    pub waited : was.waiting ≡ Some entry
    pub id_is : entry.id ≡ id
    pub judges : Judges r' (log ++ record { entry = entry; repository = r' } ∷ []) now

  -- after each answer, where the store tells what it holds
  abbrev pub IsGateSettled : Settled → Type 0
  IsGateSettled settled_.Clear = Judges r' log now
  IsGateSettled (settled_.TookIn id) = IsTakenIn id
  IsGateSettled (settled_.Moved found expected) = Judges r' log now
  IsGateSettled settled_.Fault = Judges r' log now
  IsGateSettled settled_.Memory = Judges r' log now

-- nothing is in doubt
abbrev pub is_clear : Settled → Bool
is_clear settled_.Clear = true
is_clear (settled_.TookIn id) = false
is_clear (settled_.Moved found expected) = false
is_clear settled_.Fault = false
is_clear settled_.Memory = false
