-- One push at a gate: its reply, and what it makes of the log and of a repository.
use Rattle.std.specs.Prelude.{◌≡◌, ◌++◌, ◌∷◌, [], ℕ, List, Some}
use Rattle.git_object.specs.Repository.{Repository}
use Rattle.keeper_api.specs.Changes.{changed}
use Rattle.rsl_chain.specs.Entries.{Taken}
use Rattle.judging.specs.declared.verdicts.EntryVerdict.TheVariants.{Refused}
use Rattle.entry_rules.specs.declared.faults.Fault.{Fault}
use Rattle.pushes.specs.declared.pushed.Push.{Push}
use Rattle.pushes.specs.Steps.{IsTaken, Replies, change_of}
use Rattle.pushes.specs.declared.replies.Reply.TheVariants as reply_
use Rattle.pushes.specs.declared.rows.Row.{Row}
use Rattle.desk_core.specs.Adding.{IsAllowed, line_of, taken_of, verdict_on}
use Rattle.desk_core.specs.declared.gate_replies.GateReply.{GateReply}
use Rattle.desk_core.specs.declared.gate_replies.GateReply.TheVariants.{Denied, Desk}

-- the rows of a log, its entries, each to be judged in the repository beside it, and the repository that is held
pub record Ledger : Type 0 where
  pub rows : List Row
  pub log : List Taken
  pub repository : Repository

-- the push could be taken, and its entry, judged in the repository that it would make, has a fault
pub record IsDenied (g : Ledger) (push : Push) (number : ℕ) (line : List ℕ) : Type 0 where
  pub taken : IsTaken g.rows g.repository push
  pub fault : Fault
  pub refused : verdict_on g.log g.rows g.repository push ≡ Refused fault
  pub number_is : number ≡ push.entry.number
  pub line_is : line_of push.entry fault ≡ Some line

-- the reply to a push: that of a desk, where it is done only if its entry has no fault, or that it is denied
abbrev pub GateReplies : Ledger → Push → GateReply → Type 0
GateReplies g push (Desk (reply_.Done number id)) = Replies g.rows g.repository push (reply_.Done number id)
    × IsAllowed g.log g.rows g.repository push
GateReplies g push (Desk (reply_.Already number)) = Replies g.rows g.repository push (reply_.Already number)
GateReplies g push (Desk (reply_.Stale number id)) = Replies g.rows g.repository push (reply_.Stale number id)
GateReplies g push (Desk (reply_.Malformed at)) = ⊥
GateReplies g push (Desk (reply_.Incomplete id)) = Replies g.rows g.repository push (reply_.Incomplete id)
GateReplies g push (Desk (reply_.TooLarge length)) = ⊥
GateReplies g push (Desk (reply_.Misnumbered number expected)) =
    Replies g.rows g.repository push (reply_.Misnumbered number expected)
GateReplies g push (Desk (reply_.Moved found expected)) = ⊥
GateReplies g push (Desk reply_.Fault) = ⊥
GateReplies g push (Desk reply_.Memory) = ⊥
GateReplies g push (Denied number line) = IsDenied g push number line

-- with the push's entry, of this seat
abbrev pub with_push : Ledger → Push → ℕ → Ledger
with_push g push seat = record {
  rows = g.rows ++ record { id = push.entry.id; seat = seat } ∷ [];
  log = g.log ++ taken_of g.rows g.repository push ∷ [];
  repository = changed (change_of g.rows push) g.repository;
}

-- what it makes of the log and of the repository: nothing, unless it is done
abbrev pub ledger_after : Ledger → Push → ℕ → GateReply → Ledger
ledger_after g push seat (Desk (reply_.Done number id)) = with_push g push seat
ledger_after g push seat (Desk (reply_.Already number)) = g
ledger_after g push seat (Desk (reply_.Stale number id)) = g
ledger_after g push seat (Desk (reply_.Malformed at)) = g
ledger_after g push seat (Desk (reply_.Incomplete id)) = g
ledger_after g push seat (Desk (reply_.TooLarge length)) = g
ledger_after g push seat (Desk (reply_.Misnumbered number expected)) = g
ledger_after g push seat (Desk (reply_.Moved found expected)) = g
ledger_after g push seat (Desk reply_.Fault) = g
ledger_after g push seat (Desk reply_.Memory) = g
ledger_after g push seat (Denied number line) = g

-- the gate's relation
pub record GateStep (g : Ledger) (push : Push) (seat : ℕ) (reply : GateReply) (now : Ledger) : Type 0 where
  pub replies : GateReplies g push reply
  pub after : now ≡ ledger_after g push seat reply

-- a push has one reply
abbrev pub OneGateReply : Type 0
OneGateReply = (g : Ledger) (push : Push) (a b : GateReply) → GateReplies g push a → GateReplies g push b → a ≡ b
