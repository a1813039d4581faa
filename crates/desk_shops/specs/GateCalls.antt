-- What each answer of a gate's shop says of the history before it.
use Rattle.std.specs.Prelude.{◌≡◌, ℕ, Bool, false, List, Some, None, Result, Ok, Err}
use Rattle.git_object.specs.Repository.{Repository, value_of}
use Rattle.keeper_api.specs.declared.keeper_faults.KeeperFault.{KeeperFault}
use Rattle.keeper_api.specs.declared.keepers.Keeper as keeper
use Rattle.judging.specs.Verdicts.{IsJudged}
use Rattle.judging.specs.declared.verdicts.Verdict.{Verdict}
use Rattle.entry_rules.specs.RealRules.{real_rules}
use Rattle.entry_rules.specs.declared.faults.Fault.{Fault}
use Rattle.pushes.specs.declared.pushed.Push.{Push}
use Rattle.desk_shops.specs.declared.text_faults.TextFault.{TextFault}
use Rattle.desk_turns.specs.Histories.{History, Member, with_member}
use Rattle.pushes.specs.declared.replies.Reply.{Reply}
use Rattle.pushes.specs.declared.replies.Reply.TheVariants as reply_
use Rattle.desk_shops.specs.Desks.{done_reply, reply_of_text}
use Rattle.desk_shops.specs.declared.judged.Judged.{Judged}
use Rattle.desk_shops.specs.declared.judged.Judged.TheVariants as judged_
use Rattle.desk_core.specs.GateSteps.{GateReplies, Ledger, with_push}
use Rattle.desk_core.specs.declared.gate_replies.GateReply.{GateReply}
use Rattle.desk_core.specs.declared.gate_replies.GateReply.TheVariants.{Denied, Desk}
use Rattle.desk_core.specs.declared.gate_state.GateState.{GateState}
use Rattle.desk_shops.specs.GateStanding.{IsGated, Stands}

-- what is said of a reference where a verdict was given
abbrev pub judged_by : Result (Verdict Fault) KeeperFault → Result Judged KeeperFault
judged_by (Ok verdict) = Ok (judged_.Verdict verdict)
judged_by (Err fault) = Err fault

-- a text, or the reply where there is none
abbrev pub text_or_reply : Result (List ℕ) TextFault → Result (List ℕ) Reply
text_or_reply (Ok text) = Ok text
text_or_reply (Err fault) = Err (reply_of_text fault)

-- the push is done
abbrev pub gate_done : GateReply → Bool
gate_done (Desk reply) = done_reply reply
gate_done (Denied number line) = false

-- the answer is the gate's at a ledger of the history
pub record AnswersAt (h : History) (push : Push) (answer : GateReply) : Type 0 where
  pub ledger : Ledger
  pub gated : IsGated h ledger
  pub replies : GateReplies ledger push answer

module _ {R : Type 0} (k : keeper.Ghosts R) (store : R) (state : GateState) (h : History) (push : Push) where
  -- and where the shop then stands for one member more, that history has the same ledger with the push
  pub record IsAddedAt (number : ℕ) (id : List ℕ) : Type 0 where
    pub answered : AnswersAt h push (Desk (reply_.Done number id))
    pub more : (m : Member) → Stands k store state (with_member h m)
        → IsGated (with_member h m) (with_push answered.ledger push m.seat)

  abbrev pub WhereTold : Type 0 → Type 0
  WhereTold said = (r : Repository) → k.content store ≡ Some r → said

  -- where the store tells what it holds, each answer but a fault and want of memory is the gate's
  abbrev pub GateAnswers : GateReply → Type 0
  GateAnswers (Desk (reply_.Done number id)) = WhereTold (IsAddedAt number id)
  GateAnswers (Desk (reply_.Already number)) = WhereTold (AnswersAt h push (Desk (reply_.Already number)))
  GateAnswers (Desk (reply_.Stale number id)) = WhereTold (AnswersAt h push (Desk (reply_.Stale number id)))
  GateAnswers (Desk (reply_.Malformed at)) = ⊥
  GateAnswers (Desk (reply_.Incomplete id)) = WhereTold (AnswersAt h push (Desk (reply_.Incomplete id)))
  GateAnswers (Desk (reply_.TooLarge length)) = ⊥
  GateAnswers (Desk (reply_.Misnumbered number expected)) =
      WhereTold (AnswersAt h push (Desk (reply_.Misnumbered number expected)))
  GateAnswers (Desk (reply_.Moved found expected)) = ⊥
  GateAnswers (Desk reply_.Fault) = Unit {0}
  GateAnswers (Desk reply_.Memory) = Unit {0}
  GateAnswers (Denied number line) = WhereTold (AnswersAt h push (Denied number line))

-- by all entries of the history's ledger, and by the value in its last repository, this is the verdict
pub record IsVerdictAt (h : History) (name : List ℕ) (verdict : Verdict Fault) : Type 0 where
  pub ledger : Ledger
  pub gated : IsGated h ledger
  pub judged : IsJudged (real_rules None) ledger.log name (value_of ledger.repository name) verdict

abbrev pub GateJudges : {R : Type 0} → keeper.Ghosts R → R → History → List ℕ → Judged → Type 0
GateJudges k store h name (judged_.Verdict verdict) =
    (r : Repository) → k.content store ≡ Some r → IsVerdictAt h name verdict
GateJudges k store h name (judged_.LogBroken id) = ⊥
