-- A push has one reply at a gate, and what a gate holds.
use Rattle.std.proofs.Common.{◌≡◌, ◌++◌, ◌∷◌, ◌+◌, [], ℕ, List, length, Some, None, refl, sym, ap, subst, ◌∙◌}
use Rattle.std.specs.List.{AllByRecursion}
use Rattle.std.proofs.lemmas.List.{append_assoc, append-nil}
use Rattle.git_object.specs.Repository.{Repository}
use Rattle.rsl_chain.specs.Entries.{Taken}
use Rattle.judging.specs.declared.verdicts.EntryVerdict.TheVariants.{Refused}
use Rattle.entry_rules.specs.RealRules.{real_rules}
use Rattle.entry_rules.specs.declared.faults.Fault.{Fault}
use Rattle.judged_logs.specs.Changes.{Added, Addition}
use Rattle.judged_logs.specs.Gates.{AreEpochs, AreTaken, HasNoViolation, TakesLawful, all_in, repository_after}
use Rattle.judged_logs.proofs.Gated.{holds}
use Rattle.judged_logs.proofs.Passing.{are_taken}
use Rattle.desk_core.proofs.Lasts.{last}
use Rattle.pushes.specs.declared.pushed.Push.{Push}
use Rattle.pushes.specs.Steps.{Replies, change_of}
use Rattle.pushes.specs.declared.replies.Reply.{Reply}
use Rattle.pushes.specs.declared.replies.Reply.TheVariants as reply_
use Rattle.pushes.proofs.Replying.{one_reply}
use Rattle.desk_core.specs.Adding.{IsAllowed, line_of, taken_of}
use Rattle.desk_core.specs.GateSteps.{GateReplies, IsDenied, Ledger, OneGateReply, with_push}
use Rattle.desk_core.specs.Runs.{AddsBeside, GateHolds, Happens, ReplacesNone, Run, RunReplacesNone, Stepped, TakenIn, Turn}
use Rattle.desk_core.specs.declared.gate_replies.GateReply.{GateReply}
use Rattle.desk_core.specs.declared.gate_replies.GateReply.TheVariants.{Denied, Desk}

-- ---- one reply

module _ (g : Ledger) (push : Push) where
  plain : (reply : Reply) → GateReplies g push (Desk reply) → Replies g.rows g.repository push reply
  plain (reply_.Done number id) is = is.0
  plain (reply_.Already number) is = is
  plain (reply_.Stale number id) is = is
  plain (reply_.Malformed at) is = absurd is
  plain (reply_.Incomplete id) is = is
  plain (reply_.TooLarge size) is = absurd is
  plain (reply_.Misnumbered number expected) is = is
  plain (reply_.Moved found expected) is = absurd is
  plain reply_.Fault is = absurd is
  plain reply_.Memory is = absurd is

  -- what a desk does is not denied
  not_both : (reply : Reply) (number : ℕ) (line : List ℕ) → GateReplies g push (Desk reply) → IsDenied g push number line → ⊥
  not_both reply number line is denied =
      let done : Replies g.rows g.repository push (reply_.Done (length g.rows + 1) push.entry.id) = (denied.taken, refl, refl) in
      let same : reply ≡ reply_.Done (length g.rows + 1) push.entry.id = one_reply g.rows g.repository push reply (reply_.Done (length g.rows + 1) push.entry.id) (plain reply is) done in
      let allowed = subst (λ (x : Reply). GateReplies g push (Desk x)) same is in
      allowed.1 denied.fault denied.refused

  one_denial : (n m : ℕ) (a b : List ℕ) → IsDenied g push n a → IsDenied g push m b → Denied n a ≡ Denied m b
  one_denial n m a b is also =
      let number : n ≡ m = is.number_is ∙ sym also.number_is in
      let both : Refused is.fault ≡ Refused also.fault = sym is.refused ∙ also.refused in
      let fault : is.fault ≡ also.fault = cc both in
      let lines : Some a ≡ Some b = sym is.line_is ∙ ap (λ (f : Fault). line_of push.entry f) fault ∙ also.line_is in
      let line : a ≡ b = cc lines in
      λ i. Denied (number i) (line i)

  one_of : (a b : GateReply) → GateReplies g push a → GateReplies g push b → a ≡ b
  one_of (Desk a) (Desk b) is also = ap Desk (one_reply g.rows g.repository push a b (plain a is) (plain b also))
  one_of (Desk a) (Denied m line) is also = absurd (not_both a m line is also)
  one_of (Denied n line) (Desk b) is also = absurd (not_both b n line also is)
  one_of (Denied n a) (Denied m b) is also = one_denial n m a b is also

pub one_gate_reply : OneGateReply
one_gate_reply g push a b is also = one_of g push a b is also

-- ---- what a run adds

-- the entries that were taken, each lawful
record Adds (g now : Ledger) : Type 0 where
  more : List Taken
  log_is : now.log ≡ g.log ++ more
  taken : AreTaken (real_rules None) g.log g.repository more
  repository_is : now.repository ≡ repository_after g.repository more

lawful : (g : Ledger) (push : Push) → AddsBeside g push → IsAllowed g.log g.rows g.repository push → TakesLawful (real_rules None) g.log g.repository (taken_of g.rows g.repository push)
lawful g push beside allowed =
    let addition : Addition = record { entry = push.entry; change = change_of g.rows push } in
    (are_taken (real_rules None) g.log g.repository (Added addition ∷ []) (record { none_clash = beside; not_denied = allowed }, tt)).0

adds_push : (g now : Ledger) (push : Push) (seat : ℕ) → AddsBeside g push → IsAllowed g.log g.rows g.repository push → Adds (with_push g push seat) now → Adds g now
adds_push g now push seat beside allowed rest =
    let t = taken_of g.rows g.repository push in
    record {
      more = t ∷ rest.more;
      log_is = rest.log_is ∙ append_assoc g.log (t ∷ []) rest.more;
      taken = (lawful g push beside allowed, rest.taken);
      repository_is = rest.repository_is;
    }

adds_by : (g mid now : Ledger) (turn : Turn) → Happens g turn mid → ReplacesNone g turn → Adds mid now → Adds g now
adds_by g mid now (TakenIn push) is beside rest = adds_push g now push 0 beside is.allowed (subst (λ (x : Ledger). Adds x now) is.after rest)
adds_by g mid now (Stepped push seat (Desk (reply_.Done number id))) is beside rest = adds_push g now push seat beside is.replies.1 (subst (λ (x : Ledger). Adds x now) is.after rest)
adds_by g mid now (Stepped push seat (Desk (reply_.Already number))) is beside rest = subst (λ (x : Ledger). Adds x now) is.after rest
adds_by g mid now (Stepped push seat (Desk (reply_.Stale number id))) is beside rest = subst (λ (x : Ledger). Adds x now) is.after rest
adds_by g mid now (Stepped push seat (Desk (reply_.Malformed at))) is beside rest = absurd is.replies
adds_by g mid now (Stepped push seat (Desk (reply_.Incomplete id))) is beside rest = subst (λ (x : Ledger). Adds x now) is.after rest
adds_by g mid now (Stepped push seat (Desk (reply_.TooLarge size))) is beside rest = absurd is.replies
adds_by g mid now (Stepped push seat (Desk (reply_.Misnumbered number expected))) is beside rest = subst (λ (x : Ledger). Adds x now) is.after rest
adds_by g mid now (Stepped push seat (Desk (reply_.Moved found expected))) is beside rest = absurd is.replies
adds_by g mid now (Stepped push seat (Desk reply_.Fault)) is beside rest = absurd is.replies
adds_by g mid now (Stepped push seat (Desk reply_.Memory)) is beside rest = absurd is.replies
adds_by g mid now (Stepped push seat (Denied number line)) is beside rest = subst (λ (x : Ledger). Adds x now) is.after rest

adds_all : (g now : Ledger) (turns : List Turn) (run : Run g turns now) → RunReplacesNone g turns now run → Adds g now
adds_all g now [] run beside = record {
  more = [];
  log_is = ap (λ (x : Ledger). x.log) run ∙ sym (append-nil g.log);
  taken = tt;
  repository_is = ap (λ (x : Ledger). x.repository) run;
}
adds_all g now (turn ∷ turns) run beside = adds_by g run.0 now turn run.1 beside.0 (adds_all run.0 now turns run.2 beside.1)

-- ---- what it holds

all_here : (r : Repository) (log : List Taken) → AllByRecursion (λ (t : Taken). t.repository ≡ r) log → all_in r log ≡ log
all_here r [] all = refl
all_here r (t ∷ log) all = (let here = all.0 in let rest = all_here r log all.1 in λ i. record { entry = t.entry; repository = sym here i } ∷ rest i)

pub gate_holds : GateHolds
gate_holds g now turns run beside loaded is =
    let rules = real_rules None in
    let adds = adds_all g now turns run beside in
    let same = all_here g.repository g.log loaded in
    let none = subst (HasNoViolation rules) same is.none in
    let epochs = subst (AreEpochs rules) same is.epochs in
    let end = holds rules (last None) g.log adds.more g.repository loaded none epochs adds.taken in
    let there : all_in (repository_after g.repository adds.more) (g.log ++ adds.more) ≡ all_in now.repository now.log = λ i. all_in (sym adds.repository_is i) (sym adds.log_is i) in
    record { none = subst (HasNoViolation rules) there end.0; epochs = subst (AreEpochs rules) there end.1 }
