-- Steps of a gate one after another, and what it holds behind them.
use Rattle.std.specs.Prelude.{◌≡◌, ◌∷◌, [], ℕ, List, None}
use Rattle.std.specs.List.{AllByRecursion}
use Rattle.keeper_api.specs.Growing.{NoneClashes}
use Rattle.entry_rules.specs.RealRules.{real_rules}
use Rattle.judged_logs.specs.Gates.{AreEpochs, HasNoViolation, all_in}
use Rattle.pushes.specs.declared.pushed.Push.{Push}
use Rattle.pushes.specs.Steps.{IsTaken, change_of}
use Rattle.pushes.specs.declared.replies.Reply.TheVariants as reply_
use Rattle.desk_core.specs.Adding.{IsAllowed}
use Rattle.desk_core.specs.GateSteps.{GateStep, Ledger, with_push}
use Rattle.desk_core.specs.declared.gate_replies.GateReply.{GateReply}
use Rattle.desk_core.specs.declared.gate_replies.GateReply.TheVariants.{Denied, Desk}

-- a push had this reply; or its commit failed, and then the store was found to have it
pub data Turn : Type 0 where
  Stepped : (push : Push) (seat : ℕ) (reply : GateReply) → Turn
  TakenIn : (push : Push) → Turn

-- a push that could be taken and is not denied is taken in, of nobody
pub record TakesIn (g : Ledger) (push : Push) (now : Ledger) : Type 0 where
  pub taken : IsTaken g.rows g.repository push
  pub allowed : IsAllowed g.log g.rows g.repository push
  pub after : now ≡ with_push g push 0

abbrev pub Happens : Ledger → Turn → Ledger → Type 0
Happens g (Stepped push seat reply) now = GateStep g push seat reply now
Happens g (TakenIn push) now = TakesIn g push now

-- these, one after another
abbrev pub Run : Ledger → List Turn → Ledger → Type 0
Run g [] now = now ≡ g
Run g (turn ∷ turns) now = (mid : Ledger) × Happens g turn mid × Run mid turns now

-- ---- objects

-- no object that the push adds is kept in the place of another
abbrev pub AddsBeside : Ledger → Push → Type 0
AddsBeside g push = NoneClashes (change_of g.rows push).objects g.repository

abbrev pub AddsBesideBy : Ledger → Push → GateReply → Type 0
AddsBesideBy g push (Desk (reply_.Done number id)) = AddsBeside g push
AddsBesideBy g push (Desk (reply_.Already number)) = Unit {0}
AddsBesideBy g push (Desk (reply_.Stale number id)) = Unit {0}
AddsBesideBy g push (Desk (reply_.Malformed at)) = Unit {0}
AddsBesideBy g push (Desk (reply_.Incomplete id)) = Unit {0}
AddsBesideBy g push (Desk (reply_.TooLarge length)) = Unit {0}
AddsBesideBy g push (Desk (reply_.Misnumbered number expected)) = Unit {0}
AddsBesideBy g push (Desk (reply_.Moved found expected)) = Unit {0}
AddsBesideBy g push (Desk reply_.Fault) = Unit {0}
AddsBesideBy g push (Desk reply_.Memory) = Unit {0}
AddsBesideBy g push (Denied number line) = Unit {0}

abbrev pub ReplacesNone : Ledger → Turn → Type 0
ReplacesNone g (Stepped push seat reply) = AddsBesideBy g push reply
ReplacesNone g (TakenIn push) = AddsBeside g push

-- and so in a whole run
abbrev pub RunReplacesNone : (g : Ledger) (turns : List Turn) (now : Ledger) → Run g turns now → Type 0
RunReplacesNone g [] now run = Unit {0}
RunReplacesNone g (turn ∷ turns) now run = ReplacesNone g turn × RunReplacesNone run.0 turns now run.2

-- ---- what a gate holds

-- no reference has a violation in the repository that is held, and every entry for the policy is an epoch there
pub record IsLawful (g : Ledger) : Type 0 where
  pub none : HasNoViolation (real_rules None) (all_in g.repository g.log)
  pub epochs : AreEpochs (real_rules None) (all_in g.repository g.log)

-- each entry is to be judged in the repository that is held, as where a log was just loaded
abbrev pub IsJustLoaded : Ledger → Type 0
IsJustLoaded g = AllByRecursion (λ t. t.repository ≡ g.repository) g.log

-- what was loaded lawful is lawful behind every run in which no object is kept in the place of another
abbrev pub GateHolds : Type 0
GateHolds =
    (g now : Ledger) (turns : List Turn) (run : Run g turns now) → RunReplacesNone g turns now run → IsJustLoaded g
    → IsLawful g → IsLawful now
