-- `demo` comes to one outcome at most.
use Rattle.std.proofs.Common.{◌≡◌, ◌≢◌, ℕ, List, refl, sym, ap, ◌∙◌}
use Rattle.std.specs.Prelude.{None, Result, Ok, Err}
use Rattle.std.specs.FinMap.{get}
use Rattle.git_object.specs.Names.{log_name}
use Rattle.git_object.specs.Repository.{Repository, empty_repository}
use Rattle.rsl_chain.specs.Chain.{OneBreak}
use Rattle.rsl_chain.specs.Logs.{heads_of}
use Rattle.judging.specs.declared.verdicts.Verdict.{Verdict}
use Rattle.entry_rules.specs.declared.faults.Fault.{Fault}
use Rattle.verify_ref.proofs.OneVerdict.{one_verdict, verdict_or_break}
use Rattle.demo.specs.Histories.{demo_repository, main_name}
use Rattle.demo.specs.Contents.{DemoComes, IsBroken, IsShown}
use Rattle.demo.specs.declared.running.DemoFault.{DemoFault}
use Rattle.demo.specs.declared.running.DemoFault.TheVariants.{Unfilled, LogBroken, KeeperFailed, SinkFailed, Memory}
use Rattle.demo.specs.declared.filling.FillFault.TheVariants as fill

module _ (once : OneBreak) (n : ℕ) (was : Repository) where
  -- what it comes to, and why
  data Comes (outcome : Result (Verdict Fault) DemoFault) : Type 0 where
    shown : (verdict : Verdict Fault) → outcome ≡ Ok verdict → IsShown n was verdict → Comes outcome
    full : outcome ≡ Err (Unfilled fill.NotEmpty) → was ≢ empty_repository → Comes outcome
    broken : (id : List ℕ) → outcome ≡ Err (LogBroken id) → IsBroken n was id → Comes outcome

  comes : (outcome : Result (Verdict Fault) DemoFault) → DemoComes n was outcome → Comes outcome
  comes (Ok verdict) is = shown verdict refl is
  comes (Err (Unfilled fill.KeeperFailed)) is = absurd is
  comes (Err (Unfilled fill.NotEmpty)) is = full refl is
  comes (Err (Unfilled fill.Memory)) is = absurd is
  comes (Err (Unfilled fill.CommitFailed)) is = absurd is
  comes (Err (LogBroken id)) is = broken id refl is
  comes (Err KeeperFailed) is = absurd is
  comes (Err SinkFailed) is = absurd is
  comes (Err Memory) is = absurd is

  one : (a b : Result (Verdict Fault) DemoFault) → Comes a → Comes b → a ≡ b
  one a b (shown v e is) (shown w f other) = e ∙ ap Ok (one_verdict (demo_repository n) main_name None v w is.1 other.1) ∙ sym f
  one a b (shown v e is) (full f other) = absurd (other is.0)
  one a b (shown v e is) (broken id f other) = absurd (verdict_or_break (demo_repository n) main_name None v id is.1 other.1)
  one a b (full e is) (shown w f other) = absurd (is other.0)
  one a b (full e is) (full f other) = e ∙ sym f
  one a b (full e is) (broken id f other) = absurd (is other.0)
  one a b (broken id e is) (shown w f other) = absurd (verdict_or_break (demo_repository n) main_name None w id other.1 is.1)
  one a b (broken id e is) (full f other) = absurd (other is.0)
  one a b (broken id e is) (broken found f other) =
      e ∙ ap (λ (i : List ℕ). Err (LogBroken i)) (once (heads_of (demo_repository n)) (get (demo_repository n).refs log_name) id found is.1 other.1) ∙ sym f

  pub same_demo : (a b : Result (Verdict Fault) DemoFault) → DemoComes n was a → DemoComes n was b → a ≡ b
  same_demo a b is other = one a b (comes a is) (comes b other)
