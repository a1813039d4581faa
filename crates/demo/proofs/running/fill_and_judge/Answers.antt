use Rattle.std.proofs.Common.{List, subst, sym, ℕ}
use Rattle.std.specs.Prelude.{None, Ok, Err}
use Rattle.verify_ref.specs.Verdicts.{Answers}
use Rattle.demo.specs.Demos.{JudgeEnds}
use Rattle.demo.specs.declared.running.DemoFault.{DemoFault}
use Rattle.demo.proofs.FilledStores.{judged}
use Rattle.demo.proofs.running.fill_and_judge.Goals as goal

pub returns-in-Ok-verify-clause-ends : goal.returns-in-Ok-verify-clause-ends
returns-in-Ok-verify-clause-ends g c =
    judged c.args.count g.R.Keeper c.args.keeper.now c.fill.new.keeper c.verify.new.keeper c.in-Ok.ensures.ends c.verify.ensures.same (Ok c.in-Ok-verify.verdict)
    (λ r held. subst (λ (name : List ℕ). Answers r name None (Ok c.in-Ok-verify.verdict)) c.requires.name (c.in-Ok-verify.ensures.answers r held))

pub returns-in-Err-verify-clause-ends : goal.returns-in-Err-verify-clause-ends
returns-in-Err-verify-clause-ends g c =
    subst (λ (f : DemoFault). JudgeEnds c.args.count g.R.Keeper c.args.keeper.now c.verify.new.keeper (Err f)) (sym c.judge_fault.ensures)
    (judged c.args.count g.R.Keeper c.args.keeper.now c.fill.new.keeper c.verify.new.keeper c.in-Ok.ensures.ends c.verify.ensures.same (Err c.in-Err-verify.fault)
    (λ r held. subst (λ (name : List ℕ). Answers r name None (Err c.in-Err-verify.fault)) c.requires.name (c.in-Err-verify.ensures.answers r held)))
