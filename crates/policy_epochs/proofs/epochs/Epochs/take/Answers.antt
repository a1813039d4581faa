use Rattle.std.proofs.Common.{ap, sym, ◌∙◌}
use Rattle.std.proofs.lemmas.Result.{IfOk-weaker, on_ok_weaker}
use Rattle.policy_epochs.specs.Epochs.{fault_under, policy_after}
use Rattle.policy_epochs.specs.Standing.{verdict_of}
use Rattle.policy_epochs.specs.Succession.{succession}
use Rattle.policy_epochs.proofs.Taking.{in_force_below, taken}
use Rattle.policy_epochs.proofs.epochs.Epochs.take.Goals as goal

pub returns-clause-stands : goal.returns-clause-stands
returns-clause-stands c =
    on_ok_weaker c.step.result
    (λ own checked n number next stands.
    own
    ∙ taken checked (succession c.args.self.now.anchor) n number c.args.found c.args.self.now.current next.later next.between next.there stands
    ∙ ap (λ anchor. policy_after checked (succession anchor) number) (sym c.step.ensures.anchor))
    c.step.ensures.kept

pub returns-clause-epoch : goal.returns-clause-epoch
returns-clause-epoch c =
    IfOk-weaker c.step.result _ _
    (λ verdict is checked n number list next stands are.
    is
    ∙ ap (λ current. verdict_of (fault_under (succession c.args.self.now.anchor) current c.args.found))
    (stands ∙ sym (in_force_below checked (succession c.args.self.now.anchor) n number list next.later next.between are)))
    c.step.ensures.verdict
