use Rattle.std.proofs.Common.{Result, ap, subst, sym, ◌∙◌}
use Rattle.policy_epochs.specs.Epochs.{below, fault_under, policy_in}
use Rattle.policy_epochs.specs.Standing.{IsNext, verdict_of}
use Rattle.policy_epochs.specs.Succession.{succession}
use Rattle.policy_epochs.specs.declared.faults.PolicyFault.{PolicyFault}
use Rattle.policy_epochs.specs.declared.policies.Policy.{Policy}
use Rattle.policy_reading.proofs.kept_epochs.extend.Goals as goal

pub returns-clause-stands : goal.returns-clause-stands
returns-clause-stands g c = λ r told checked n number next stands.
    c.in_ok-take.ensures.stands checked n number (subst (λ (found : Result Policy PolicyFault). IsNext checked n number found) (sym (c.in_ok-found.ensures.policy r told)) next) stands

pub returns-clause-epoch : goal.returns-clause-epoch
returns-clause-epoch g c = λ r told checked n number list next stands are.
    c.in_ok-take.ensures.epoch checked n number list (subst (λ (found : Result Policy PolicyFault). IsNext checked n number found) (sym (c.in_ok-found.ensures.policy r told)) next) stands are
    ∙ ap (λ (found : Result Policy PolicyFault). verdict_of (fault_under (succession c.args.epochs.now.anchor) (policy_in checked (below number list)) found)) (c.in_ok-found.ensures.policy r told)
