use Rattle.std.proofs.Common.{sym, ◌∙◌}
use Rattle.policy_epochs.specs.Succession.{succession}
use Rattle.policy_epochs.proofs.LastPolicy.{last_policy}
use Rattle.policy_epochs.proofs.epochs.Epochs.current.Goals as goal

pub returns-clause-epochs : goal.returns-clause-epochs
returns-clause-epochs c = λ checked n list stands are.
    c.as_ref.ensures.value ∙ stands ∙ sym (last_policy checked (succession c.args.self.now.anchor) n list are)
