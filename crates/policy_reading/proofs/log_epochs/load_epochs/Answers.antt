use Rattle.std.proofs.Common.{List, ℕ, subst}
use Rattle.policy_reading.proofs.Passing.{has_epochs, unmissed}
use Rattle.policy_reading.specs.InForce.{MissesEntry, StandsAt}
use Rattle.policy_reading.proofs.log_epochs.load_epochs.Goals as goal

pub returns-in-Ok-epochs_at-clause-stands : goal.returns-in-Ok-epochs_at-clause-stands
returns-in-Ok-epochs_at-clause-stands g c = λ r told.
    has_epochs r c.in-Ok.log.ids c.in-Ok-epochs_at.epochs (c.in-Ok.ensures.log r (c.in-Ok-epochs_at.ensures.same.content r told))
    (subst (λ (ids : List (List ℕ)). StandsAt r ids c.in-Ok-epochs_at.epochs) c.as_slice.ensures (c.in-Ok-epochs_at.ensures.stands r told))

pub returns-clause-broken : goal.returns-clause-broken
returns-clause-broken g c = λ r told.
    unmissed r c.in-Ok.log.ids c.in-Err-epochs_at.fault (c.in-Ok.ensures.log r (c.in-Err-epochs_at.ensures.same.content r told))
    (subst (λ (ids : List (List ℕ)). MissesEntry r ids c.in-Err-epochs_at.fault) c.as_slice.ensures (c.in-Err-epochs_at.ensures.broken r told))
