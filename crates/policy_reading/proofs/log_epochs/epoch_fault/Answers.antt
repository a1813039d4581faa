use Rattle.std.proofs.Common.{◌∙◌, sym}
use Rattle.std.specs.Prelude.{None, Some}
use Rattle.policy_reading.proofs.Passing.{fault_behind}
use Rattle.policy_reading.proofs.log_epochs.epoch_fault.Goals as goal

pub returns-in-Ok-Opened-clause-fault : goal.returns-in-Ok-Opened-clause-fault
returns-in-Ok-Opened-clause-fault g c = λ r told entries are.
    let stands = c.in-Ok.ensures.stands r (c.in-Ok-Opened.ensures.same.content r told) in
    fault_behind c.args.anchor r entries c.in-Ok.epochs c.args.target.now None c.in-Ok.ensures.anchor (stands.for entries are) (sym c.in-Ok-Opened.field-0-is ∙ c.in-Ok-Opened.ensures.verdict r told)

pub returns-in-Ok-Refused-clause-fault : goal.returns-in-Ok-Refused-clause-fault
returns-in-Ok-Refused-clause-fault g c = λ r told entries are.
    let stands = c.in-Ok.ensures.stands r (c.in-Ok-Refused.ensures.same.content r told) in
    fault_behind c.args.anchor r entries c.in-Ok.epochs c.args.target.now (Some c.in-Ok-Refused.fault) c.in-Ok.ensures.anchor (stands.for entries are) (sym c.in-Ok-Refused.field-0-is ∙ c.in-Ok-Refused.ensures.verdict r told)

pub returns-in-Ok-Opened-clause-there : goal.returns-in-Ok-Opened-clause-there
returns-in-Ok-Opened-clause-there g c = λ r told. let stands = c.in-Ok.ensures.stands r (c.in-Ok-Opened.ensures.same.content r told) in stands.there

pub returns-in-Ok-Refused-clause-there : goal.returns-in-Ok-Refused-clause-there
returns-in-Ok-Refused-clause-there g c = λ r told. let stands = c.in-Ok.ensures.stands r (c.in-Ok-Refused.ensures.same.content r told) in stands.there
