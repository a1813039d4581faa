use Rattle.std.proofs.Common.{◌∙◌, sym}
use Rattle.policy_reading.specs.Policies.{policy_of}
use Rattle.policy_reading.proofs.Passing.{found_policy, takes_policy}
use Rattle.policy_reading.proofs.log_epochs.take_entry.Goals as goal

pub returns-in-Ok-clause-takes : goal.returns-in-Ok-clause-takes
returns-in-Ok-clause-takes g c = λ r told.
    takes_policy r c.args.entry.now (policy_of r c.in-Reference.target) c.args.epochs.now c.extend.new.epochs
    (found_policy r c.args.entry.now c.in-Reference.name c.in-Reference.target c.in-Reference.is (sym c.is_policy.ensures ∙ c.if-not-is_policy.false))
    (c.in-Ok.ensures.stands r told)
