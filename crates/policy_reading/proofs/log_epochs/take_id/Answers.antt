use Rattle.policy_reading.proofs.log_epochs.take_id.Goals as goal

pub returns-in-Ok-take_entry-clause-takes : goal.returns-in-Ok-take_entry-clause-takes
returns-in-Ok-take_entry-clause-takes g c = λ r told.
    record { entry = c.in-Ok.entry; read = c.in-Ok.ensures.entry r (c.in-Ok-take_entry.ensures.same.content r told); takes = c.in-Ok-take_entry.ensures.takes r told }
