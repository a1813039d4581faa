use Rattle.std.proofs.Common.{◌+◌, List, ap, length}
use Rattle.std.specs.Option.{option_copied}
use Rattle.account_lines.specs.declared.rows.EntryRow.{EntryRow}
use Rattle.accounts.proofs.Would.{told_would}
use Rattle.accounts.proofs.would_lines.tell_would.Goals as goal

pub returns-in-Ok-would_line-clause-told : goal.returns-in-Ok-would_line-clause-told
returns-in-Ok-would_line-clause-told g c = λ r told is.
    told_would c.args.anchor.now r c.args.judged.now is c.args.proposed.now c.stood_of-stood.result (option_copied c.policy-policy.result) c.in-Ok.found c.in-Ok-would_change.changed (length c.as_slice.result.now + 1)
    c.in-Ok-would_line.line (c.stood_of-stood.ensures is.log is.stands) (c.policy-policy.ensures is.log is.stands.follows) (c.in-Ok.ensures.found r (c.in-Ok-would_change.ensures.same.content r told))
    (c.in-Ok-would_change.ensures.changed r told)
    (ap (λ (rows : List EntryRow). length rows + 1) c.as_slice.ensures) (c.in-Ok-would_line.ensures is.log is.stands)
