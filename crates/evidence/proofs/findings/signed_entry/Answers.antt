use Rattle.std.proofs.Common.{sym, ◌∙◌}
use Rattle.evidence.proofs.Found.{good_where, named_where, none_where}
use Rattle.evidence.proofs.findings.signed_entry.Goals as goal

pub returns-then-is_signed-clause-entry : goal.returns-then-is_signed-clause-entry
returns-then-is_signed-clause-entry c = named_where c.args.public.now c.args.body.now c.in-Ok.entry c.in-Ok.ensures.read (sym c.is_signed.ensures ∙ c.if-is_signed.true)

pub returns-then-is_signed-clause-good : goal.returns-then-is_signed-clause-good
returns-then-is_signed-clause-good c = good_where c.args.public.now c.in-Ok.entry (sym c.is_signed.ensures ∙ c.if-is_signed.true)

pub returns-else-is_signed-clause-entry : goal.returns-else-is_signed-clause-entry
returns-else-is_signed-clause-entry c = none_where c.args.public.now c.args.body.now c.in-Ok.entry c.in-Ok.ensures.read (sym c.is_signed.ensures ∙ c.if-is_signed.false)
