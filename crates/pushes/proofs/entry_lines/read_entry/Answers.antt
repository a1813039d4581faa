use Rattle.std.proofs.Common.{sym, ◌∙◌}
use Rattle.pushes.proofs.EntryLines.{entry_here, no_entry}
use Rattle.pushes.proofs.entry_lines.read_entry.Goals as goal

pub returns-in_default-2-clause-none : goal.returns-in_default-2-clause-none
returns-in_default-2-clause-none c =
    no_entry c.args.objects.now c.args.text.now c.in-Some.parts.0 c.in-Some.parts.1.now c.in-Some.ensures.found c.in-Some.ensures.valid
    (sym c.in_ok-entry.ensures ∙ c.in_default-2.is)

pub returns-clause-found : goal.returns-clause-found
returns-clause-found c =
    entry_here c.args.objects.now c.args.text.now c.in-Some.parts.0 c.in-Some.parts.1.now c.in-Some-2.entry c.in-Some.ensures.found c.in-Some.ensures.valid
    (sym c.in_ok-entry.ensures ∙ c.in-Some-2.is)
