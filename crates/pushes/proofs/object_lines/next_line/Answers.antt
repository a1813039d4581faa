use Rattle.pushes.proofs.ObjectLines.{long_line}
use Rattle.pushes.proofs.object_lines.next_line.Goals as goal

pub returns-then-parts-gt399-clause-none : goal.returns-then-parts-gt399-clause-none
returns-then-parts-gt399-clause-none c = long_line c.args.text.now c.in-Some.parts.0.now c.in-Some.parts.1.now c.in-Some.ensures.first c.in-Some.ensures.found
    c.if-parts-gt399.true
