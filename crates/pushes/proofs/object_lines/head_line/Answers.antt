use Rattle.pushes.proofs.ObjectLines.{other_head}
use Rattle.pushes.proofs.object_lines.head_line.Goals as goal

pub returns-in_default-split_head-clause-none : goal.returns-in_default-split_head-clause-none
returns-in_default-split_head-clause-none c =
    other_head c.args.text.now c.in-Some.parts.0.now c.in-Some.parts.1.now c.in-Some.ensures.is_line c.in-Some.ensures.found
    c.in_default-split_head.ensures.none
