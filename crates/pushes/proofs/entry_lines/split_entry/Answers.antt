use Rattle.pushes.proofs.EntryLines.{no_feed_after}
use Rattle.pushes.proofs.entry_lines.split_entry.Goals as goal

pub returns-in_default-strip_front-clause-none : goal.returns-in_default-strip_front-clause-none
returns-in_default-strip_front-clause-none c =
    no_feed_after c.args.text.now c.in-Some.words.now c.in-Some-split_front.found.0 c.in-Some-split_front.found.1.now c.in-Some.ensures.found
    c.in-Some-split_front.ensures.found c.in-Some-split_front.ensures.valid
    c.in_default-strip_front.ensures.none
