use Rattle.std.proofs.Common.{ap, ◌∙◌}
use Rattle.recovery.proofs.LaneLemmas.{lane_for, lanes_are, no_names}
use Rattle.recovery.proofs.marks.Marks.new.Goals as goal

pub returns : goal.returns
returns c = λ name.
    lanes_are c.new.result.items c.new-2.result.items c.new-3.result name
    ∙ ap (lane_for c.new.result.items c.new-2.result.items) (no_names c.new-3.result name c.new-3.ensures.empty)
