use Rattle.std.proofs.Common.{take}
use Rattle.commands_policy.proofs.Listed.{AreListed}
use Rattle.commands_policy.proofs.rule_lines.lines_of.Given as goal

abbrev pub invariant-places : goal.invariant-places
invariant-places l = AreListed l.rules (take l.place-index l.places) l.text
