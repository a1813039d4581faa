use Rattle.std.proofs.Common.{◌≡◌, drop, ◌-◌}
use Rattle.git_object.specs.Names.{has_pair}
use Rattle.git_object.proofs.names.holds_pair.Given as goal

abbrev pub invariant-bytes : goal.invariant-bytes
invariant-bytes l = has_pair l.first l.second (drop (l.end - 1) l.text) ≡ has_pair l.first l.second l.text
