use Rattle.std.proofs.Common.{◌≡◌, ◌≤◌, ◌-◌, length, take}
use Rattle.octets.specs.Content.{with_front}
use Rattle.desk_messages.specs.Heads.{HasNoHead}
use Rattle.desk_messages.proofs.heads.read_head.Given as goal

abbrev pub invariant-pieces : goal.invariant-pieces
invariant-pieces g l = record {
  within : l.len ≤ length l.bytes;
  read : g.S.Source.left l.fn.source ≡ with_front (take l.len l.bytes) (g.S.Source.left l.source);
  none : HasNoHead (take l.len l.bytes);
  quiet : g.S.Source.faults l.source ≡ g.S.Source.faults l.fn.source;
}

abbrev pub decreases-pieces : goal.decreases-pieces
decreases-pieces g l = length l.initial.bytes - l.len
