use Rattle.std.proofs.Common.{◌≡◌, ◌≤◌, ◌-◌, length, take}
use Rattle.octets.specs.Content.{with_front}
use Rattle.desk_messages.proofs.receiving.receive.Given as goal

abbrev pub invariant-pieces : goal.invariant-pieces
invariant-pieces g l = record {
  within : l.len ≤ length l.out;
  room : length l.out ≡ length l.fn.out;
  read : g.P.Peer.left l.fn.peer ≡ with_front (take l.len l.out) (g.P.Peer.left l.peer);
  unwritten : g.P.Peer.given l.peer ≡ g.P.Peer.given l.fn.peer;
  port : g.P.Peer.connected l.peer ≡ g.P.Peer.connected l.fn.peer;
  quiet : g.P.Peer.faults l.peer ≡ g.P.Peer.faults l.fn.peer;
}

abbrev pub decreases-pieces : goal.decreases-pieces
decreases-pieces g l = length l.initial.out - l.len
