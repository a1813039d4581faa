use Rattle.std.proofs.Common.{◌≡◌, ℕ, List, ◌++◌, length}
use Rattle.octets.specs.Content.{with_end}
use Rattle.desk_messages.proofs.sending.send_all.Given as goal

abbrev pub invariant-pieces : goal.invariant-pieces
invariant-pieces g l = record {
  gained : (front : List ℕ) × (l.bytes ≡ front ++ l.rest) × (g.P.Peer.given l.peer ≡ with_end (g.P.Peer.given l.fn.peer) front);
  unread : g.P.Peer.left l.peer ≡ g.P.Peer.left l.fn.peer;
  port : g.P.Peer.connected l.peer ≡ g.P.Peer.connected l.fn.peer;
  quiet : g.P.Peer.faults l.peer ≡ g.P.Peer.faults l.fn.peer;
}

abbrev pub decreases-pieces : goal.decreases-pieces
decreases-pieces g l = length l.rest
