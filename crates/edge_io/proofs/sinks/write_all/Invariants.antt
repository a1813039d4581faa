use Rattle.std.proofs.Common.{◌≡◌, ℕ, List, ◌++◌, length}
use Rattle.octets.specs.Content.{with_end}
use Rattle.edge_io.proofs.sinks.write_all.Given as goal

abbrev pub invariant-pieces : goal.invariant-pieces
invariant-pieces g l = record {
  gained : (front : List ℕ) × (l.bytes ≡ front ++ l.rest) × (g.K.Sink.contents l.sink ≡ with_end (g.K.Sink.contents l.fn.sink) front);
  quiet : g.K.Sink.faults l.sink ≡ g.K.Sink.faults l.fn.sink;
}

abbrev pub decreases-pieces : goal.decreases-pieces
decreases-pieces g l = length l.rest
