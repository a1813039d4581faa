use Rattle.std.proofs.Common.{◌≡◌, ◌≤◌, ◌+◌, ◌-◌, length, take}
use Rattle.octets.specs.Content.{with_front}
use Rattle.buffered_reader.specs.Ahead.{ahead, past}
use Rattle.buffered_reader.proofs.reader.BufferedReader.fill.Given as goal

abbrev pub invariant-pieces : goal.invariant-pieces
invariant-pieces g l = record {
  past : past l.self (g.S.Source.left l.source) ≡ past l.fn.self (g.S.Source.left l.fn.source);
  within : l.at ≤ length l.out;
  len : length l.out ≡ length l.fn.out;
  bytes : ahead l.fn.self (g.S.Source.left l.fn.source) ≡ with_front (take l.at l.out) (ahead l.self (g.S.Source.left l.source));
  taken : l.self.taken ≡ l.fn.self.taken + l.at;
  limit : l.self.limit ≡ l.fn.self.limit;
  quiet : g.S.Source.faults l.source ≡ g.S.Source.faults l.fn.source;
}

abbrev pub decreases-pieces : goal.decreases-pieces
decreases-pieces g l = length l.out - l.at
