use Rattle.std.proofs.Common.{◌≡◌, ◌≤◌, ◌+◌, ◌-◌, length, false}
use Rattle.octets.specs.Content.{with_front}
use Rattle.text_reader.specs.Line.{has_byte}
use Rattle.buffered_reader.specs.Ahead.{ahead, past}
use Rattle.buffered_reader.proofs.reader.BufferedReader.line.Given as goal

abbrev pub invariant-bytes : goal.invariant-bytes
invariant-bytes g l = record {
  past : past l.self (g.S.Source.left l.source) ≡ past l.fn.self (g.S.Source.left l.fn.source);
  short : length l.line ≤ 399;
  one : has_byte 10 l.line ≡ false;
  bytes : ahead l.fn.self (g.S.Source.left l.fn.source) ≡ with_front l.line (ahead l.self (g.S.Source.left l.source));
  taken : l.self.taken ≡ l.fn.self.taken + length l.line;
  limit : l.self.limit ≡ l.fn.self.limit;
  quiet : g.S.Source.faults l.source ≡ g.S.Source.faults l.fn.source;
}

abbrev pub decreases-bytes : goal.decreases-bytes
decreases-bytes g l = 399 - length l.line
