use Rattle.std.proofs.Common.{◌≡◌, false, take}
use Rattle.text_reader.specs.Line.{has_byte}
use Rattle.text_reader.proofs.front.split_at_byte.Given as goal

abbrev pub invariant-bytes : goal.invariant-bytes
invariant-bytes l = has_byte l.end (take l.i l.text) ≡ false
