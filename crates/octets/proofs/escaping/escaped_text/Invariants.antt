use Rattle.std.proofs.Common.{◌≡◌, take}
use Rattle.octets.specs.Escaped.{escaped}
use Rattle.octets.proofs.escaping.escaped_text.Given as goal

abbrev pub invariant-loop-byte : goal.invariant-loop-byte
invariant-loop-byte l = l.text ≡ escaped (take l.byte-index l.bytes)
