use Rattle.std.proofs.Common.{◌≡◌, false, take}
use Rattle.text_reader.specs.Line.{has_byte}
use Rattle.tree_paths.proofs.lookups.split_at_slash.Given as goal

abbrev pub invariant-bytes : goal.invariant-bytes
invariant-bytes l = has_byte 47 (take l.i l.text) ≡ false
