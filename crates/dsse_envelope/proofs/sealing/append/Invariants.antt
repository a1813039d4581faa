use Rattle.std.proofs.Common.{◌≡◌, ◌++◌, take}
use Rattle.dsse_envelope.proofs.sealing.append.Given as goal

abbrev pub invariant-more : goal.invariant-more
invariant-more l = l.signatures ≡ l.fn.signatures ++ take l.signature-index l.more
