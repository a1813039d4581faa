use Rattle.std.proofs.Common.{◌≡◌, ◌++◌, length}
use Rattle.rsl_chain.specs.Drafts
use Rattle.rsl_chain.proofs.drafts.append_pieces.Given as goal

abbrev pub invariant-pieces : goal.invariant-pieces
invariant-pieces l = l.text ++ Drafts.joined (Drafts.cut 64 l.rest) ≡ l.fn.text ++ Drafts.joined (Drafts.cut 64 l.base64)

abbrev pub decreases-pieces : goal.decreases-pieces
decreases-pieces l = length l.rest
