use Rattle.std.proofs.Common.{◌≡◌, ◌+◌, ◌*◌, ◌++◌, take}
use Rattle.std.specs.Int.{w32, to_be_bytes}
use Rattle.lmots.specs.OtsType.{code}
use Rattle.lmots.specs.Chain.{joined, randomizer}
use Rattle.lmots.specs.OneTime.{shown, message_digest}
use Rattle.lmots.proofs.one_time.sign_ots.Given as goal

abbrev pub invariant-chains : goal.invariant-chains
invariant-chains l = take (36 + 32 * l.chain) l.out ≡ to_be_bytes w32 (code l.fn.kind) ++ randomizer l.i l.q l.seed
    ++ joined (shown l.fn.kind l.i l.q l.seed (message_digest l.i l.q (randomizer l.i l.q l.seed) l.fn.message)) l.chain
