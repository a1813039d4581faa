use Rattle.std.proofs.Common.{ℕ, List, ◌++◌}
use Rattle.std.specs.Int.{w16, w32, to_be_bytes}
use Rattle.sha2.specs.Hashers.{Holds256}
use Rattle.lmots.specs.OtsType.{chain_count}
use Rattle.lmots.specs.Chain.{joined}
use Rattle.lmots.specs.OnWay.{AreOnWay}
use Rattle.lmots.proofs.one_time.key_of_ends.Given as goal

abbrev pub invariant-chains : goal.invariant-chains
invariant-chains l = (z : ℕ → List ℕ) → AreOnWay l.i l.q (chain_count l.fn.kind) z l.chains.at l.chains.to l.chains.values
    → Holds256 l.hasher (l.i ++ to_be_bytes w32 l.q ++ to_be_bytes w16 0x8080 ++ joined z l.chain)
