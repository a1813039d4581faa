use Rattle.std.proofs.Common.{◌≡◌, ◌++◌, ◌∙◌, ap, subst, arith}
use Rattle.std.specs.Int.{w16, w32, to_be_bytes}
use Rattle.sha2.specs.Sha256.{sha256}
use Rattle.sha2.specs.Hashers.{Holds256}
use Rattle.lmots.specs.OtsType.{chain_count}
use Rattle.lmots.specs.Chain.{joined}
use Rattle.lmots.proofs.Rows.{joined_none, joined_more}
use Rattle.lmots.proofs.one_time.key_of_ends.Goals as goal

pub chains-init : goal.chains-init
chains-init c = λ z on. subst (Holds256 c.key_hasher-hasher.result) (joined_none _ z) c.key_hasher-hasher.ensures

pub chains-preserved : goal.chains-preserved
chains-preserved c = λ z on.
    let end = c.end_of.ensures (chain_count c.args.kind) z (omega arith) on in
    subst (Holds256 c.update.new.self) (joined_more (c.args.i.now ++ to_be_bytes w32 c.args.q ++ to_be_bytes w16 0x8080) z c.chains.chain _ end)
    (c.update.ensures _ (c.chains.invariant z on))

pub returns : goal.returns
returns c = λ z on.
    let count : c.chains.chain ≡ chain_count c.args.kind = omega arith in
    c.finalize.ensures _ (c.chains.invariant z on)
    ∙ ap (λ n. sha256 (c.args.i.now ++ to_be_bytes w32 c.args.q ++ to_be_bytes w16 0x8080 ++ joined z n)) count
