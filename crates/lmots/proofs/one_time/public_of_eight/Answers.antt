use Rattle.std.proofs.Common.{◌≡◌, ℕ, ◌+◌, [], ◌∷◌, slice_index_or, ◌∙◌, ap, arith, add-zero, sym, lit<}
use Rattle.lmots.specs.OtsType.{chain_count}
use Rattle.lmots.specs.OneTime.{ended, public_key}
use Rattle.lmots.proofs.Hashing.{held_none, held_more, held_all}
use Rattle.lmots.proofs.Lanes.{eight_cases}
use Rattle.lmots.proofs.one_time.public_of_eight.Goals as goal

pub chains-init : goal.chains-init
chains-init c = record {
  first = held_none c.args.kind c.args.i.now c.args.q c.args.seed.now c.key_hasher-hasher0.result c.key_hasher-hasher0.ensures;
  second = held_none c.args.kind c.args.i.now (c.args.q + 1) c.args.seed.now c.key_hasher-hasher1.result c.key_hasher-hasher1.ensures;
  third = held_none c.args.kind c.args.i.now (c.args.q + 2) c.args.seed.now c.key_hasher-hasher2.result c.key_hasher-hasher2.ensures;
  fourth = held_none c.args.kind c.args.i.now (c.args.q + 3) c.args.seed.now c.key_hasher-hasher3.result c.key_hasher-hasher3.ensures;
  fifth = held_none c.args.kind c.args.i.now (c.args.q + 4) c.args.seed.now c.key_hasher-hasher4.result c.key_hasher-hasher4.ensures;
  sixth = held_none c.args.kind c.args.i.now (c.args.q + 5) c.args.seed.now c.key_hasher-hasher5.result c.key_hasher-hasher5.ensures;
  seventh = held_none c.args.kind c.args.i.now (c.args.q + 6) c.args.seed.now c.key_hasher-hasher6.result c.key_hasher-hasher6.ensures;
  eighth = held_none c.args.kind c.args.i.now (c.args.q + 7) c.args.seed.now c.key_hasher-hasher7.result c.key_hasher-hasher7.ensures;
}

pub chains-preserved : goal.chains-preserved
chains-preserved c =
    let ends = c.ends_of_leaves-ends.ensures in
    let zero = add-zero c.args.q in
    record {
      first = held_more c.args.kind c.args.i.now c.args.q c.args.seed.now c.chains.chain c.chains.hasher0 c.update.new.self _ c.chains.invariant.first (ends.at 0 (lit< tt) ∙ ap (λ (q : ℕ). ended c.args.kind c.args.i.now q c.args.seed.now c.chains.chain) zero) c.update.ensures;
      second = held_more c.args.kind c.args.i.now (c.args.q + 1) c.args.seed.now c.chains.chain c.chains.hasher1 c.update-in-chains.new.self _ c.chains.invariant.second (ends.at 1 (lit< tt)) c.update-in-chains.ensures;
      third = held_more c.args.kind c.args.i.now (c.args.q + 2) c.args.seed.now c.chains.chain c.chains.hasher2 c.update-in-chains-2.new.self _ c.chains.invariant.third (ends.at 2 (lit< tt)) c.update-in-chains-2.ensures;
      fourth = held_more c.args.kind c.args.i.now (c.args.q + 3) c.args.seed.now c.chains.chain c.chains.hasher3 c.update-in-chains-3.new.self _ c.chains.invariant.fourth (ends.at 3 (lit< tt)) c.update-in-chains-3.ensures;
      fifth = held_more c.args.kind c.args.i.now (c.args.q + 4) c.args.seed.now c.chains.chain c.chains.hasher4 c.update-in-chains-4.new.self _ c.chains.invariant.fifth (ends.at 4 (lit< tt)) c.update-in-chains-4.ensures;
      sixth = held_more c.args.kind c.args.i.now (c.args.q + 5) c.args.seed.now c.chains.chain c.chains.hasher5 c.update-in-chains-5.new.self _ c.chains.invariant.sixth (ends.at 5 (lit< tt)) c.update-in-chains-5.ensures;
      seventh = held_more c.args.kind c.args.i.now (c.args.q + 6) c.args.seed.now c.chains.chain c.chains.hasher6 c.update-in-chains-6.new.self _ c.chains.invariant.seventh (ends.at 6 (lit< tt)) c.update-in-chains-6.ensures;
      eighth = held_more c.args.kind c.args.i.now (c.args.q + 7) c.args.seed.now c.chains.chain c.chains.hasher7 c.update-in-chains-7.new.self _ c.chains.invariant.eighth (ends.at 7 (lit< tt)) c.update-in-chains-7.ensures;
    }

pub returns : goal.returns
returns c =
    let count : c.chains.chain ≡ chain_count c.args.kind = omega arith in
    let zero = sym (add-zero c.args.q) in
    eight_cases
    (λ (k : ℕ). slice_index_or (c.finalize.result ∷ c.finalize-2.result ∷ c.finalize-3.result ∷ c.finalize-4.result ∷ c.finalize-5.result ∷ c.finalize-6.result ∷ c.finalize-7.result ∷ c.finalize-8.result ∷ []) k [] ≡ public_key c.args.kind c.args.i.now (c.args.q + k) c.args.seed.now)
    (held_all c.args.kind c.args.i.now c.args.q c.args.seed.now c.chains.chain c.chains.hasher0 c.finalize.result count c.chains.invariant.first c.finalize.ensures ∙ ap (λ (q : ℕ). public_key c.args.kind c.args.i.now q c.args.seed.now) zero)
    (held_all c.args.kind c.args.i.now (c.args.q + 1) c.args.seed.now c.chains.chain c.chains.hasher1 c.finalize-2.result count c.chains.invariant.second c.finalize-2.ensures)
    (held_all c.args.kind c.args.i.now (c.args.q + 2) c.args.seed.now c.chains.chain c.chains.hasher2 c.finalize-3.result count c.chains.invariant.third c.finalize-3.ensures)
    (held_all c.args.kind c.args.i.now (c.args.q + 3) c.args.seed.now c.chains.chain c.chains.hasher3 c.finalize-4.result count c.chains.invariant.fourth c.finalize-4.ensures)
    (held_all c.args.kind c.args.i.now (c.args.q + 4) c.args.seed.now c.chains.chain c.chains.hasher4 c.finalize-5.result count c.chains.invariant.fifth c.finalize-5.ensures)
    (held_all c.args.kind c.args.i.now (c.args.q + 5) c.args.seed.now c.chains.chain c.chains.hasher5 c.finalize-6.result count c.chains.invariant.sixth c.finalize-6.ensures)
    (held_all c.args.kind c.args.i.now (c.args.q + 6) c.args.seed.now c.chains.chain c.chains.hasher6 c.finalize-7.result count c.chains.invariant.seventh c.finalize-7.ensures)
    (held_all c.args.kind c.args.i.now (c.args.q + 7) c.args.seed.now c.chains.chain c.chains.hasher7 c.finalize-8.result count c.chains.invariant.eighth c.finalize-8.ensures)
