use Rattle.std.proofs.Common.{◌≡◌, ◌≢◌, ℕ, ◌+◌, ◌<◌, ◌≤◌, inl, inr, [], map, slice_index_or, ◌∙◌, arith}
use Rattle.std.proofs.lemmas.Bool.{cases_lt}
use Rattle.sha2.specs.Sha256.{hash_after, initial_hash_256, padded_message}
use Rattle.sha256_lanes.specs.Lanes.{lane}
use Rattle.sha256_lanes.specs.Texts.{blocks_of, joined}
use Rattle.sha256_lanes.proofs.Joined.{finished, next_block, some_block, started}
use Rattle.sha256_lanes.proofs.eights.digest_eight.Goals as goal

pub steps-init : goal.steps-init
steps-init c = record {
  long = c.initial-state.ensures.long;
  going = λ i lt le. c.initial-state.ensures.at i lt ∙ started (padded_message (joined (map (λ text. text.now) c.args.heads.now) (map (λ text. text.now) c.args.bodies.now) i));
  done = λ i lt le. absurd (omega (arith, le, some_block (joined (map (λ text. text.now) c.args.heads.now) (map (λ text. text.now) c.args.bodies.now) i)));
}

pub steps-preserved : goal.steps-preserved
steps-preserved c =
    let text = λ (i : ℕ). joined (map (λ text. text.now) c.args.heads.now) (map (λ text. text.now) c.args.bodies.now) i in
    let k = c.steps.k in
    let made = c.absorbed-next.ensures c.steps.invariant.long in
    let going : (i : ℕ) → i < 8 → k + 1 ≤ blocks_of (text i) → lane c.absorbed-next.result i ≡ hash_after initial_hash_256 (padded_message (text i)) (k + 1) = λ i lt le.
    next_block (text i) (lane c.steps.state i) (slice_index_or c.blocks_at-blocks.result i []) (lane c.absorbed-next.result i) k
    (c.steps.invariant.going i lt (omega (arith, le))) (c.blocks_at-blocks.ensures i lt (omega (arith, le))) (made.at i lt) in
    record {
      long = made.long;
      going = going;
      done = λ i lt le. elim (cases_lt k (blocks_of (text i))) [
        | inl more ↦
            let last : blocks_of (text i) ≡ k + 1 = omega (arith, le, more) in
            finished (text i) (lane c.absorbed-next.result i) (slice_index_or c.digests_at-after.result i []) (k + 1) last
            (going i lt (omega (arith, more))) (c.digests_at-after.ensures.ends i lt last)
        | inr none ↦
            let other : blocks_of (text i) ≢ k + 1 = omega (arith, none) in
            c.digests_at-after.ensures.stays i lt other ∙ c.steps.invariant.done i lt none
      ];
    }

pub returns : goal.returns
returns c = λ i lt. c.steps.invariant.done i lt (omega (arith, c.most_blocks-most.ensures i lt))
