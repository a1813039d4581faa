use Rattle.std.proofs.Common.{◌≡◌, ◌<◌, [], length, map, slice_index_or, ◌∙◌, arith}
use Rattle.object_lanes.specs.Groups.{unnamed_id}
use Rattle.object_lanes.proofs.Grouped.{in_eight, lane_id}
use Rattle.object_lanes.proofs.lanes.by_lanes.Goals as goal

pub returns-clause-each : goal.returns-clause-each
returns-clause-each c = in_eight (λ i. i < length c.args.group.now → slice_index_or c.named.result i [] ≡ slice_index_or (map unnamed_id c.args.group.now) i [])
    (λ lt. c.named.ensures.each 0 (omega arith) ∙ lane_id c.args.group.now 0 c.as_slice.result.now c.body_at.result.now (slice_index_or c.digest_eight.result 0 []) lt
    (c.as_slice.ensures ∙ c.head_at.ensures.text lt) (c.body_at.ensures lt) (c.digest_eight.ensures 0 (omega arith)))
    (λ lt. c.named.ensures.each 1 (omega arith) ∙ lane_id c.args.group.now 1 c.as_slice-2.result.now c.body_at-2.result.now (slice_index_or c.digest_eight.result 1 []) lt
    (c.as_slice-2.ensures ∙ c.head_at-2.ensures.text lt) (c.body_at-2.ensures lt) (c.digest_eight.ensures 1 (omega arith)))
    (λ lt. c.named.ensures.each 2 (omega arith) ∙ lane_id c.args.group.now 2 c.as_slice-3.result.now c.body_at-3.result.now (slice_index_or c.digest_eight.result 2 []) lt
    (c.as_slice-3.ensures ∙ c.head_at-3.ensures.text lt) (c.body_at-3.ensures lt) (c.digest_eight.ensures 2 (omega arith)))
    (λ lt. c.named.ensures.each 3 (omega arith) ∙ lane_id c.args.group.now 3 c.as_slice-4.result.now c.body_at-4.result.now (slice_index_or c.digest_eight.result 3 []) lt
    (c.as_slice-4.ensures ∙ c.head_at-4.ensures.text lt) (c.body_at-4.ensures lt) (c.digest_eight.ensures 3 (omega arith)))
    (λ lt. c.named.ensures.each 4 (omega arith) ∙ lane_id c.args.group.now 4 c.as_slice-5.result.now c.body_at-5.result.now (slice_index_or c.digest_eight.result 4 []) lt
    (c.as_slice-5.ensures ∙ c.head_at-5.ensures.text lt) (c.body_at-5.ensures lt) (c.digest_eight.ensures 4 (omega arith)))
    (λ lt. c.named.ensures.each 5 (omega arith) ∙ lane_id c.args.group.now 5 c.as_slice-6.result.now c.body_at-6.result.now (slice_index_or c.digest_eight.result 5 []) lt
    (c.as_slice-6.ensures ∙ c.head_at-6.ensures.text lt) (c.body_at-6.ensures lt) (c.digest_eight.ensures 5 (omega arith)))
    (λ lt. c.named.ensures.each 6 (omega arith) ∙ lane_id c.args.group.now 6 c.as_slice-7.result.now c.body_at-7.result.now (slice_index_or c.digest_eight.result 6 []) lt
    (c.as_slice-7.ensures ∙ c.head_at-7.ensures.text lt) (c.body_at-7.ensures lt) (c.digest_eight.ensures 6 (omega arith)))
    (λ lt. c.named.ensures.each 7 (omega arith) ∙ lane_id c.args.group.now 7 c.as_slice-8.result.now c.body_at-8.result.now (slice_index_or c.digest_eight.result 7 []) lt
    (c.as_slice-8.ensures ∙ c.head_at-8.ensures.text lt) (c.body_at-8.ensures lt) (c.digest_eight.ensures 7 (omega arith)))
