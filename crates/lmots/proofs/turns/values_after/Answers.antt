use Rattle.std.proofs.Common.{◌≡◌, ℕ, ◌-◌, List, [], slice_index, slice_index_or, ◌∙◌, arith}
use Rattle.sha256_lanes.specs.Chain.{walked}
use Rattle.lmots.specs.Chain.{steps}
use Rattle.lmots.proofs.Steps.{steps_from}
use Rattle.lmots.proofs.turns.values_after.Goals as goal

pub walk_between-requires : goal.walk_between-requires
walk_between-requires c = λ k lt.
    omega (arith, c.numbers_at-from.ensures k lt, c.requires.places.reached k lt)

pub returns : goal.returns
returns c = λ n z below on k lt.
    let i = c.args.i.now in
    let q = c.args.q in
    let chain : ℕ = slice_index c.args.lanes.now k in
    let place : ℕ = slice_index c.args.places.now k in
    let end : ℕ = slice_index c.args.chains.now.to chain in
    let head = c.heads_of-heads.ensures k lt in
    let from = c.numbers_at-from.ensures k lt in
    let value = c.values_at-values.ensures k lt in
    let at : ℕ = slice_index c.args.chains.now.at chain in
    let before : List ℕ = slice_index_or c.args.chains.now.values chain [] in
    let made : slice_index_or c.walk_between.result k [] ≡ steps i q chain at (place - at) before =
    c.walk_between.ensures k lt ∙ (λ j. walked (head j) (from j) (place - from j) (value j)) in
    (λ j. steps i q chain place (end - place) (made j))
    ∙ steps_from i q chain at place end before (c.requires.places.reached k lt) (c.requires.places.within k lt)
    ∙ on.goes chain (below k lt)
