use Rattle.std.proofs.Common.{subst, List, ℕ, inl}
use Rattle.tree_paths.specs.Changes.{IsChange}
use Rattle.tree_paths.specs.Pairings.{IsPaired, Sides}
use Rattle.tree_paths.specs.Roots.{no_pair_counts, root_ended, root_id, root_steps}
use Rattle.tree_paths.proofs.Ending.{both_compared, root_faulty}
use Rattle.tree_paths.proofs.ObjectsRead.{kept_told}
use Rattle.tree_paths.proofs.SideBySide.{both_is}
use Rattle.tree_paths.proofs.Turns.{both_are}
use Rattle.tree_paths.proofs.comparison.compare_roots.Goals as goal

pub returns-in-FromBroken-clause-compared : goal.returns-in-FromBroken-clause-compared
returns-in-FromBroken-clause-compared g c = λ readings told.
    inl (root_faulty readings.trees c.args.from.now c.in-FromBroken.id
    (subst (IsPaired readings.trees (root_steps readings.trees c.args.from.now) (root_steps readings.trees c.args.to.now) no_pair_counts) c.in-FromBroken.is (c.in_ok-paired.ensures.steps readings told)))

pub returns-in_ok-comparison-in-ToBroken-clause-compared : goal.returns-in_ok-comparison-in-ToBroken-clause-compared
returns-in_ok-comparison-in-ToBroken-clause-compared g c = λ readings told.
    c.in_ok-comparison-in-ToBroken.ensures.compared readings (root_ended readings.trees c.args.to.now) told
    (root_faulty readings.trees c.args.to.now c.in-ToBroken.id
    (subst (IsPaired readings.trees (root_steps readings.trees c.args.from.now) (root_steps readings.trees c.args.to.now) no_pair_counts) c.in-ToBroken.is
    (c.in_ok-paired.ensures.steps readings (kept_told readings c.in_ok-comparison-in-ToBroken.ensures.same.content told))))

pub returns-in-BothCounted-clause-compared : goal.returns-in-BothCounted-clause-compared
returns-in-BothCounted-clause-compared g c = λ readings told.
    let sides = both_is _ c.in_ok-paired.paired c.in-BothCounted.field-0 c.in_ok-paired.ensures.sides c.in-BothCounted.is readings told in
    let counted = subst (IsPaired readings.trees (root_steps readings.trees c.args.from.now) (root_steps readings.trees c.args.to.now) no_pair_counts) c.in-BothCounted.is (c.in_ok-paired.ensures.steps readings told) in
    let all = both_compared readings told c.args.from.now c.args.to.now c.in-BothCounted.field-0 c.pair_roots.new.paths (g.R.Keeper.reads c.args.keeper.now) (g.R.Keeper.reads c.pair_roots.new.keeper) counted
    (subst (λ (ps : List (List ℕ)). Sides (root_steps readings.trees c.args.from.now) (root_steps readings.trees c.args.to.now) ps c.pair_roots.new.paths (g.R.Keeper.reads c.args.keeper.now) (g.R.Keeper.reads c.pair_roots.new.keeper)) c.new-paths.ensures sides) in
    both_are (λ (a b : List ℕ). IsChange (root_ended readings.trees c.args.from.now) (root_ended readings.trees c.args.to.now) a b c.pair_roots.new.paths)
    c.root_id.result c.root_id-in-BothCounted.result (root_id c.args.from.now) (root_id c.args.to.now) c.root_id.ensures c.root_id-in-BothCounted.ensures all.change

pub returns-in-BothCounted-clause-reads : goal.returns-in-BothCounted-clause-reads
returns-in-BothCounted-clause-reads g c = λ readings told.
    let sides = both_is _ c.in_ok-paired.paired c.in-BothCounted.field-0 c.in_ok-paired.ensures.sides c.in-BothCounted.is readings told in
    let counted = subst (IsPaired readings.trees (root_steps readings.trees c.args.from.now) (root_steps readings.trees c.args.to.now) no_pair_counts) c.in-BothCounted.is (c.in_ok-paired.ensures.steps readings told) in
    let all = both_compared readings told c.args.from.now c.args.to.now c.in-BothCounted.field-0 c.pair_roots.new.paths (g.R.Keeper.reads c.args.keeper.now) (g.R.Keeper.reads c.pair_roots.new.keeper) counted
    (subst (λ (ps : List (List ℕ)). Sides (root_steps readings.trees c.args.from.now) (root_steps readings.trees c.args.to.now) ps c.pair_roots.new.paths (g.R.Keeper.reads c.args.keeper.now) (g.R.Keeper.reads c.pair_roots.new.keeper)) c.new-paths.ensures sides) in
    all.spent
