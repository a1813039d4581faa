use Rattle.std.proofs.Common.{sym, ap, subst, refl, [], List, ℕ, ◌+◌, ◌≤◌}
use Rattle.std.proofs.lemmas.Slice.Eq.{bytes_eq-Decides}
use Rattle.tree_paths.specs.Pairings.{IsPaired, Sides}
use Rattle.tree_paths.specs.Walks.{Step, steps}
use Rattle.tree_paths.proofs.SideBySide.{both_by, both_is}
use Rattle.tree_paths.proofs.Turns.{paired_at, sides_both}
use Rattle.tree_paths.proofs.roots.pair_both.Goals as goal

pub returns-then-same_id-clause-sides : goal.returns-then-same_id-clause-sides
returns-then-same_id-clause-sides g c =
    both_by _ c.in_ok-paired.paired (λ d is. λ readings told.
    let here = steps readings.trees 32 [] c.args.from.now in
    let spent : g.R.Keeper.reads c.pass_tree.new.keeper + c.no_pair_counts.result.from.dirs ≤ g.R.Keeper.reads c.args.keeper.now + d.from.dirs = both_is _ c.in_ok-paired.paired d c.in_ok-paired.ensures.spent is in
    let counted = subst (IsPaired readings.trees here here c.no_pair_counts.result) is (c.in_ok-paired.ensures.steps readings [] told refl) in
    paired_at (λ (xs ys : List Step). Sides xs ys c.args.paths.now c.args.paths.now (g.R.Keeper.reads c.args.keeper.now) (g.R.Keeper.reads c.pass_tree.new.keeper)) here (steps readings.trees 32 [] c.args.to.now) here here
    refl (ap (λ (id : List ℕ). steps readings.trees 32 [] id) (sym ((bytes_eq-Decides c.args.from.now c.args.to.now).0 (sym c.if-same_id.ensures))))
    (sides_both readings.trees here c.no_pair_counts.result.from d.from c.args.paths.now c.args.paths.now (g.R.Keeper.reads c.args.keeper.now) (g.R.Keeper.reads c.pass_tree.new.keeper) counted.0 refl spent))
