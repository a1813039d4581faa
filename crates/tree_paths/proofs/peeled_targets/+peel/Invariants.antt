use Rattle.tree_paths.proofs.peeled_targets.+peel.Given as goal

abbrev pub decreases-peel : goal.decreases-peel
decreases-peel g l = l.left
