use Rattle.evidence.proofs.uses.+first_reuse.Given as goal

abbrev pub decreases-first_reuse : goal.decreases-first_reuse
decreases-first_reuse l = l.left.below
