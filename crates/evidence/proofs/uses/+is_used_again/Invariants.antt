use Rattle.evidence.proofs.uses.+is_used_again.Given as goal

abbrev pub decreases-is_used_again : goal.decreases-is_used_again
decreases-is_used_again l = l.signed.below
