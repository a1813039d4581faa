-- The trees of two targets, of which each may have none.
use Rattle.std.specs.Prelude.{[], ℕ, List, Option, Some, None}
use Rattle.git_object.specs.Ids.{zeros}
use Rattle.tree_paths.specs.Readings.{Trees}
use Rattle.tree_paths.specs.States.{Ended, Gone, ended_by}
use Rattle.tree_paths.specs.Walks.{Step, judge, no_counts, steps}
use Rattle.tree_paths.specs.declared.paired_counts.PairCounts.{PairCounts}

abbrev pub no_pair_counts : PairCounts
no_pair_counts = record { from = no_counts; to = no_counts }

abbrev pub root_steps : Trees → Option (List ℕ) → List Step
root_steps trees None = []
root_steps trees (Some tree) = steps trees 32 [] tree

-- how the walk of a target ends that has this tree, or none
abbrev pub root_ended : Trees → Option (List ℕ) → Ended
root_ended trees None = Gone
root_ended trees (Some tree) = ended_by tree (steps trees 32 [] tree) (judge trees (steps trees 32 [] tree) no_counts)

abbrev pub root_id : Option (List ℕ) → List ℕ
root_id None = zeros
root_id (Some tree) = tree
