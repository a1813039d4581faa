use Rattle.std.proofs.Common.{Option, Some, None, List, ℕ}
use Rattle.tree_paths.specs.Pairings.{IsPaired}
use Rattle.tree_paths.specs.Roots.{no_pair_counts, root_steps}
use Rattle.tree_paths.proofs.Turns.{both_are}
use Rattle.tree_paths.proofs.roots.pair_roots.Goals as goal

pub returns-in_ok-paired-in-Some-to-clause-steps : goal.returns-in_ok-paired-in-Some-to-clause-steps
returns-in_ok-paired-in-Some-to-clause-steps g c = λ readings told.
    both_are (λ (a b : Option (List ℕ)). IsPaired readings.trees (root_steps readings.trees a) (root_steps readings.trees b) no_pair_counts c.in_ok-paired-in-Some-to.paired)
    c.args.from.now c.args.to.now (Some c.in-Some.first) (Some c.in-Some-to.second) c.in-Some.is c.in-Some-to.is (c.in_ok-paired-in-Some-to.ensures.steps readings told)

pub returns-in_ok-paired-in-None-to-clause-steps : goal.returns-in_ok-paired-in-None-to-clause-steps
returns-in_ok-paired-in-None-to-clause-steps g c = λ readings told.
    both_are (λ (a b : Option (List ℕ)). IsPaired readings.trees (root_steps readings.trees a) (root_steps readings.trees b) no_pair_counts c.in_ok-paired-in-None-to.paired)
    c.args.from.now c.args.to.now (Some c.in-Some.first) None c.in-Some.is c.in-None-to.is (c.in_ok-paired-in-None-to.ensures.steps readings told)

pub returns-in_ok-paired-in-Some-to-2-clause-steps : goal.returns-in_ok-paired-in-Some-to-2-clause-steps
returns-in_ok-paired-in-Some-to-2-clause-steps g c = λ readings told.
    both_are (λ (a b : Option (List ℕ)). IsPaired readings.trees (root_steps readings.trees a) (root_steps readings.trees b) no_pair_counts c.in_ok-paired-in-Some-to-2.paired)
    c.args.from.now c.args.to.now None (Some c.in-Some-to-2.second) c.in-None.is c.in-Some-to-2.is (c.in_ok-paired-in-Some-to-2.ensures.steps readings told)
