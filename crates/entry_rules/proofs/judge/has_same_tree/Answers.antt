use Rattle.std.proofs.Common.{◌∙◌}
use Rattle.tree_paths.specs.Repositories.{readings_of}
use Rattle.tree_paths.specs.States.{walk_of}
use Rattle.entry_rules.proofs.Comparing.{one_tree}
use Rattle.entry_rules.proofs.judge.has_same_tree.Goals as goal

pub returns-clause-answer : goal.returns-clause-answer
returns-clause-answer g c = λ r told.
    c.has_one_tree.ensures ∙ one_tree (walk_of (readings_of r) c.args.from.now) (walk_of (readings_of r) c.args.to.now) c.in_ok-comparison.comparison (c.in_ok-comparison.ensures.compared r told)
