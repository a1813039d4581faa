use Rattle.std.proofs.Common.{ap, sym, ◌∙◌}
use Rattle.tree_paths.specs.Walks.{opened}
use Rattle.tree_paths.proofs.opened_trees.open_known.Goals as goal

pub returns-in-Some-clause-read : goal.returns-in-Some-clause-read
returns-in-Some-clause-read g c = λ readings told.
    c.open_lent.ensures.read ∙ ap (opened c.args.left c.args.is_root) (sym (c.in-Some.ensures readings.trees (c.requires.known told.repository told.told readings told.are)))
