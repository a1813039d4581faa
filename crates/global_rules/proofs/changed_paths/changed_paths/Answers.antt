use Rattle.tree_paths.specs.Repositories.{readings_of}
use Rattle.tree_paths.specs.States.{walk_of}
use Rattle.global_rules.proofs.Paths.{none_changed, some_changed}
use Rattle.global_rules.proofs.changed_paths.changed_paths.Goals as goal

pub returns-in-Broken-clause-changed : goal.returns-in-Broken-clause-changed
returns-in-Broken-clause-changed g c = λ r told.
    none_changed (walk_of (readings_of r) c.args.from.now) (walk_of (readings_of r) c.args.to.now) c.in_ok-found.found c.in-Broken.id c.new.result c.in-Broken.is (c.in_ok-found.ensures.compared r told) c.new.ensures

pub returns-in-Changed-clause-changed : goal.returns-in-Changed-clause-changed
returns-in-Changed-clause-changed g c = λ r told.
    some_changed (walk_of (readings_of r) c.args.from.now) (walk_of (readings_of r) c.args.to.now) c.in_ok-found.found c.in-Changed.from c.in-Changed.to c.in-Changed.paths c.in-Changed.is (c.in_ok-found.ensures.compared r told)
