use Rattle.std.proofs.Common.{ap, sym, ◌∙◌}
use Rattle.root_metadata.specs.Judged.{or_next}
use Rattle.tree_paths.specs.Repositories.{readings_of}
use Rattle.tree_paths.specs.Roots.{root_ended}
use Rattle.entry_rules.specs.Changing.{least_unmet}
use Rattle.entry_rules.specs.Faults.{path_fault}
use Rattle.entry_rules.proofs.Leasts.{first_unmet_is}
use Rattle.entry_rules.proofs.between.known_fault.Goals as goal

pub returns : goal.returns
returns c = λ r name known met.
    let rules = c.args.rules.now in
    let signers = c.args.signers.now in
    let trees = (readings_of r).trees in
    let s = root_ended trees c.args.roots.now.from in
    let t = root_ended trees c.args.roots.now.to in
    let first = c.in-Some.ensures trees known.changes in
    c.in_ok-fault.ensures
    ∙ ap (path_fault rules signers) (first.is ∙ first_unmet_is rules signers s t first.paths first.changed)
    ∙ ap (λ o. or_next o (path_fault rules signers (least_unmet rules signers s t))) (sym met)
