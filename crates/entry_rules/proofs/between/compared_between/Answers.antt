use Rattle.std.proofs.lemmas.Result.{IfOk-weaker}
use Rattle.policy_reading.proofs.Told.{told_readings}
use Rattle.tree_paths.specs.Repositories.{readings_of}
use Rattle.tree_paths.specs.Roots.{root_ended}
use Rattle.entry_rules.proofs.Comparing.{by_both, whole_changed}
use Rattle.entry_rules.proofs.between.compared_between.Goals as goal

pub returns-clause-compared : goal.returns-clause-compared
returns-clause-compared g c = IfOk-weaker c.compare_roots.result _ _ (λ found is r told. is (readings_of r) (told_readings r _ told)) c.compare_roots.ensures.compared

pub returns-clause-reads : goal.returns-clause-reads
returns-clause-reads g c = by_both _ _ _ c.compare_roots.result c.compare_roots.ensures.compared c.compare_roots.ensures.reads (λ found is reads r told whole.
    let readings = readings_of r in
    let tells = told_readings r _ told in
    whole_changed (root_ended readings.trees c.args.roots.now.from) (root_ended readings.trees c.args.roots.now.to) found _ (is readings tells) whole.from_whole whole.to_whole (reads readings tells))
