use Rattle.std.proofs.Common.{arith}
use Rattle.std.proofs.lemmas.Result.{IfOk-weaker}
use Rattle.tree_paths.specs.Repositories.{readings_of}
use Rattle.tree_paths.specs.States.{walk_of}
use Rattle.policy_reading.proofs.Told.{told_readings}
use Rattle.entry_rules.proofs.Comparing.{by_both, sound_changed}
use Rattle.entry_rules.proofs.targets.compared.Goals as goal

pub returns-clause-compared : goal.returns-clause-compared
returns-clause-compared g c = IfOk-weaker c.compare_known.result _ _ (λ c is r told. is (readings_of r) (told_readings r _ told)) c.compare_known.ensures.compared

pub returns-clause-reads : goal.returns-clause-reads
returns-clause-reads g c = by_both _ _ _ c.compare_known.result c.compare_known.ensures.compared c.compare_known.ensures.reads (λ found is reads r told sound.
    let readings = readings_of r in
    let tells = told_readings r _ told in
    omega (arith, sound_changed (walk_of readings c.args.from.now) (walk_of readings c.args.to.now) found _ (is readings tells) sound (reads readings tells)))
