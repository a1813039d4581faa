use Rattle.std.proofs.lemmas.Result.{IfOk-weaker}
use Rattle.tree_paths.specs.Repositories.{readings_of}
use Rattle.policy_reading.proofs.Told.{told_readings}
use Rattle.global_rules.proofs.changed_paths.compared.Goals as goal

pub returns-clause-compared : goal.returns-clause-compared
returns-clause-compared g c = IfOk-weaker c.compare.result _ _ (λ c is r told. is (readings_of r) (told_readings r _ told)) c.compare.ensures.compared
