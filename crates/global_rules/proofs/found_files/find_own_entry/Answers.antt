use Rattle.std.proofs.lemmas.Result.{IfOk-weaker}
use Rattle.tree_paths.specs.Repositories.{readings_of}
use Rattle.policy_reading.proofs.Told.{told_readings}
use Rattle.global_rules.proofs.found_files.find_own_entry.Goals as goal

pub returns-clause-found : goal.returns-clause-found
returns-clause-found g c = IfOk-weaker c.find_entry.result _ _ (λ found is r told. is (readings_of r) (told_readings r _ told)) c.find_entry.ensures.found
