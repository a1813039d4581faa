use Rattle.std.proofs.lemmas.Result.{IfOk-weaker}
use Rattle.tree_paths.specs.Repositories.{readings_of}
use Rattle.policy_reading.proofs.Told.{told_readings}
use Rattle.policy_reading.proofs.stored_files.load_own_tree.Goals as goal

pub returns-clause-read : goal.returns-clause-read
returns-clause-read g c = IfOk-weaker c.load_tree.result _ _ (λ found read r told. read (readings_of r) (told_readings r _ told)) c.load_tree.ensures.read
