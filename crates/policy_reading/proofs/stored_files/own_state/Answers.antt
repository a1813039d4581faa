use Rattle.std.proofs.lemmas.Result.{IfOk-weaker}
use Rattle.tree_paths.specs.Repositories.{readings_of}
use Rattle.policy_reading.proofs.Told.{told_readings}
use Rattle.policy_reading.proofs.stored_files.own_state.Goals as goal

pub returns-clause-state : goal.returns-clause-state
returns-clause-state g c = IfOk-weaker c.state_of.result _ _ (λ state is r told. is (readings_of r) (told_readings r _ told)) c.state_of.ensures.state

pub returns-clause-reads : goal.returns-clause-reads
returns-clause-reads g c = λ r told. c.state_of.ensures.visited (readings_of r) (told_readings r _ told)
