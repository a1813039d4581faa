use Rattle.policy_reading.proofs.Told.{one_readings}
use Rattle.policy_reading.proofs.file_laws.readings.Goals as goal

pub returns : goal.returns
returns c = one_readings
