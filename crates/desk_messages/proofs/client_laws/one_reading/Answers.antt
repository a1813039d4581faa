use Rattle.desk_messages.proofs.Uniqueness.{one_reading}
use Rattle.desk_messages.proofs.client_laws.one_reading.Goals as goal

pub returns : goal.returns
returns c = one_reading
