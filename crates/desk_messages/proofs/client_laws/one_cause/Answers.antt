use Rattle.desk_messages.proofs.Uniqueness.{one_cause}
use Rattle.desk_messages.proofs.client_laws.one_cause.Goals as goal

pub returns : goal.returns
returns c = one_cause
