use Rattle.desk_messages.proofs.Uniqueness.{one_request}
use Rattle.desk_messages.proofs.client_laws.one_request.Goals as goal

pub returns : goal.returns
returns c = one_request
