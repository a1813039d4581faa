use Rattle.policy_reading.proofs.FilesInOrder.{files_in_order}
use Rattle.policy_reading.proofs.file_laws.order.Goals as goal

pub returns : goal.returns
returns c = files_in_order
