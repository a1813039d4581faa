use Rattle.clone_stream.proofs.OneExports.{one_export}
use Rattle.clone_stream.proofs.laws.one_export.Goals as goal

pub returns : goal.returns
returns c = one_export
