use Rattle.would_be.proofs.Recording.{as_recorded}
use Rattle.would_be.proofs.laws.as_recorded.Goals as goal

pub returns : goal.returns
returns c = as_recorded
