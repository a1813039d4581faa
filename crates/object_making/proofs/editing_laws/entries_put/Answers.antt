use Rattle.object_making.proofs.InOrder.{put_is}
use Rattle.object_making.proofs.editing_laws.entries_put.Goals as goal

pub returns : goal.returns
returns c = put_is
