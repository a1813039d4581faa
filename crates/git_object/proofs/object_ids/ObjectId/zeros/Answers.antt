use Rattle.git_object.proofs.IdLemmas.{IsId-zeros}
use Rattle.git_object.proofs.object_ids.ObjectId.zeros.Goals as goal

pub invariant_of-result : goal.invariant_of-result
invariant_of-result c = IsId-zeros
