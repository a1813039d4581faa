use Rattle.lms_keys.proofs.OnBytes as proved
use Rattle.lms_keys.proofs.laws.by_one_key.Goals as goal

pub returns : goal.returns
returns c = proved.by_one_key
