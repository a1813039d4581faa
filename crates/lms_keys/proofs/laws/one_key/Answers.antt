use Rattle.lms_keys.proofs.SameKey as same
use Rattle.lms_keys.proofs.laws.one_key.Goals as goal

pub returns : goal.returns
returns c = same.one_key
