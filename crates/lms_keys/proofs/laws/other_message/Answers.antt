use Rattle.lms_keys.proofs.Earlier as proved
use Rattle.lms_keys.proofs.laws.other_message.Goals as goal

pub returns : goal.returns
returns c = proved.other_message
