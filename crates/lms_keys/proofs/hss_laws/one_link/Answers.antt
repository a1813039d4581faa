use Rattle.lms_keys.proofs.Both.{one_link}
use Rattle.lms_keys.proofs.hss_laws.one_link.Goals as goal

pub returns : goal.returns
returns c = one_link
