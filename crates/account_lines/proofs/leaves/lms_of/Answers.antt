use Rattle.account_lines.proofs.Types.{lms_is}
use Rattle.account_lines.proofs.leaves.lms_of.Goals as goal

pub returns : goal.returns
returns c = lms_is c.args.number c.of_code.result c.of_code.ensures.found c.of_code.ensures.none
