use Rattle.account_lines.proofs.Types.{ots_is}
use Rattle.account_lines.proofs.leaves.ots_of.Goals as goal

pub returns : goal.returns
returns c = ots_is c.args.number c.of_code.result c.of_code.ensures.found c.of_code.ensures.none
