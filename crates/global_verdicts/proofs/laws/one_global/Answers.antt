use Rattle.global_verdicts.proofs.OneGlobal.{global_or_break, one_global}
use Rattle.global_verdicts.proofs.laws.one_global.Goals as goal

pub returns-clause-one : goal.returns-clause-one
returns-clause-one c = one_global

pub returns-clause-or_break : goal.returns-clause-or_break
returns-clause-or_break c = global_or_break
