use Rattle.desk_core.proofs.Astray.{all_or_astray, none_in_log, one_astray}
use Rattle.desk_core.proofs.laws.astray.Goals as goal

pub returns : goal.returns
returns c = record { all = all_or_astray; one = one_astray; none = none_in_log }
