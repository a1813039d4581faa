use Rattle.rsl_chain.proofs.Chains.{log_or_break, never_both, one_break, one_log}
use Rattle.rsl_chain.proofs.laws.logs.Goals as goal

pub returns : goal.returns
returns c = record { one_log = one_log; one_break = one_break; never_both = never_both; log_or_break = log_or_break }
