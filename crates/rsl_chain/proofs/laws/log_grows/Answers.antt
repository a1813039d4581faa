use Rattle.rsl_chain.proofs.Growing.{larger_keeps, log_grows}
use Rattle.rsl_chain.proofs.laws.log_grows.Goals as goal

pub returns : goal.returns
returns c = record { grows = log_grows; larger = larger_keeps }
