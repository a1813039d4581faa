use Rattle.rsl_chain.proofs.Lookups.{heads_are, heads_of_entries}
use Rattle.rsl_chain.proofs.laws.heads.Goals as goal

pub returns : goal.returns
returns c = record { are_heads = heads_are; of_entries = heads_of_entries }
