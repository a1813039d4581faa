use Rattle.tree_paths.specs.Repositories.{readings_of}
use Rattle.entry_rules.proofs.learned.Learned.new.Goals as goal

pub returns : goal.returns
returns c = λ r. record { trees = c.new.ensures.known r; changes = c.new-2.ensures (readings_of r).trees }
