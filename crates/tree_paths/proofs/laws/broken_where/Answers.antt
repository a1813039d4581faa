use Rattle.tree_paths.proofs.Breaking.{compared_where, sound_where, state_where}
use Rattle.tree_paths.proofs.laws.broken_where.Goals as goal

pub returns : goal.returns
returns c = record {
  state = state_where;
  unbroken = sound_where;
  compared = compared_where;
}
