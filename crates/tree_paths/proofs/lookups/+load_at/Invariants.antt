use Rattle.std.proofs.Common.{length}
use Rattle.tree_paths.proofs.lookups.+load_at.Given as goal

abbrev pub decreases-load_at : goal.decreases-load_at
decreases-load_at g l = length l.path.now
