use Rattle.keeper_layers.proofs.Gaining.{cache_empty}
use Rattle.keeper_layers.proofs.cached.CachedKeeper.new.Goals as goal

pub invariant_of-result : goal.invariant_of-result
invariant_of-result g c = cache_empty c.new.result (g.R.Keeper.content c.args.inner) c.new.ensures.empty c.new.ensures.within
