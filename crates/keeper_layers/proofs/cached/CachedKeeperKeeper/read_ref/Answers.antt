use Rattle.keeper_layers.proofs.Gaining.{cache_on}
use Rattle.keeper_layers.proofs.cached.CachedKeeperKeeper.read_ref.Goals as goal

pub invariant_of-self : goal.invariant_of-self
invariant_of-self g c =
    cache_on c.self.inside.cached (g.R.Keeper.content c.self.inside.inner) (g.R.Keeper.content c.read_ref.new.self) c.self.invariant c.read_ref.ensures.same.content
