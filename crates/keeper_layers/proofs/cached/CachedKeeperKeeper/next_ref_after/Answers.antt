use Rattle.keeper_layers.proofs.Gaining.{cache_on}
use Rattle.keeper_layers.proofs.cached.CachedKeeperKeeper.next_ref_after.Goals as goal

pub invariant_of-self : goal.invariant_of-self
invariant_of-self g c =
    cache_on c.self.inside.cached (g.R.Keeper.content c.self.inside.inner) (g.R.Keeper.content c.next_ref_after.new.self) c.self.invariant c.next_ref_after.ensures.same.content
