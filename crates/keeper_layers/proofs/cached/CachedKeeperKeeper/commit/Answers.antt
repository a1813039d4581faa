use Rattle.std.proofs.Common.{ap, sym, ◌∙◌}
use Rattle.keeper_layers.proofs.Gaining.{cache_empty}
use Rattle.keeper_layers.proofs.cached.CachedKeeperKeeper.commit.Goals as goal

pub invariant_of-self : goal.invariant_of-self
invariant_of-self g c = cache_empty c.new.result (g.R.Keeper.content c.commit.new.self) c.new.ensures.empty c.new.ensures.within

pub returns-clause-content : goal.returns-clause-content
returns-clause-content g c = λ now told.
    let made = c.commit.ensures.content now told in
    (made.0, sym (ap (λ v. g.R.Keeper.content v.0) c.self.view_is) ∙ made.1, made.2)
