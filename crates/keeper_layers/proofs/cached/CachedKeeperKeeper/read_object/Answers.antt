use Rattle.std.proofs.Common.{sym}
use Rattle.keeper_layers.proofs.Gaining.{cache_on, stands_more}
use Rattle.keeper_layers.proofs.cached.CachedKeeperKeeper.read_object.Goals as goal

pub returns-in-Some-clause-answer : goal.returns-in-Some-clause-answer
returns-in-Some-clause-answer g c = λ r told. sym (c.self.invariant.stands r told c.args.id.now c.in-Some.object c.in-Some.ensures)

pub invariant_of-self-in_err-found : goal.invariant_of-self-in_err-found
invariant_of-self-in_err-found g c =
    cache_on c.self.inside.cached (g.R.Keeper.content c.self.inside.inner) (g.R.Keeper.content c.read_object.new.self) c.self.invariant c.read_object.ensures.same.content

pub invariant_of-self-in-Some-found : goal.invariant_of-self-in-Some-found
invariant_of-self-in-Some-found g c = record {
  stands = stands_more c.self.inside.cached c.keep.new.self c.args.id.now c.in-Some-found.object
      (g.R.Keeper.content c.self.inside.inner) (g.R.Keeper.content c.read_object.new.self) c.in_ok-found.found c.self.invariant.stands
      c.read_object.ensures.same.content c.keep.ensures.gains c.in-Some-found.is c.in_ok-found.ensures.answer;
  within = c.keep.ensures.within c.self.invariant.within;
}

pub invariant_of-self-in_default-found : goal.invariant_of-self-in_default-found
invariant_of-self-in_default-found g c =
    cache_on c.self.inside.cached (g.R.Keeper.content c.self.inside.inner) (g.R.Keeper.content c.read_object.new.self) c.self.invariant c.read_object.ensures.same.content
