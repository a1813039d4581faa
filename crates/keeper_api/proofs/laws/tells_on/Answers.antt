use Rattle.keeper_api.proofs.Telling.{told_again, was_some}
use Rattle.keeper_api.proofs.laws.tells_on.Goals as goal

pub returns : goal.returns
returns g c = λ old new r same clean before_end quiet held.
    let on = g.met.R.Keeper.comes_tells old new (same.comes old (g.met.R.Keeper.comes_self old)) in
    told_again (g.R.Keeper.content old) (g.R.Keeper.content new) r same.content (on.content clean before_end quiet (was_some (g.R.Keeper.content old) r held)) held
