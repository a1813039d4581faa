use Rattle.std.proofs.Common.{ap, ◌∙◌}
use Rattle.keeper_layers.specs.Keepers.{by_kind}
use Rattle.keeper_layers.proofs.either_keeper.EitherKeeperKeeper.commit.Goals as goal

pub returns-in-First-clause-content : goal.returns-in-First-clause-content
returns-in-First-clause-content g c = λ now told. let made = c.commit.ensures.content now told in
    (made.0, ap (by_kind g.A.Keeper.content g.B.Keeper.content) c.in-First.is ∙ made.1, made.2)

pub returns-in-Second-clause-content : goal.returns-in-Second-clause-content
returns-in-Second-clause-content g c = λ now told. let made = c.commit-in-Second.ensures.content now told in
    (made.0, ap (by_kind g.A.Keeper.content g.B.Keeper.content) c.in-Second.is ∙ made.1, made.2)
