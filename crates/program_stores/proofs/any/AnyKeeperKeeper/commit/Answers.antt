use Rattle.program_stores.proofs.any.AnyKeeperKeeper.commit.Goals as goal

pub returns-clause-unmade : goal.returns-clause-unmade
returns-clause-unmade c = λ is first came. c.commit.ensures.unmade is first.kind came
