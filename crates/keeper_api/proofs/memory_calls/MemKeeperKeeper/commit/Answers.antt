use Rattle.std.proofs.Common.{ap}
use Rattle.keeper_api.proofs.Committing.{told_after}
use Rattle.keeper_api.proofs.memory_calls.MemKeeperKeeper.commit.Goals as goal

pub returns-clause-content : goal.returns-clause-content
returns-clause-content c =
    told_after c.args.self.now c.args.change.now c.try_commit.result c.try_commit.new.self.held (ap (λ s. s.held) c.try_commit.ensures.after)
