use Rattle.octets.specs.Causes.{HasCause}
use Rattle.std.proofs.Common.{rules}
use Rattle.keeper_api.specs.Faults.{keeper_failed}
use Rattle.keeper_sqlite.specs.Keepers.{LooksAt}
use Rattle.keeper_sqlite.proofs.Coming.{as_before}
use Rattle.keeper_sqlite.proofs.keeper_calls.SqlKeeperKeeper.next_object_after.Goals as goal

pub returns-clause-same : goal.returns-clause-same
returns-clause-same g c =
    let looks : LooksAt g.S.Store c.counted.result c.args.self.now c.counted.new.self = rw (c.counted.ensures.counted, c.counted.ensures.answer) c.object_after-found.ensures.same in
    let cause : HasCause keeper_failed c.args.self.now.faults c.counted.new.self.faults c.counted.result = search rules in
    as_before g.S.Store c.counted.result c.args.self.now c.counted.new.self looks cause
