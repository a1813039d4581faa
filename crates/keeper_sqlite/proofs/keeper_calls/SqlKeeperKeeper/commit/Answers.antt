use Rattle.octets.specs.Causes.{HasCause}
use Rattle.std.proofs.Common.{rules}
use Rattle.keeper_api.specs.Faults.{keeper_failed}
use Rattle.keeper_sqlite.specs.Keepers.{TellsAfterAt}
use Rattle.keeper_sqlite.proofs.Coming.{comes_then, tells_on}
use Rattle.keeper_sqlite.proofs.keeper_calls.SqlKeeperKeeper.commit.Goals as goal

pub returns-clause-content : goal.returns-clause-content
returns-clause-content g c = rw (c.counted.ensures.counted, c.counted.ensures.answer) c.make-made.ensures.content

pub returns-clause-left : goal.returns-clause-left
returns-clause-left g c = rw (c.counted.ensures.counted, c.counted.ensures.answer) c.make-made.ensures.left

pub returns-clause-on : goal.returns-clause-on
returns-clause-on g c =
    let after : TellsAfterAt g.S.Store c.counted.result c.args.self.now c.counted.new.self = rw (c.counted.ensures.counted, c.counted.ensures.answer) c.make-made.ensures.on in
    let cause : HasCause keeper_failed c.args.self.now.faults c.counted.new.self.faults c.counted.result = search rules in
    tells_on g.S.Store c.counted.result c.args.self.now c.counted.new.self after cause

pub returns-clause-unmade : goal.returns-clause-unmade
returns-clause-unmade g c =
    let after : TellsAfterAt g.S.Store c.counted.result c.args.self.now c.counted.new.self = rw (c.counted.ensures.counted, c.counted.ensures.answer) c.make-made.ensures.on in
    let cause : HasCause keeper_failed c.args.self.now.faults c.counted.new.self.faults c.counted.result = search rules in
    λ is first came. comes_then g.S.Store first c.args.self.now c.counted.new.self cause.later (tells_on g.S.Store c.counted.result c.args.self.now c.counted.new.self after cause) came
