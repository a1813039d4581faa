use Rattle.std.proofs.Common.{◌&&◌, ap}
use Rattle.judging.specs.Hits.{some_hit, without}
use Rattle.judging.proofs.HitLemmas.{lanes_still, without_none}
use Rattle.judging.proofs.noting.skip_where.Goals as goal

pub returns-else-skip-clause-lanes : goal.returns-else-skip-clause-lanes
returns-else-skip-clause-lanes g c = λ hit is.
    lanes_still (λ name lane. without (λ n. c.args.skip && some_hit hit c.args.ids.now n) lane) c.args.book.now
    (λ name lane. without_none (λ n. c.args.skip && some_hit hit c.args.ids.now n) (λ n. ap (λ b. b && some_hit hit c.args.ids.now n) c.if-skip.false) lane)
