use Rattle.std.proofs.Common.{◌==◌, sym}
use Rattle.recovery.specs.Lanes.{with_skip}
use Rattle.judging.specs.Hits.{without}
use Rattle.judging.proofs.HitLemmas.{lanes_as, lanes_still, without_none, without_same}
use Rattle.judging.proofs.noting.skip_one.Goals as goal

pub returns-in-Some-clause-lanes : goal.returns-in-Some-clause-lanes
returns-in-Some-clause-lanes g c = λ hit is.
    lanes_as (λ name lane. with_skip c.in-Some.number lane) (λ name lane. without (hit c.args.id.now) lane) c.args.book.now c.skip.new.self
    (λ name lane. without_same (λ n. n == c.in-Some.number) (hit c.args.id.now) (λ m. sym (c.in-Some.ensures.some hit is m)) lane) c.skip.ensures

pub returns-in-None-clause-lanes : goal.returns-in-None-clause-lanes
returns-in-None-clause-lanes g c = λ hit is.
    lanes_still (λ name lane. without (hit c.args.id.now) lane) c.args.book.now (λ name lane. without_none (hit c.args.id.now) (c.in-None.ensures.none hit is) lane)
