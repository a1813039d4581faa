use Rattle.std.proofs.Common.{◌≡◌, [], ap, arith, length}
use Rattle.buffered_reader.proofs.Fronts.{ended, filled_ahead, filled_past, none_at_limit}
use Rattle.buffered_reader.proofs.reader.BufferedReader.ready.Goals as goal

pub returns-then-room-eq0-clause-end : goal.returns-then-room-eq0-clause-end
returns-then-room-eq0-clause-end g c = λ _.
    let drained : c.args.self.now.buffered ≡ [] = c.is_drained.ensures.0 c.if-not-is_drained.false in
    let none : length c.args.self.now.buffered ≡ 0 = ap length drained in
    none_at_limit c.args.self.now (g.S.Source.left c.args.source.now) (omega arith)

pub returns-then-count-eq0-clause-end : goal.returns-then-count-eq0-clause-end
returns-then-count-eq0-clause-end g c = λ _.
    let drained : c.args.self.now.buffered ≡ [] = c.is_drained.ensures.0 c.if-not-is_drained.false in
    ended c.args.self.now (g.S.Source.left c.args.source.now) drained (c.in_ok-count.ensures.end c.if-count-eq0.true (omega arith))

pub returns-clause-ahead : goal.returns-clause-ahead
returns-clause-ahead g c =
    let drained : c.args.self.now.buffered ≡ [] = c.is_drained.ensures.0 c.if-not-is_drained.false in
    filled_ahead c.args.self.now c.refill.new.self (g.S.Source.left c.args.source.now) (g.S.Source.left c.refill.new.source) drained c.refill.ensures.taken c.refill.ensures.limit c.in_ok-count.ensures.read.1

pub returns-clause-past : goal.returns-clause-past
returns-clause-past g c =
    let drained : c.args.self.now.buffered ≡ [] = c.is_drained.ensures.0 c.if-not-is_drained.false in
    filled_past c.args.self.now c.refill.new.self (g.S.Source.left c.args.source.now) (g.S.Source.left c.refill.new.source) drained c.refill.ensures.taken c.refill.ensures.limit c.in_ok-count.ensures.read.1
