use Rattle.std.proofs.Common.{◌≡◌, ◌≤◌, ◌+◌, [], List, ℕ, inl, inr, sym, ap, ◌∙◌, arith, take, length}
use Rattle.std.proofs.lemmas.Bool.{cases_lt}
use Rattle.std.proofs.lemmas.List.{length-append, length-take-le, take-append-le}
use Rattle.octets.specs.Content.{with_front}
use Rattle.buffered_reader.specs.Ahead.{ahead}
use Rattle.buffered_reader.proofs.Fronts.{ended, none_at_limit, pass_ahead, pass_past, straight_ahead, straight_on}
use Rattle.buffered_reader.proofs.reader.BufferedReader.read.Goals as goal

pub returns-then-not-is_drained-clause-ahead : goal.returns-then-not-is_drained-clause-ahead
returns-then-not-is_drained-clause-ahead g c =
    let count = c.copy_front-count.result in
    let bytes : c.buffered.result.now ≡ c.args.self.now.buffered = c.buffered.ensures in
    let small : count ≤ length c.args.self.now.buffered = omega (arith, c.copy_front-count.ensures.within, ap length bytes) in
    let left = g.S.Source.left c.args.source.now in
    pass_ahead c.args.self.now c.pass.new.self left left count c.pass.ensures.after small c.pass.ensures.limited
    ∙ ap (λ (taken : List ℕ). with_front taken (ahead c.pass.new.self left)) (ap (take count) (sym bytes) ∙ sym c.copy_front-count.ensures.bytes)

pub returns-then-not-is_drained-clause-past : goal.returns-then-not-is_drained-clause-past
returns-then-not-is_drained-clause-past g c =
    let bytes : c.buffered.result.now ≡ c.args.self.now.buffered = c.buffered.ensures in
    let small : c.copy_front-count.result ≤ length c.args.self.now.buffered = omega (arith, c.copy_front-count.ensures.within, ap length bytes) in
    let left = g.S.Source.left c.args.source.now in
    pass_past c.args.self.now c.pass.new.self left left c.copy_front-count.result c.pass.ensures.after small c.pass.ensures.limited

pub returns-clause-ahead : goal.returns-clause-ahead
returns-clause-ahead g c =
    let count = c.in_ok-count.count in
    let drained : c.args.self.now.buffered ≡ [] = c.is_drained.ensures.0 c.if-not-is_drained.false in
    let bound : count ≤ length c.read.new.buf = c.in_ok-count.ensures.bound in
    let small : c.args.self.now.taken + count ≤ c.args.self.now.limit = omega arith in
    straight_ahead c.args.self.now c.count.new.self (g.S.Source.left c.args.source.now) (g.S.Source.left c.read.new.self) (take count c.read.new.buf) count
    (length-take-le count c.read.new.buf bound) drained c.count.ensures c.in_ok-count.ensures.bytes small
    ∙ ap (λ (taken : List ℕ). with_front taken (ahead c.count.new.self (g.S.Source.left c.read.new.self))) (sym (take-append-le count c.read.new.buf c.split_at_mut-space.result.1.now bound))

pub returns-clause-end : goal.returns-clause-end
returns-clause-end g c = λ zero some.
    let drained : c.args.self.now.buffered ≡ [] = c.is_drained.ensures.0 c.if-not-is_drained.false in
    let none : length c.args.self.now.buffered ≡ 0 = ap length drained in
    let left = g.S.Source.left c.args.source.now in
    elim (cases_lt 0 (length c.read.new.buf)) [
      | inl more ↦ ended c.args.self.now left drained (c.in_ok-count.ensures.end zero more)
      | inr full ↦ none_at_limit c.args.self.now left (omega (arith, length-append c.read.new.buf c.split_at_mut-space.result.1.now, c.split_at_mut-space.ensures.front_len, c.split_at_mut-space.ensures.back_len))
    ]

pub returns-clause-past : goal.returns-clause-past
returns-clause-past g c =
    let count = c.in_ok-count.count in
    let drained : c.args.self.now.buffered ≡ [] = c.is_drained.ensures.0 c.if-not-is_drained.false in
    let bound : count ≤ length c.read.new.buf = c.in_ok-count.ensures.bound in
    let small : c.args.self.now.taken + count ≤ c.args.self.now.limit = omega arith in
    straight_on c.args.self.now c.count.new.self (g.S.Source.left c.args.source.now) (g.S.Source.left c.read.new.self) (take count c.read.new.buf) count
    (length-take-le count c.read.new.buf bound) drained c.count.ensures c.in_ok-count.ensures.bytes small
