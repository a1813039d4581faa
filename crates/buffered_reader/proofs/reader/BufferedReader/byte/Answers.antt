use Rattle.std.proofs.Common.{◌≡◌, ◌≤◌, List, ℕ, sym, ap, ◌∙◌, arith, length, take}
use Rattle.octets.specs.Content.{with_front}
use Rattle.buffered_reader.specs.Ahead.{ahead}
use Rattle.buffered_reader.proofs.Fronts.{first_byte, pass_ahead, pass_past}
use Rattle.buffered_reader.proofs.reader.BufferedReader.byte.Goals as goal

pub returns-clause-ahead : goal.returns-clause-ahead
returns-clause-ahead g c =
    let some : 1 ≤ length c.ready.new.self.buffered = omega (arith, c.in_ok-ready.ensures.some c.if-not-branch.false) in
    let bytes : c.buffered.result.now ≡ c.ready.new.self.buffered = c.buffered.ensures in
    let now = g.S.Source.left c.ready.new.source in
    sym c.ready.ensures.ahead
    ∙ pass_ahead c.ready.new.self c.pass.new.self now now 1 c.pass.ensures.after some c.pass.ensures.limited
    ∙ ap (λ (taken : List ℕ). with_front taken (ahead c.pass.new.self now))
    (ap (take 1) (sym bytes) ∙ first_byte c.buffered.result.now (omega (arith, ap length bytes)))

pub returns-clause-past : goal.returns-clause-past
returns-clause-past g c =
    let some : 1 ≤ length c.ready.new.self.buffered = omega (arith, c.in_ok-ready.ensures.some c.if-not-branch.false) in
    let now = g.S.Source.left c.ready.new.source in
    pass_past c.ready.new.self c.pass.new.self now now 1 c.pass.ensures.after some c.pass.ensures.limited ∙ c.ready.ensures.past
