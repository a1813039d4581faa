use Rattle.std.proofs.Common.{◌+◌, ◌-◌, ◌≤◌, length, take, drop, ap, ◌∙◌, arith}
use Rattle.buffered_reader.specs.Ahead.{Reading}
use Rattle.buffered_reader.proofs.Fronts.{part_short, passed}
use Rattle.buffered_reader.proofs.reader.BufferedReader.pass.Goals as goal

pub returns-clause-after : goal.returns-clause-after
returns-clause-after c =
    let i = c.self.inside in
    let view = c.self.view_is in
    let short : length (take (i.to - i.from) (drop i.from i.space)) ≤ i.to - i.from = part_short (i.to - i.from) (drop i.from i.space) in
    let small : c.args.count ≤ i.to - i.from = omega (arith, c.requires, ap (λ (r : Reading). length r.buffered) view) in
    let bytes = passed i.space i.from i.to c.args.count small ∙ ap (λ (r : Reading). drop c.args.count r.buffered) view in
    λ k. record { buffered = bytes k; taken = (ap (λ (r : Reading). r.taken + c.args.count) view) k; limit = (ap (λ (r : Reading). r.limit) view) k }
