use Rattle.std.proofs.Common.{◌==◌, ◌&&◌, ap, ◌∙◌}
use Rattle.judging.specs.Logs.{entry_at, has_id, skipped}
use Rattle.judging.proofs.Takes.{on_ok}
use Rattle.judged_logs.proofs.Takes.{and_eq, at_place, no_place, noted_as, noted_nothing}
use Rattle.judged_logs.proofs.kept.note_skip.Goals as goal

pub returns-in-Some : goal.returns-in-Some
returns-in-Some g c = on_ok c.note_place.result c.note_place.ensures (λ made rules log stands.
    let are = c.place.ensures rules log stands in
    let n = c.in-Some.number in
    noted_as (λ q. n == q && skipped rules log n) (λ q. has_id (entry_at log q) c.args.id.now && skipped rules log q) c.args.by c.args.skippers.now c.note_place.new.skippers
    (made rules log stands ((are n).0 c.in-Some.is).0)
    (λ q some. and_eq n q (skipped rules log) ∙ ap (λ b. b && skipped rules log q) (at_place rules log c.place.result c.args.id.now are n c.in-Some.is q some)))

pub returns-in-None : goal.returns-in-None
returns-in-None g c = λ rules log stands.
    noted_nothing (λ q. has_id (entry_at log q) c.args.id.now && skipped rules log q) c.args.by c.args.skippers.now
    (λ q some. ap (λ b. b && skipped rules log q) (no_place rules log c.place.result c.args.id.now (c.place.ensures rules log stands) c.in-None.is q some))
