use Rattle.std.proofs.Common.{◌==◌, ◌&&◌, ap, sym, ◌∙◌}
use Rattle.judging.specs.Logs.{skipped}
use Rattle.judged_logs.proofs.Firsts.{and_no}
use Rattle.judged_logs.proofs.Skipped.{skipped_is}
use Rattle.judged_logs.proofs.Takes.{noted_nothing}
use Rattle.judged_logs.proofs.kept.note_place.Goals as goal

pub returns-else-skipped : goal.returns-else-skipped
returns-else-skipped g c = λ rules log stands some.
    let is = skipped_is rules log c.args.number c.skipped.result some (c.skipped.ensures rules log stands) in
    noted_nothing (λ q. c.args.number == q && skipped rules log c.args.number) c.args.by c.args.skippers.now
    (λ q above. ap (λ b. c.args.number == q && b) (sym is ∙ c.if-skipped.false) ∙ and_no (c.args.number == q))
