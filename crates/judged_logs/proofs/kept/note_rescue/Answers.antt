use Rattle.std.proofs.Common.{◌==◌, ◌&&◌, not, ap, sym, ◌∙◌}
use Rattle.judging.specs.Logs.{pending}
use Rattle.judging.proofs.Takes.{on_ok}
use Rattle.judged_logs.proofs.Firsts.{and_no, and_yes}
use Rattle.judged_logs.proofs.Skipped.{pending_is}
use Rattle.judged_logs.proofs.Takes.{noted_as, noted_nothing}
use Rattle.judged_logs.proofs.kept.note_rescue.Goals as goal

pub returns-then-pending : goal.returns-then-pending
returns-then-pending g c = λ rules log stands own.
    let is = pending_is rules log c.args.number.now c.pending.result own (c.pending.ensures rules log stands) in
    noted_nothing (λ q. c.args.number.now == q && not (pending rules log c.args.number.now)) c.args.by c.args.rescuers.now
    (λ q above. ap (λ b. c.args.number.now == q && not b) (sym is ∙ c.if-pending.true) ∙ and_no (c.args.number.now == q))

pub returns-else-pending : goal.returns-else-pending
returns-else-pending g c = on_ok c.note.result c.note.ensures (λ made rules log stands own.
    let is = pending_is rules log c.args.number.now c.pending.result own (c.pending.ensures rules log stands) in
    noted_as (λ q. c.args.number.now == q) (λ q. c.args.number.now == q && not (pending rules log c.args.number.now)) c.args.by c.args.rescuers.now c.note.new.table made
    (λ q above. sym (ap (λ b. c.args.number.now == q && not b) (sym is ∙ c.if-pending.false) ∙ and_yes (c.args.number.now == q))))
