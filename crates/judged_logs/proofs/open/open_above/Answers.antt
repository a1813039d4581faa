use Rattle.std.proofs.Common.{sym, ◌∙◌}
use Rattle.std.proofs.lemmas.Result.{IfOk-weaker}
use Rattle.judged_logs.proofs.Takes.{none_open, open_from}
use Rattle.judged_logs.proofs.open.open_above.Goals as goal

pub returns-then-may_rescue : goal.returns-then-may_rescue
returns-then-may_rescue g c =
    IfOk-weaker c.pending_above.result _ _ (λ found made rules log stands target. open_from rules log c.args.name.now target c.above_of.result found (c.above_of.ensures rules log stands) (made rules log stands)) c.pending_above.ensures

pub returns-else-may_rescue : goal.returns-else-may_rescue
returns-else-may_rescue g c = λ rules log stands target.
    none_open rules log c.args.name.now target c.new.result c.new.ensures (sym (c.may_rescue.ensures rules log stands) ∙ c.if-may_rescue.false)
