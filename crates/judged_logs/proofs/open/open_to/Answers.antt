use Rattle.std.proofs.Common.{sym, subst}
use Rattle.std.proofs.lemmas.Result.{IfOk-weaker}
use Rattle.rsl_chain.specs.declared.entries.EntryBody.{EntryBody}
use Rattle.judged_logs.specs.Keeping.{AreOpen}
use Rattle.judged_logs.proofs.Takes.{none_for_note}
use Rattle.judged_logs.proofs.open.open_to.Goals as goal

pub returns-in-Reference : goal.returns-in-Reference
returns-in-Reference g c =
    IfOk-weaker c.open_above.result _ _ (λ found made rules log stands. subst (λ (b : EntryBody). AreOpen rules log b found) (sym c.in-Reference.is) (made rules log stands c.in-Reference.target)) c.open_above.ensures

pub returns-in-Annotation : goal.returns-in-Annotation
returns-in-Annotation g c = λ rules log stands.
    none_for_note rules log c.args.entry.now.body c.in-Annotation.ids c.in-Annotation.skip c.in-Annotation.message c.new.result c.in-Annotation.is c.new.ensures
