use Rattle.std.proofs.Common.{◌≡◌, ◌++◌, ◌∷◌, [], ℕ, List, ap, sym, subst, ◌∙◌}
use Rattle.rsl_chain.specs.declared.entries.EntryBody.{EntryBody}
use Rattle.judging.proofs.Takes.{on_ok}
use Rattle.judged_logs.specs.Keeping.{AreOpen, IsNoted, is_skipped_among}
use Rattle.judged_logs.proofs.Steps.{own_now, note_known, reference_known}
use Rattle.judged_logs.proofs.Takes.{long_taken}
use Rattle.judged_logs.proofs.kept.ByWhom.take.Goals as goal

pub returns-in-Reference : goal.returns-in-Reference
returns-in-Reference g c = on_ok c.note_rescues.result c.note_rescues.ensures (λ made rules log t same stands are knows.
    let body = ap (λ e. e.body) same ∙ c.in-Reference.is in
    let open_to_it = subst (λ (b : EntryBody). AreOpen rules log b c.args.numbers.now) c.in-Reference.is are in
    let by = c.len-by.ensures ∙ long_taken rules log t c.args.engine.now stands in
    reference_known rules log t c.in-Reference.name c.in-Reference.target body c.args.numbers.now open_to_it c.args.self.now c.note_rescues.new.rescuers c.len-by.result by
    (made rules (log ++ t ∷ []) stands (own_now rules log t c.in-Reference.name c.in-Reference.target body c.args.numbers.now open_to_it)) knows)

pub returns-in-Annotation : goal.returns-in-Annotation
returns-in-Annotation g c = on_ok c.note_skips.result c.note_skips.ensures (λ made rules log t same stands are knows.
    let body = ap (λ e. e.body) same ∙ c.in-Annotation.is in
    let by = c.len-by.ensures ∙ long_taken rules log t c.args.engine.now stands in
    note_known rules log t c.in-Annotation.ids c.in-Annotation.skip c.in-Annotation.message body c.args.self.now c.note_skips.new.skippers c.len-by.result by
    (subst (λ (xs : List (List ℕ)). IsNoted (is_skipped_among rules (log ++ t ∷ []) xs) c.len-by.result c.args.self.now.skippers c.note_skips.new.skippers) c.as_slice.ensures (made rules (log ++ t ∷ []) stands)) knows)
