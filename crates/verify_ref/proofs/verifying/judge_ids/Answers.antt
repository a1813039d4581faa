use Rattle.entry_rules.specs.RealRules.{real_rules}
use Rattle.verify_ref.proofs.verifying.judge_ids.Goals as goal

pub returns-in-Ok-conclude-clause-answers : goal.returns-in-Ok-conclude-clause-answers
returns-in-Ok-conclude-clause-answers g c = λ r told is_log.
    let was = c.in-Ok.ensures.stands r (c.conclude.ensures.same.content r told) in
    record { ids = c.args.ids.now; is_log = is_log; log = was.0; entries = was.1; judged = c.in-Ok-conclude.ensures.judged r told (real_rules c.args.rules.now.anchor) was.0 was.2 }
