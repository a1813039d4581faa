use Rattle.std.proofs.Common.{List, ℕ, subst}
use Rattle.global_verdicts.specs.Verdicts.{IsGlobal}
use Rattle.global_verdicts.proofs.Walked.{global_of}
use Rattle.global_verdicts.proofs.judging_all.judge.Goals as goal

pub returns-in-Ok-conclude-clause-answers : goal.returns-in-Ok-conclude-clause-answers
returns-in-Ok-conclude-clause-answers g c = λ r told.
    let verdict = c.in-Ok-conclude.verdict in
    subst (λ (name : List ℕ). IsGlobal r name c.args.anchor verdict) c.in_ok-name.ensures
    (global_of r c.in_ok-name.name c.args.anchor c.in-Ok.pass verdict (c.in-Ok.ensures.judged r told) c.in-Ok-conclude.ensures)
