use Rattle.std.proofs.Common.{sym, subst}
use Rattle.rsl_chain.specs.Logs.{IsLogOf}
use Rattle.global_verdicts.proofs.Walked.{refusal_of}
use Rattle.global_verdicts.proofs.pass.judge_log.Goals as goal

pub take_all-requires-clause-known : goal.take_all-requires-clause-known
take_all-requires-clause-known g c = λ r told. c.unjudged-pass.ensures.known r

pub returns-clause-broken : goal.returns-clause-broken
returns-clause-broken g c = λ r told.
    let found = c.in_ok-log.ensures.log r (c.take_all.ensures.same.content r told) in
    refusal_of r c.in-Err.fault (c.in-Err.ensures.unbroken r told (subst (IsLogOf r) (sym c.as_slice.ensures) found))
