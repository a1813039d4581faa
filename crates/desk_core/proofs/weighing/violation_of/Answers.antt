use Rattle.std.proofs.Common.{◌∙◌, sym}
use Rattle.desk_core.proofs.Denials.{authorised_allowed, fault_found, none_found, noted_allowed, told_verdict}
use Rattle.desk_core.proofs.weighing.violation_of.Goals as goal

pub returns-in_ok-line-in-Refused-clause-found : goal.returns-in_ok-line-in-Refused-clause-found
returns-in_ok-line-in-Refused-clause-found g c = λ r log rows told anchor ids follows.
    let after = c.look_at.ensures.follows log follows in
    let push = c.args.push.now in
    fault_found log rows r push c.in-Refused.fault c.in_ok-line-in-Refused.line c.in_ok-line-in-Refused.ensures
    (sym c.in-Refused.is ∙ told_verdict c.args.engine.now c.look_at.new.engine log rows r push c.in_ok-verdict.verdict c.look_at.ensures.rules anchor ids after (c.in_ok-verdict.ensures.answer r log told after))

pub returns-in_ok-line-in-Refused-clause-none : goal.returns-in_ok-line-in-Refused-clause-none
returns-in_ok-line-in-Refused-clause-none g c = λ r log rows told anchor ids follows. none_found log rows r c.args.push.now c.in-Refused.fault c.in_ok-line-in-Refused.line c.in_ok-line-in-Refused.ensures

pub returns-in-Authorised-clause-none : goal.returns-in-Authorised-clause-none
returns-in-Authorised-clause-none g c = λ r log rows told anchor ids follows.
    let after = c.look_at.ensures.follows log follows in
    let push = c.args.push.now in
    authorised_allowed log rows r push
    (sym c.in-Authorised.is ∙ told_verdict c.args.engine.now c.look_at.new.engine log rows r push c.in_ok-verdict.verdict c.look_at.ensures.rules anchor ids after (c.in_ok-verdict.ensures.answer r log told after))

pub returns-in-Noted-clause-none : goal.returns-in-Noted-clause-none
returns-in-Noted-clause-none g c = λ r log rows told anchor ids follows.
    let after = c.look_at.ensures.follows log follows in
    let push = c.args.push.now in
    noted_allowed log rows r push
    (sym c.in-Noted.is ∙ told_verdict c.args.engine.now c.look_at.new.engine log rows r push c.in_ok-verdict.verdict c.look_at.ensures.rules anchor ids after (c.in_ok-verdict.ensures.answer r log told after))
