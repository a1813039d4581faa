use Rattle.std.proofs.Common.{◌≡◌, ap, ◌∙◌}
use Rattle.std.specs.Option.{option_copied}
use Rattle.rsl_chain.specs.Entries.{Taken}
use Rattle.judging.specs.Decisions.{decision}
use Rattle.judging.proofs.Takes.{looked}
use Rattle.judging.proofs.taking.look_reference.Goals as goal

pub returns-clause-answer : goal.returns-clause-answer
returns-clause-answer g c = λ r log target told stands body.
    let t : Taken = record { entry = c.args.entry.now; repository = r } in
    let rules = g.J.Judge.rules c.args.judge.now in
    let e = c.args.engine.now in
    let s = c.place_before-stands.result in
    let d = c.in_ok-found.found in
    let decided : d ≡ decision rules r e.policy c.args.entry.now c.args.name.now s.from e.attested =
    c.in_ok-found.ensures.answer r told
    ∙ ap (λ p. decision rules r p c.args.entry.now c.args.name.now s.from (option_copied c.as_ref-2.result)) c.as_ref.ensures.value
    ∙ ap (decision rules r e.policy c.args.entry.now c.args.name.now s.from) c.as_ref-2.ensures.value in
    looked rules log t c.args.name.now target body e d s c.in_ok-verdict.verdict stands c.place_before-stands.ensures decided c.in_ok-verdict.ensures
