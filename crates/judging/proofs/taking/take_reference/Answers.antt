use Rattle.std.proofs.Common.{◌≡◌, ap, ◌∙◌}
use Rattle.std.specs.Option.{option_copied}
use Rattle.git_object.specs.Repository.{empty_repository}
use Rattle.rsl_chain.specs.Entries.{Taken}
use Rattle.judging.specs.Decisions.{decision}
use Rattle.judging.proofs.Takes.{on_err, stands_still, taken_reference}
use Rattle.judging.proofs.taking.take_reference.Goals as goal

pub returns-in_err-keep_reference-clause-refused : goal.returns-in_err-keep_reference-clause-refused
returns-in_err-keep_reference-clause-refused g c =
    on_err c.from_residual-in_err-keep_reference.result
    (λ rules log stands. stands_still rules log (record { entry = c.args.entry.now; repository = empty_repository }) c.args.engine.now c.keep_reference.new.engine stands c.in_err-keep_reference.ensures.same)

pub returns-clause-taken : goal.returns-clause-taken
returns-clause-taken g c = λ r log told stands body.
    let t : Taken = record { entry = c.args.entry.now; repository = r } in
    let rules = g.J.Judge.rules c.args.judge.now in
    let e = c.args.engine.now in
    let s = c.place_before-stands.result in
    let d = c.in_ok-found.found in
    let told_before = c.finishes.ensures.same.content r told in
    let decided : d ≡ decision rules r e.policy c.args.entry.now c.args.name.now s.from e.attested =
    c.in_ok-found.ensures.answer r told_before
    ∙ ap (λ p. decision rules r p c.args.entry.now c.args.name.now s.from (option_copied c.as_ref-2.result)) c.as_ref.ensures.value
    ∙ ap (decision rules r e.policy c.args.entry.now c.args.name.now s.from) c.as_ref-2.ensures.value in
    let finish = c.in_ok-finishes.ensures.answer r told in
    taken_reference rules log t c.args.name.now c.args.target.now body e c.keep_reference.new.engine c.in_ok-finishes.finishes d s c.in_ok-verdict.verdict stands c.requires.fresh c.place_before-stands.ensures decided finish c.in_ok-keep_reference.ensures.kept c.in_ok-verdict.ensures
