use Rattle.std.proofs.Common.{◌≡◌, ◌==◌, ◌&&◌, ◌||◌, ◌+◌, List, ℕ, Bool, true, false, not, get_or, take, refl, sym, ap, subst, ◌∙◌, arith}
use Rattle.std.proofs.lemmas.List.{get_or_default, take_all}
use Rattle.recovery.specs.Lanes.{is_in}
use Rattle.judging.specs.Logs.{pending}
use Rattle.judged_logs.specs.Keeping.{IsNoted}
use Rattle.judged_logs.proofs.Takes.{and_eq, in_at, in_more, noted_as, noted_nothing, noted_then, or_and}
use Rattle.judged_logs.proofs.kept.note_rescues.Goals as goal

pub numbers-init : goal.numbers-init
numbers-init g c = λ rules log stands own. noted_nothing (λ q. false) c.args.by c.args.rescuers.now (λ q some. refl)

pub numbers-preserved : goal.numbers-preserved
numbers-preserved g c = λ rules log stands own.
    let numbers = c.args.numbers.now in
    let k = c.numbers.number-index in
    let within = c.numbers-test.true in
    let number : ℕ = get_or numbers k 0 in
    let item = get_or_default numbers k number 0 within in
    let left : ℕ → Bool = λ q. not (pending rules log q) in
    let one : ℕ → Bool = λ q. is_in q (take k numbers) && left q in
    let two : ℕ → Bool = λ q. number == q && left number in
    let there = in_at numbers k number within item in
    noted_as (λ q. one q || two q) (λ q. is_in q (take (k + 1) numbers) && left q) c.args.by c.args.rescuers.now c.note_rescue.new.rescuers
    (noted_then one two c.args.by c.args.rescuers.now c.numbers.rescuers c.note_rescue.new.rescuers (c.numbers.invariant rules log stands own) (c.in_ok-note_rescue.ensures rules log stands (own number there)))
    (λ q some.
    ap (λ b. one q || b) (and_eq number q left) ∙ or_and (is_in q (take k numbers)) (number == q) (left q)
    ∙ ap (λ b. b && left q) (in_more numbers k number q within item))

pub returns : goal.returns
returns g c = λ rules log stands own.
    subst (λ (xs : List ℕ). IsNoted (λ b. is_in b xs && not (pending rules log b)) c.args.by c.args.rescuers.now c.numbers.rescuers) (take_all c.numbers.number-index c.args.numbers.now c.numbers-test.false) (c.numbers.invariant rules log stands own)
