use Rattle.std.proofs.Common.{◌≡◌, ℕ, Option, Some, None, sym, subst}
use Rattle.std.specs.Option.{IfNone, IfSome}
use Rattle.recovery.specs.Lanes.{first_of, lane_of}
use Rattle.judging.specs.Books.{kept_fault}
use Rattle.judging.specs.Verdicts.{IsJudged}
use Rattle.judging.specs.declared.verdicts.Verdict.{Verdict}
use Rattle.judging.specs.declared.verdicts.Verdict.TheVariants.{Violation}
use Rattle.judging.proofs.Takes.{no_violation, tip_is, violation_is}
use Rattle.judging.proofs.engine.Engine.verdict.Goals as goal

pub returns-in-Some : goal.returns-in-Some
returns-in-Some g c = λ rules log stands.
    let book = c.args.self.now.book in
    let name = c.args.name.now in
    let Q : Option (Verdict g.row.F.Denot) → Type 0 = λ o. IfSome o (λ verdict. (number : ℕ) × (fault : g.row.F.Denot) × (verdict ≡ Violation number fault) × (first_of (lane_of book.marks name).pending ≡ Some number) × (kept_fault book number ≡ Some fault)) in
    let w : Q (Some c.in-Some.verdict) = subst Q c.in-Some.is c.in_ok-verdict.ensures.some in
    subst (λ (v : Verdict g.row.F.Denot). IsJudged rules log name c.args.kept.now v) (sym w.2) (violation_is rules log c.args.self.now stands name c.args.kept.now w.0 w.1 w.3 w.4)

pub returns-in-None : goal.returns-in-None
returns-in-None g c = λ rules log stands.
    let book = c.args.self.now.book in
    let name = c.args.name.now in
    let Q : Option (Verdict g.row.F.Denot) → Type 0 = λ o. IfNone o ((number : ℕ) → first_of (lane_of book.marks name).pending ≡ Some number → kept_fault book number ≡ None) in
    let none : Q None = subst Q c.in-None.is c.in_ok-verdict.ensures.none in
    tip_is rules log c.args.self.now stands name c.args.kept.now c.tip.result (no_violation rules log c.args.self.now stands name none) c.tip.ensures
