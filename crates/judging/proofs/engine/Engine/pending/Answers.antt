use Rattle.std.proofs.Common.{sym, ◌∙◌}
use Rattle.std.proofs.lemmas.Bool.{true≢false}
use Rattle.judging.proofs.Pendings.{none_pending, pending_is}
use Rattle.judging.proofs.engine.Engine.pending.Goals as goal

pub returns-in-Some : goal.returns-in-Some
returns-in-Some g c = λ rules log stands.
    let is = pending_is rules log c.args.self.now stands c.args.number c.in-Some.name.now c.in-Some.ensures.found in
    (λ yes. is.0 (sym c.is_pending.ensures ∙ yes), λ w. c.is_pending.ensures ∙ is.1 w)

pub returns-in-None : goal.returns-in-None
returns-in-None g c = λ rules log stands.
    (λ yes. absurd (true≢false (sym yes)), λ w. absurd (none_pending rules log c.args.self.now stands c.args.number c.in-None.ensures.none w))
