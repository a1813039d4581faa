use Rattle.std.proofs.Common.{◌∙◌, sym, ap}
use Rattle.desk_turns.specs.Seated.{view_in}
use Rattle.desk_turns.proofs.steps.lift.Goals as goal

pub into_seat-requires : goal.into_seat-requires
into_seat-requires g c = (view_in c.args.badge.now.views, ap (λ b. b.views) c.replace.ensures.value ∙ c.requires)

pub returns-clause-me : goal.returns-clause-me
returns-clause-me g c =
    let e = c.into_seat.ensures in
    let same = ap (λ b. b.views) c.replace.ensures.value in
    λ i. ((sym (ap view_in e.2) ∙ ap view_in same) i, e.3 i)
