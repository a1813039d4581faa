use Rattle.std.proofs.Common.{◌≡◌, ◌<◌, [], ◌∷◌, refl, sym, ap, ◌∙◌, subst}
use Rattle.desk_turns.proofs.Sittings.{took}
use Rattle.desk_turns.proofs.steps.take_turn.Goals as goal

pub try_take-requires : goal.try_take-requires
try_take-requires g c = record {
  table = (c.loop.invariant.2 ∙ c.requires.table.0, c.requires.table.1);
  seat = (subst (λ m. 0 < m.0.number) (sym c.loop.invariant.3) c.requires.seat.0, ap (λ m. m.1) c.loop.invariant.3 ∙ c.requires.seat.1);
  room = c.if-half.true;
}

pub take_out-requires : goal.take_out-requires
take_out-requires g c =
    let got = c.try_take.ensures.took c.if-try_take.true in record {
      table = (c.try_take.ensures.table ∙ (c.loop.invariant.2 ∙ c.requires.table.0), c.requires.table.1);
      holds = (ap (λ v. v.holds) got.is, ap (λ v. v.out) got.is);
      slot = (got.state, got.slot);
    }
