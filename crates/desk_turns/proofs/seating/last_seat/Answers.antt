use Rattle.std.proofs.Common.{◌≡◌, sym, ap, refl}
use Rattle.desk_turns.proofs.Sittings.{new_seat, is_seat}
use Rattle.desk_turns.proofs.seating.last_seat.Goals as goal

pub into_badge-requires : goal.into_badge-requires
into_badge-requires g c = ap (λ m. m.1) c.requires.first.is

pub invariant_of-result : goal.invariant_of-result
invariant_of-result g c =
    let is = c.requires.first.is in
    is_seat _ c.args.token.me.0 c.into_badge.ensures.2 (sym (ap (λ m. m.0.number) is)) c.requires.number (ap (λ m. m.0.out) is)

pub returns : goal.returns
returns g c =
    let first = c.requires.first in
    let is = first.is in
    let token = c.args.token in
    let badge = c.into_badge.result in
    new_seat g.S.Chronicle.is_legal token.table_id badge.table_id token.me.0 badge.views c.args.number c.into_badge.ensures.0 c.into_badge.ensures.2 (ap (λ m. m.0.number) is) c.requires.number first.is_legal first.unused (ap (λ m. m.0.own) is)
    (ap (λ m. m.0.holds) is)
