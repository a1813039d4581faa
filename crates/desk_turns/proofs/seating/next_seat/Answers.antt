use Rattle.std.proofs.Common.{◌≡◌, ◌<◌, ◌+◌, [], false, true, sym, ap, ◌∙◌, subst, refl, arith}
use Rattle.desk_turns.specs.Histories.{tagged}
use Rattle.desk_turns.specs.Views.{nobody}
use Rattle.desk_turns.proofs.Moves.{split_moves}
use Rattle.desk_turns.proofs.Sittings.{new_seat, is_seat}
use Rattle.desk_turns.proofs.seating.next_seat.Goals as goal

pub split_seat-next-requires : goal.split_seat-next-requires
split_seat-next-requires g c =
    let C = g.S.Chronicle in
    let token = c.args.token.now in
    let is = c.requires.first.is in (
      c.requires.table.0,
      omega (arith, c.requires.table.1),
      split_moves C.is_legal C.stands C.counted c.args.board.now.shared.table_id.slots token.id token.me.0 (subst (λ m. 0 < m.0.number) (sym is) c.requires.number) (ap (λ m. m.0.makes) is) (ap (λ m. m.0.holds) is),
    )

pub invariant_of-result : goal.invariant_of-result
invariant_of-result g c =
    let split = c.split_seat-next.ensures in
    let is = c.requires.first.is in
    is_seat _ c.split_seat-next.result.me.0 c.into_badge.ensures.2 (sym (ap (λ m. m.0.number) is) ∙ ap (λ m. m.0.number) (sym split.4)) c.requires.number (ap (λ m. m.0.out) split.4 ∙ ap (λ m. m.0.out) is)

pub returns : goal.returns
returns g c =
    let C = g.S.Chronicle in
    let token = c.args.token.now in
    let split = c.split_seat-next.ensures in
    let first = c.requires.first in
    let is = first.is in
    let next = c.split_seat-next.result in
    let badge = c.into_badge.result in
    let seen = ap (λ m. m.0.seen) split.4 in
    let left = split.2 ∙ ap (λ m. (record m.0 { number = m.0.number + 1 }, m.1)) is in
    let left_seen = ap (λ m. m.0.seen) split.2 in record {
      table = split.0;
      first = record {
        is = left ∙ (λ i. (record (nobody true) { number = c.args.number + 1; seen = sym left_seen i; told = sym left_seen i }, []));
        is_legal = subst (λ h. C.is_legal h) (sym left_seen) first.is_legal;
        unused = λ k pos. ap (λ h. tagged k h.members) left_seen ∙ first.unused k pos;
      };
      seat = new_seat C.is_legal token.table_id badge.table_id next.me.0 badge.views c.args.number (c.into_badge.ensures.0 ∙ split.3) c.into_badge.ensures.2 (ap (λ m. m.0.number) split.4 ∙ ap (λ m. m.0.number) is) c.requires.number
          (subst (λ h. C.is_legal h) (sym seen) first.is_legal) (λ k pos. ap (λ h. tagged k h.members) seen ∙ first.unused k pos) (ap (λ m. m.0.own) split.4 ∙ ap (λ m. m.0.own) is) (ap (λ m. m.0.holds) split.4 ∙ ap (λ m. m.0.holds) is);
    }
