use Rattle.std.proofs.Common.{◌≡◌, ◌<◌, ◌+◌, ℕ, [], ◌∷◌, ◌++◌, length, sym, ap, ◌∙◌, subst, refl, arith, length-append}
use Rattle.desk_turns.specs.Seats.{IsNew, AreNew}
use Rattle.desk_turns.specs.Steps.{IsFirst}
use Rattle.desk_turns.proofs.Sittings.{no_seats, new_push, all_idle}
use Rattle.desk_turns.proofs.turns.Turn.new.Goals as goal

pub first_look-requires : goal.first_look-requires
first_look-requires g c = let e = c.in_ok-board.ensures in record { table = (e.1, e.0); me = e.2 }

pub seats-init : goal.seats-init
seats-init g c =
    let e = c.in_ok-board.ensures in record {
      table = c.first_look.ensures.table ∙ e.1;
      words = e.0;
      first = c.first_look.ensures.first;
      count = ap (λ l. length l + 1) c.new-given.ensures.items;
      each = no_seats g.S.Chronicle.is_legal c.in_ok-board.board.shared.table_id c.new-given.result.items c.new-given.ensures.items;
    }

pub next_seat-seat-requires : goal.next_seat-seat-requires
next_seat-seat-requires g c = let i = c.seats.invariant in record { table = (i.table, i.words); number = c.seats.auto.number; first = i.first }

pub seats-preserved : goal.seats-preserved
seats-preserved g c =
    let legal = g.S.Chronicle.is_legal in
    let i = c.seats.invariant in
    let items = c.in_ok-push.ensures.items in
    let seat = c.next_seat-seat.result in
    let t = c.in_ok-board.board.shared.table_id in
    let new : IsNew legal t c.seats.number seat = subst (λ u. IsNew legal u c.seats.number seat) i.table c.next_seat-seat.ensures.seat in
    let longer = length-append c.seats.given.items (seat ∷ []) in
    let n = ap length items in record {
      table = c.next_seat-seat.ensures.table ∙ i.table;
      words = i.words;
      first = c.next_seat-seat.ensures.first;
      count = omega (arith, n, longer, i.count);
      each = subst (λ l. AreNew legal t l) (sym items) (new_push legal t c.seats.given.items seat c.seats.number (sym i.count) i.each new);
    }

pub last_seat-seat-requires : goal.last_seat-seat-requires
last_seat-seat-requires g c =
    let i = c.seats.invariant in
    let at : c.seats.number ≡ c.args.seats = omega (arith, c.seats-test.false, c.seats.auto.number-end c.requires.seats) in
    record { number = c.requires.seats; first = subst (λ n. IsFirst g.S.Chronicle.is_legal n c.seats.token.me) at i.first }

pub invariant_of-result : goal.invariant_of-result
invariant_of-result g c = c.seats.invariant.words

pub returns : goal.returns
returns g c =
    let legal = g.S.Chronicle.is_legal in
    let i = c.seats.invariant in
    let items = c.in_ok-push-2.ensures.items in
    let seat = c.last_seat-seat.result in
    let t = c.in_ok-board.board.shared.table_id in
    let at : c.seats.number ≡ c.args.seats = omega (arith, c.seats-test.false, c.seats.auto.number-end c.requires.seats) in
    let new : IsNew legal t c.args.seats seat = subst (λ u. IsNew legal u c.args.seats seat) i.table c.last_seat-seat.ensures in
    let longer = length-append c.seats.given.items (seat ∷ []) in
    let n = ap length items in
    let all : AreNew legal t c.push-2.new.self.items = subst (λ l. AreNew legal t l) (sym items) (new_push legal t c.seats.given.items seat c.args.seats (sym at ∙ sym i.count) i.each new) in record {
      count = omega (arith, n, longer, i.count, at);
      seats = all;
      idle = all_idle legal t c.push-2.new.self.items all;
    }
