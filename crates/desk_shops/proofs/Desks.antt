-- A shop as what a desk asks, and the desk's relation between what a seat has seen.
use Rattle.std.proofs.Common.{◌≡◌, ◌+◌, ◌++◌, ◌∷◌, [], ℕ, true, true≢false, List, length, Some, None, refl, sym, ap, ◌∙◌}
use Rattle.std.specs.Option.{is_some}
use Rattle.std.proofs.lemmas.List.{length-map, map-append}
use Rattle.git_object.specs.Repository.{Repository}
use Rattle.keeper_api.specs.declared.keepers.Keeper as keeper
use Rattle.pushes.specs.declared.pushed.Push.{Push}
use Rattle.desk_turns.specs.Histories.{History}
use Rattle.desk_turns.specs.Seats.{Sitting}
use Rattle.pushes.specs.declared.replies.Reply.{Reply}
use Rattle.pushes.specs.declared.replies.Reply.TheVariants as reply_
use Rattle.desk_turns.specs.Laws.{IsToldReply}
use Rattle.desk_turns.specs.States.{Desk, Steps, is_fault}
use Rattle.desk_turns.specs.declared.settled.Settled.{Settled}
use Rattle.desk_turns.specs.declared.settled.Settled.TheVariants as settled_
use Rattle.desk_turns.specs.Legal.{last, row_of, rows}
use Rattle.desk_turns.specs.Calls.{IsAnswered, IsOneMore}
use Rattle.desk_turns.specs.Shops as desks
use Rattle.desk_shops.specs.Calls.{AddsOne, StandsAfterPush, StandsAfterSettling}
use Rattle.desk_shops.specs.Desks.{IsStepOf, PushIsStep, answers_in, done_reply, stands_in, told_in}
use Rattle.desk_shops.specs.declared.shops.Shop.{Shop}

-- after a push that is done nothing is in doubt
pub done_clear : {R : Type 0} (k : keeper.Ghosts R) (old new : R) (was now : Desk) (push : Push) (seat : ℕ) (reply : Reply) → Steps k old new was now push seat reply → done_reply reply ≡ true → now.doubt ≡ None
done_clear k old new was now push seat (reply_.Done number id) s done = ap (λ (d : Desk). d.doubt) s.state
done_clear k old new was now push seat (reply_.Already number) s done = absurd (true≢false (sym done))
done_clear k old new was now push seat (reply_.Stale number id) s done = absurd (true≢false (sym done))
done_clear k old new was now push seat (reply_.Malformed at) s done = absurd (true≢false (sym done))
done_clear k old new was now push seat (reply_.Incomplete id) s done = absurd (true≢false (sym done))
done_clear k old new was now push seat (reply_.TooLarge size) s done = absurd (true≢false (sym done))
done_clear k old new was now push seat (reply_.Misnumbered number expected) s done = absurd (true≢false (sym done))
done_clear k old new was now push seat (reply_.Moved found expected) s done = absurd (true≢false (sym done))
done_clear k old new was now push seat reply_.Fault s done = absurd (true≢false (sym done))
done_clear k old new was now push seat reply_.Memory s done = absurd (true≢false (sym done))

module _ {R : Type 0} (k : keeper.Ghosts R) (shop : Shop R) (h : History) where
  grows : (id : List ℕ) (seat : ℕ) → AddsOne k shop.keeper shop.state h id seat → desks.AddsOne (stands_in k) shop h id seat
  grows id seat is = record { member = is.member; id_is = is.id_is; seat_is = is.seat_is; few = is.few; is_state = is.stands }

  pub settled_so : (settled : Settled) → StandsAfterSettling k shop.keeper shop.state h settled → desks.StandsSettled (stands_in k) (λ s. is_some s.state.log.doubt) (told_in k) shop h settled
  settled_so settled_.Clear is = (is.0, ap is_some is.1)
  settled_so (settled_.TookIn id) is = grows id 0 is.0
  settled_so (settled_.Moved found expected) is = is
  settled_so settled_.Fault is = is
  settled_so settled_.Memory is = is

  pub pushed_so : (push : Push) (seat : ℕ) (reply : Reply) → StandsAfterPush k shop.keeper shop.state h push seat reply → desks.StandsPushed (stands_in k) (done_reply reply) shop h push.entry.id seat
  pushed_so push seat (reply_.Done number id) is = grows push.entry.id seat is
  pushed_so push seat (reply_.Already number) is = is
  pushed_so push seat (reply_.Stale number id) is = is
  pushed_so push seat (reply_.Malformed at) is = absurd is
  pushed_so push seat (reply_.Incomplete id) is = is
  pushed_so push seat (reply_.TooLarge size) is = absurd is
  pushed_so push seat (reply_.Misnumbered number expected) is = is
  pushed_so push seat (reply_.Moved found expected) is = absurd is
  pushed_so push seat reply_.Fault is = is
  pushed_so push seat reply_.Memory is = is

-- ---- the desk's relation

rows_more : (h more : History) (id : List ℕ) (seat : ℕ) → IsOneMore h id seat more → rows more ≡ rows h ++ record { id = id; seat = seat } ∷ []
rows_more h more id seat is =
    ap rows is.is ∙ map-append row_of h.members (is.member ∷ []) ∙ (λ i. rows h ++ record { id = is.id_is i; seat = is.seat_is i } ∷ [])

module _ {R : Type 0} (k : keeper.Ghosts R) (tells : (store : R) → (r : Repository) × (k.content store ≡ Some r)) where
  pub is_step : (push : Push) (reply : Reply) (old new : Sitting) → (is : IsAnswered (stands_in k) (told_in k) (answers_in k) done_reply is_fault (λ r. r) push reply old new) → IsToldReply reply
      → IsStepOf k is.before push old.number reply new.seen
  is_step push (reply_.Done number id) old new is told =
      let held = tells is.shop.keeper in
      let made = is.says.made held.0 held.1 in
      let many : number ≡ length (rows is.before) + 1 = is.says.number_is ∙ ap (λ n. n + 1) (sym (length-map is.before.members row_of)) in record {
        was = made.0;
        now = held.0;
        was_last = made.1;
        now_last = is.told_last refl held.0 held.1;
        step = record {
          replies = (made.2.0, many, is.says.id_is);
          log_is = rows_more is.before new.seen push.entry.id old.number is.done.more;
          repository_is = made.2.1;
        };
      }
  is_step push (reply_.Already number) old new is told =
      let held = tells is.shop.keeper in
      let at = is.says.last_is held.0 held.1 in record {
        was = held.0;
        now = held.0;
        was_last = at;
        now_last = ap last is.done.same ∙ at;
        step = record { replies = is.says.why; log_is = ap rows is.done.same; repository_is = refl };
      }
  is_step push (reply_.Stale number id) old new is told =
      let held = tells is.shop.keeper in
      let at = is.says.last_is held.0 held.1 in record {
        was = held.0;
        now = held.0;
        was_last = at;
        now_last = ap last is.done.same ∙ at;
        step = record { replies = is.says.why; log_is = ap rows is.done.same; repository_is = refl };
      }
  is_step push (reply_.Malformed at) old new is told = absurd is.says
  is_step push (reply_.Incomplete id) old new is told =
      let held = tells is.shop.keeper in
      let at = is.says.last_is held.0 held.1 in record {
        was = held.0;
        now = held.0;
        was_last = at;
        now_last = ap last is.done.same ∙ at;
        step = record { replies = (is.says.why.0, is.says.why.2 held.0 held.1); log_is = ap rows is.done.same; repository_is = refl };
      }
  is_step push (reply_.TooLarge size) old new is told = absurd is.says
  is_step push (reply_.Misnumbered number expected) old new is told =
      let held = tells is.shop.keeper in
      let at = is.says.last_is held.0 held.1 in record {
        was = held.0;
        now = held.0;
        was_last = at;
        now_last = ap last is.done.same ∙ at;
        step = record { replies = is.says.why; log_is = ap rows is.done.same; repository_is = refl };
      }
  is_step push (reply_.Moved found expected) old new is told = absurd is.says
  is_step push reply_.Fault old new is told = absurd told
  is_step push reply_.Memory old new is told = absurd told

pub push_is_step : {R : Type 0} (k : keeper.Ghosts R) → PushIsStep k
push_is_step k tells = is_step k tells
