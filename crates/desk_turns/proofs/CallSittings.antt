-- What a turn that was taken and given back comes to for the seat.
use Rattle.std.proofs.Common.{◌≡◌, ◌≢◌, ◌⊎◌, inl, inr, ⊎_elim, ◌≤◌, ◌<◌, ◌+◌, ◌-◌, ◌^◌, ℕ, Bool, List, [], ◌∷◌, ◌++◌, refl, sym, ap, ◌∙◌, subst, arith}
use Rattle.std.proofs.lemmas.List.{map-append}
use mathlib.Core.Logic.{dite}
use native.Mathlib.Decide.{dec_le}
use Rattle.octets.specs.Causes.{one_more}
use Rattle.desk_turns.specs.Histories.{Begins, History, Member, tagged, with_member}
use Rattle.desk_turns.specs.Seats.{LeavesWithOne, Sitting, TakesTurn, given_back, mine}
use Rattle.desk_turns.proofs.Lists.{begins_one_more, begins_through, tagged_other, tagged_own}
use Rattle.pushes.specs.declared.rows.Row.{Row}
use Rattle.desk_turns.specs.Legal.{row_of, rows, rows_of}
use Rattle.desk_turns.specs.Shops.{AddsOne}
use Rattle.desk_turns.specs.Calls.{Enters, HasFault, IsDone, OnlySees, Returns}

-- the same seat, later, in the turn
pub record IsAhead (old mid : Sitting) : Type 0 where
  pub same_turn : mid.turn ≡ old.turn
  pub same_number : mid.number ≡ old.number
  pub later : Begins old.seen mid.seen
  pub mine_same : mine mid ≡ mine old
  pub own_more : old.own ≤ mid.own

pub took_ahead : (faults : ℕ) (old mid : Sitting) → TakesTurn faults old mid → IsAhead old mid
took_ahead faults old mid took =
    let own : mid.own ≡ old.own = ap (λ (s : Sitting). s.own) took.is in record {
      same_turn = ap (λ (s : Sitting). s.turn) took.is;
      same_number = ap (λ (s : Sitting). s.number) took.is;
      later = took.later;
      mine_same = took.mine_same;
      own_more = omega (arith, own);
    }

-- ---- counts of faults

rises : (own before at now : ℕ) → before ≤ at → now ≡ one_more at → (own < own + (now - before)) ⊎ (now ≡ 2 ^ 64 - 1)
rises own before at now le e =
    dite (dec_le (at + 1) (2 ^ 64 - 1)) (λ less. let n : now ≡ at + 1 = omega (arith, e, less) in inl (omega (arith, n, le))) (λ more. inr (omega (arith, e, more)))

-- a fault that was counted in the turn is the seat's own
pub fault_rose : (old mid new : Sitting) (seen : History) (at now : ℕ) → old.own ≤ mid.own → mid.faults ≤ at → now ≡ one_more at → new ≡ given_back now seen mid → HasFault old new
fault_rose old mid new seen at now more le e is =
    let own : new.own ≡ mid.own + (now - mid.faults) = ap (λ (s : Sitting). s.own) is in
    let counted : new.faults ≡ now = ap (λ (s : Sitting). s.faults) is in
    ⊎_elim (λ lt. inl (omega (arith, own, more, lt))) (λ end. inr (counted ∙ end)) (rises mid.own mid.faults at now le e)

-- ---- one member more

abbrev head_or : {A : Type 0} → A → List A → A
head_or d [] = d
head_or d (x ∷ xs) = x

abbrev tail_of : {A : Type 0} → List A → List A
tail_of [] = []
tail_of (x ∷ xs) = xs

last_same : {A : Type 0} (l : List A) (a b : A) → l ++ a ∷ [] ≡ l ++ b ∷ [] → a ≡ b
last_same [] a b e = ap (head_or a) e
last_same (x ∷ xs) a b e = last_same xs a b (ap tail_of e)

row_same : (ms : List Member) (a b : Member) → rows_of (ms ++ a ∷ []) ≡ rows_of (ms ++ b ∷ []) → row_of a ≡ row_of b
row_same ms a b e = last_same (rows_of ms) (row_of a) (row_of b) (sym (map-append row_of ms (a ∷ [])) ∙ e ∙ map-append row_of ms (b ∷ []))

module _ {S : Type 0} (legal : History → Type 0) (stands : S → History → Type 0) (counted : S → ℕ) (one_log : (shop : S) (a b : History) → stands shop a → stands shop b → rows a ≡ rows b) where
  module _ (shop : S) (id : List ℕ) (seat : ℕ) (old mid new : Sitting) (ahead : IsAhead old mid) (adds : AddsOne stands shop mid.seen id seat) (leave : LeavesWithOne stands counted shop mid new) where
    seen_is : new.seen ≡ with_member mid.seen leave.member
    seen_is = ap (λ (s : Sitting). s.seen) leave.is

    rows_are : rows_of (mid.seen.members ++ leave.member ∷ []) ≡ rows_of (mid.seen.members ++ adds.member ∷ [])
    rows_are = ap rows (sym seen_is) ∙ one_log shop new.seen (with_member mid.seen adds.member) leave.is_state adds.is_state

    row_is : row_of leave.member ≡ row_of adds.member
    row_is = row_same mid.seen.members leave.member adds.member rows_are

    id_is : leave.member.id ≡ id
    id_is = ap (λ (r : Row). r.id) row_is ∙ adds.id_is

    seat_is : leave.member.seat ≡ seat
    seat_is = ap (λ (r : Row). r.seat) row_is ∙ adds.seat_is

    pub returned : legal new.seen → Returns legal old new
    returned legal_now =
        let own : new.own ≡ mid.own + (counted shop - mid.faults) = ap (λ (s : Sitting). s.own) leave.is in
        let more = ahead.own_more in record {
          same_turn = ap (λ (s : Sitting). s.turn) leave.is ∙ ahead.same_turn;
          same_number = ap (λ (s : Sitting). s.number) leave.is ∙ ahead.same_number;
          idle = ap (λ (s : Sitting). s.holds) leave.is;
          later = begins_through old.seen mid.seen new.seen ahead.later (subst (Begins mid.seen) (sym seen_is) (begins_one_more mid.seen leave.member));
          is_legal = λ was. legal_now;
          own_more = omega (arith, own, more);
        }

    mine_is : mine new ≡ tagged mid.number (mid.seen.members ++ leave.member ∷ [])
    mine_is = ap mine leave.is

    -- a member of nobody is not the seat's
    pub nobodys : seat ≡ 0 → 0 < mid.number → mine new ≡ mine old
    nobodys zero some =
        let apart : leave.member.seat ≢ mid.number = (λ same. let is = seat_is in absurd (omega (arith, is, zero, some, same))) in
        mine_is ∙ tagged_other mid.number mid.seen.members leave.member apart ∙ ahead.mine_same

    pub own_one : seat ≡ mid.number → IsDone mid.seen id old new
    own_one own =
        let same : leave.member.seat ≡ mid.number = seat_is ∙ own in record {
          more = record { member = leave.member; id_is = id_is; seat_is = same ∙ ahead.same_number; is = seen_is };
          mine_more = mine_is ∙ tagged_own mid.number mid.seen.members leave.member same ∙ (λ i. ahead.mine_same i ++ id_is i ∷ []);
        }

  -- the entry in doubt was taken in
  pub took_in : (shop : S) (id : List ℕ) (old mid new : Sitting) → IsAhead old mid → 0 < mid.number → AddsOne stands shop mid.seen id 0 → LeavesWithOne stands counted shop mid new → legal new.seen → OnlySees legal old new
  took_in shop id old mid new ahead some adds leave legal_now =
      record { returns = returned shop id 0 old mid new ahead adds leave legal_now; mine_same = nobodys shop id 0 old mid new ahead adds leave refl some }

-- ---- entering

module _ {S : Type 0} (stands : S → History → Type 0) (in_doubt : S → Bool) (counted : S → ℕ) where
  pub enters_ahead : (shop : S) (old mid : Sitting) → Enters stands in_doubt counted shop old mid → IsAhead old mid
  enters_ahead shop old mid is =
      record { same_turn = is.same_turn; same_number = is.same_number; later = is.later; mine_same = is.mine_same; own_more = is.own_more }
