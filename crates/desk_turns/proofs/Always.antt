-- What holds of a turn at every moment, and of whole runs of a seat.
use Rattle.std.proofs.Common.{◌≡◌, ◌⊎◌, ◌↔◌, inl, inr, ⊎_elim, ℕ, ◌+◌, ◌-◌, ◌*◌, ◌<◌, ◌≤◌, Bool, true, false, List, [], ◌∷◌, ◌++◌}
use Rattle.std.proofs.Common.{Some, None, Option as Maybe, refl, sym, ap, ◌∙◌, subst, arith, append-nil, append_assoc}
use mathlib.Core.Logic.{dite}
use mathlib.Core.Option.{Option, some}
use native.Mathlib.Decide.{dec_le}
use lib.ListN.{get_elem?}
use Rattle.atomic_table.specs.Table.{State}
use Rattle.desk_turns.specs.Histories.{History, Member, count, with_member, Begins, tagged, longer}
use Rattle.desk_turns.specs.Seats.{Sitting, mine, SeesMore, TakesTurn, LeavesWithOne, given_back}
use Rattle.desk_turns.specs.Runs.{IsLater, end_of, IsCall, IsRun, NothingIsTakenBack, OwnRises, LongerOfTwo}
use Rattle.desk_turns.specs.Views.{View}
use Rattle.desk_turns.specs.Rule.{word_of, Agrees, Kept}
use Rattle.desk_turns.specs.Moments.{HasState, FreeTurn, HasHistory, OneHistory, NoFork}
use Rattle.desk_turns.proofs.Lists.{begins_itself, begins_through, begins_one_more, tagged_append, begins_longer, begin_longer, of_longer}

same_seat : (s : Sitting) → IsLater s s
same_seat s = record {
  same_turn = refl;
  same_number = refl;
  later = begins_itself s.seen;
  added = [];
  mine_more = sym (append-nil (mine s));
  own_more = omega arith;
}

then_later : (a b c : Sitting) → IsLater a b → IsLater b c → IsLater a c
then_later a b c ab bc = record {
  same_turn = bc.same_turn ∙ ab.same_turn;
  same_number = bc.same_number ∙ ab.same_number;
  later = begins_through a.seen b.seen c.seen ab.later bc.later;
  added = ab.added ++ bc.added;
  mine_more = bc.mine_more ∙ (ap (λ l. l ++ bc.added) ab.mine_more ∙ append_assoc (mine a) ab.added bc.added);
  own_more = let x = ab.own_more in let y = bc.own_more in omega (arith, x, y);
}

no_less : (a b : ℕ) → b ≡ a → a ≤ b
no_less a b e = omega (arith, e)

module _ {S : Type 0} (legal : History → Type 0) (stands : S → History → Type 0) (counted : S → ℕ) (old new : Sitting) where
  sees_later : SeesMore legal old new → IsLater old new
  sees_later m = record {
    same_turn = ap (λ (s : Sitting). s.turn) m.is;
    same_number = ap (λ (s : Sitting). s.number) m.is;
    later = m.later;
    added = [];
    mine_more = m.mine_same ∙ sym (append-nil (mine old));
    own_more = no_less old.own new.own (ap (λ (s : Sitting). s.own) m.is);
  }

  takes_later : (n : ℕ) → TakesTurn n old new → IsLater old new
  takes_later n m = record {
    same_turn = ap (λ (s : Sitting). s.turn) m.is;
    same_number = ap (λ (s : Sitting). s.number) m.is;
    later = m.later;
    added = [];
    mine_more = m.mine_same ∙ sym (append-nil (mine old));
    own_more = no_less old.own new.own (ap (λ (s : Sitting). s.own) m.is);
  }

  leaves_with_later : (state : S) → LeavesWithOne stands counted state old new → IsLater old new
  leaves_with_later state m = record {
    same_turn = ap (λ (s : Sitting). s.turn) m.is;
    same_number = ap (λ (s : Sitting). s.number) m.is;
    later = subst (λ (h : History). Begins old.seen h) (sym (ap (λ (s : Sitting). s.seen) m.is)) (begins_one_more old.seen m.member);
    added = tagged old.number (m.member ∷ []);
    mine_more = ap mine m.is ∙ tagged_append old.number old.seen.members (m.member ∷ []);
    own_more = let e : new.own ≡ old.own + (counted state - old.faults) = ap (λ (s : Sitting). s.own) m.is in omega (arith, e);
  }

  leaves_later : (n : ℕ) → new ≡ given_back n old.seen old → IsLater old new
  leaves_later n is = record {
    same_turn = ap (λ (s : Sitting). s.turn) is;
    same_number = ap (λ (s : Sitting). s.number) is;
    later = subst (λ (h : History). Begins old.seen h) (sym (ap (λ (s : Sitting). s.seen) is)) (begins_itself old.seen);
    added = [];
    mine_more = ap mine is ∙ sym (append-nil (mine old));
    own_more = let e : new.own ≡ old.own + (n - old.faults) = ap (λ (s : Sitting). s.own) is in omega (arith, e);
  }

  call_later : IsCall legal stands counted old new → IsLater old new
  call_later (inl sees) = sees_later sees
  call_later (inr (inl takes)) = takes_later (counted takes.0) takes.1
  call_later (inr (inr (inl leaves))) = leaves_with_later leaves.0 leaves.1
  call_later (inr (inr (inr leaves))) = leaves_later (counted leaves.0) leaves.1

module _ {S : Type 0} (legal : History → Type 0) (stands : S → History → Type 0) (counted : S → ℕ) where
  pub never_back : (s : Sitting) (run : List Sitting) → IsRun legal stands counted s run → IsLater s (end_of s run)
  never_back s [] r = same_seat s
  never_back s (t ∷ ts) r = then_later s t (end_of t ts) (call_later legal stands counted s t r.0) (never_back t ts r.1)

pub rises_by : (own before now : ℕ) → before ≤ now → (own < own + (now - before)) ↔ (before < now)
rises_by own before now le = (λ lt. omega (arith, lt, le), λ lt. omega (arith, lt, le))

pub own_rises : OwnRises
own_rises s faults seen le = rises_by s.own s.faults faults le

pub longer_of_two : LongerOfTwo
longer_of_two a b h ah bh =
    let both = begin_longer a b h ah bh in
    (both.0, both.1, of_longer (λ (x : History). (x ≡ a) ⊎ (x ≡ b)) a b (inl refl) (inr refl))

abbrev head_or : ℕ → List ℕ → ℕ
head_or d [] = d
head_or d (x ∷ xs) = x

abbrev tail_of : List ℕ → List ℕ
tail_of [] = []
tail_of (x ∷ xs) = xs

module _ {S : Type 0} (legal : History → Type 0) (stands : S → History → Type 0) (faults : S → ℕ) where
  at_home : (log : History) (taken out : Bool) (holder counted : ℕ) (homes : List (Option (Maybe S))) (views : List View)
      → Agrees legal stands faults log taken out holder counted homes views → (half told : ℕ) → 2 * half ≡ word_of log taken → told ≡ counted
      → HasState legal stands faults half told homes
  at_home log true out holder counted homes views t half told e same = absurd (omega (arith, e))
  at_home log false out holder counted homes views t half told e same =
      let home = t.home in record {
        state = home.0;
        history = log;
        at_home = home.1;
        is_state = home.2;
        is_legal = t.is_legal;
        length = omega (arith, e);
        counts = same ∙ home.3;
      }

  pub free_turn : FreeTurn legal stands faults
  free_turn s kept half counted words =
      let e : 2 * half ∷ counted ∷ [] ≡ word_of kept.0 kept.1 ∷ kept.4 ∷ [] = sym words ∙ kept.5 in
      at_home kept.0 kept.1 kept.2 kept.3 kept.4 s.homes s.views kept.6 half counted (ap (head_or 0) e) (ap (λ (l : List ℕ). head_or 0 (tail_of l)) e)

  pub one_history : OneHistory legal stands faults
  one_history s kept = record {
    history = kept.0;
    is_legal = kept.6.is_legal;
    seen = λ i v at pos. ((kept.6.fits i v at).seen pos).begins;
    mine = λ i v at pos. (kept.6.fits i v at).mine pos;
  }

  pub no_fork : NoFork legal stands faults
  no_fork s kept i j v w at_i at_j pos_v pos_w =
      let a = ((kept.6.fits i v at_i).seen pos_v).begins in
      let b = ((kept.6.fits j w at_j).seen pos_w).begins in
      dite (dec_le (count v.seen) (count w.seen)) (λ le. inl (begins_longer v.seen w.seen kept.0 a b le))
      (λ more. inr (begins_longer w.seen v.seen kept.0 b a (omega (arith, more))))
