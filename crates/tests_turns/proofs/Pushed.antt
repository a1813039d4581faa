-- A turn taken, a step of the shop, and a turn given back, put together.
use Rattle.std.proofs.Common.{◌≡◌, ◌⊎◌, inl, inr, ◌≤◌, ◌<◌, ◌+◌, ◌-◌, ◌^◌, ℕ, min, true, false, true≢false, List, [], ◌∷◌, ◌++◌, map, length, Ok, Err, Some, None, refl, sym, ap, ◌∙◌, subst, arith, length-append}
use Rattle.std.specs.Prelude.{Option, Result, Bool, if◌then◌else◌, IfOk, OnErr, IsErrOf, is_ok, is_none}
use Rattle.std.proofs.lemmas.List.{map-append}
use mathlib.Core.Logic.{dite}
use native.Mathlib.Decide.{dec_le}
use Rattle.octets.specs.Causes.{HasCause, one_more}
use Rattle.git_object.specs.Repository.{Repository}
use Rattle.desk_turns.specs.Histories.{History, Member, with_member, count, Begins, tagged}
use Rattle.desk_turns.specs.Seats.{Sitting, mine, TakesTurn, LeavesWithOne, given_back}
use Rattle.desk_turns.proofs.Lists.{tagged_own, begins_through}
use Rattle.tests_turns.specs.Legal.{Legal, marks}
use Rattle.tests_turns.specs.Shops.{Stands, AddsOne, Answers, follows, refused_first, shop_failed, is_of_store}
use Rattle.tests_turns.specs.Pushes.{OnlySees, IsDone, IsStale, IsPushed}
use Rattle.tests_turns.specs.declared.shops.Shop.{Shop}
use Rattle.tests_turns.specs.declared.shops.Refusal.{Refusal}
use Rattle.tests_turns.specs.declared.shops.Refusal.TheVariants.{InDoubt, Stale, Fault, Memory}

abbrev head_or : {A : Type 0} → A → List A → A
head_or d [] = d
head_or d (x ∷ xs) = x

abbrev tail_of : {A : Type 0} → List A → List A
tail_of [] = []
tail_of (x ∷ xs) = xs

last_same : {A : Type 0} (l : List A) (a b : A) → l ++ a ∷ [] ≡ l ++ b ∷ [] → a ≡ b
last_same [] a b e = ap (head_or a) e
last_same (x ∷ xs) a b e = last_same xs a b (ap tail_of e)

rises : (own before now : ℕ) → now ≡ one_more before → (own < own + (now - before)) ⊎ (now ≡ 2 ^ 64 - 1)
rises own before now e =
    dite (dec_le (before + 1) (2 ^ 64 - 1)) (λ le. let n : now ≡ before + 1 = omega (arith, e, le) in inl (omega (arith, n))) (λ more. inr (omega (arith, e, more)))

no_error : {n : ℕ} {e : Refusal} → Ok n ≡ Err e → ⊥
no_error e = true≢false (ap is_ok e)

abbrev error_of : Result ℕ Refusal → Refusal
error_of (Ok number) = Memory
error_of (Err refusal) = refusal

abbrev is_stale : Refusal → Bool
is_stale (Stale number) = true
is_stale refusal = false

abbrev number_of : Refusal → ℕ
number_of (Stale number) = number
number_of refusal = 0

-- where nothing is refused first, nothing is in doubt
pub clean_of : (clean : Bool) (length : ℕ) (after : Option ℕ) → None ≡ refused_first clean length after → clean ≡ true
clean_of false length after e = absurd (true≢false (ap is_none e))
clean_of true length after e = refl

follows_if : (after : Option ℕ) (length number : ℕ) (b : Bool) → follows after length ≡ b → Answers (if b then None else Some (Stale length)) (Ok number) → follows after length ≡ true
follows_if after length number true is e = is
follows_if after length number false is e = absurd (no_error e)

-- an entry that was added comes after what it was to come after
follows_of : (clean : Bool) (length : ℕ) (after : Option ℕ) (number : ℕ) → Answers (refused_first clean length after) (Ok number) → follows after length ≡ true
follows_of false length after number e = absurd (no_error e)
follows_of true length after number e = follows_if after length number (follows after length) refl e

stale_if : (after : Option ℕ) (length number : ℕ) (b : Bool) → follows after length ≡ b → Answers (if b then None else Some (Stale length)) (Err (Stale number))
    → (number ≡ length) × (follows after length ≡ false)
stale_if after length number true is e = absurd (true≢false (sym e))
stale_if after length number false is e = (ap number_of (ap error_of e), is)

-- an answer that the entry is stale has the length, which is not what the entry was to come after
stale_of : (clean : Bool) (length : ℕ) (after : Option ℕ) (number : ℕ) → Answers (refused_first clean length after) (Err (Stale number))
    → (number ≡ length) × (follows after length ≡ false)
stale_of false length after number e = absurd (true≢false (ap is_stale (ap error_of e)))
stale_of true length after number e = stale_if after length number (follows after length) refl e

module _ {R : Type 0} (content : R → Option Repository) (faults : R → ℕ) (after : Option ℕ) (id : List ℕ) (old mid new : Sitting) (before : ℕ) (take : TakesTurn before old mid) (clean : Bool) (shop : Shop R) where
  number_same : mid.number ≡ old.number
  number_same = ap (λ (s : Sitting). s.number) take.is

  pub pushed : (number : ℕ) → Answers (refused_first clean (count mid.seen) after) (Ok number) → AddsOne content faults mid.seen mid.number id shop number → LeavesWithOne (Stands content faults) (λ s. faults s.keeper) shop mid new → IsPushed after id (Ok number) old new
  pushed number answer add leave =
      let m = leave.member in
      let is = leave.is in
      let seen : new.seen ≡ with_member mid.seen m = ap (λ (s : Sitting). s.seen) is in
      let number_is : new.number ≡ old.number = ap (λ (s : Sitting). s.number) is ∙ number_same in
      let said : marks new.seen.members ≡ marks mid.seen.members ++ (id, mid.number) ∷ [] =
      leave.is_state.logs ∙ (sym add.stands.logs ∙ (map-append (λ (x : Member). (x.id, x.seat)) mid.seen.members (add.member ∷ []) ∙ (λ i. marks mid.seen.members ++ (add.is i, add.by i) ∷ []))) in
      let marked : marks new.seen.members ≡ marks mid.seen.members ++ (m.id, m.seat) ∷ [] = ap (λ (h : History). marks h.members) seen ∙ map-append (λ (x : Member). (x.id, x.seat)) mid.seen.members (m ∷ []) in
      let same : (m.id, m.seat) ≡ (id, mid.number) = last_same (marks mid.seen.members) (m.id, m.seat) (id, mid.number) (sym marked ∙ said) in
      let by : m.seat ≡ mid.number = ap (λ (x : List ℕ × ℕ). x.1) same in
      let was : m.id ≡ id = ap (λ (x : List ℕ × ℕ). x.0) same in
      let more : tagged mid.number (mid.seen.members ++ m ∷ []) ≡ tagged mid.number mid.seen.members ++ m.id ∷ [] = tagged_own mid.number mid.seen.members m by in record {
        same_turn = ap (λ (s : Sitting). s.turn) is ∙ ap (λ (s : Sitting). s.turn) take.is;
        same_number = number_is;
        idle = ap (λ (s : Sitting). s.holds) is;
        later = begins_through old.seen mid.seen new.seen take.later (record { rest = m ∷ []; is = seen });
        is_legal = leave.is_state.is_legal;
        done = record {
          front = marks mid.seen.members;
          ends = said ∙ (λ i. marks mid.seen.members ++ (id, number_same i) ∷ []);
          counted = add.number_is ∙ (sym (length-append mid.seen.members (m ∷ [])) ∙ ap count (sym seen));
          placed = (count mid.seen, add.number_is, follows_of clean (count mid.seen) after number answer);
          mine_more = ap (λ (s : Sitting). tagged s.number s.seen.members) is ∙ (more ∙ (λ i. take.mine_same i ++ was i ∷ []));
        };
        refused = tt;
        stale = λ n e. absurd (no_error e);
        fault = λ e. absurd (no_error e);
      }

  pub refused : (refusal : Refusal) → Answers (refused_first clean (count mid.seen) after) (Err refusal) → Stands content faults shop mid.seen → new ≡ given_back (faults shop.keeper) mid.seen mid → HasCause {T = ℕ} shop_failed before (faults shop.keeper) (Err refusal) → IsPushed after id (Err refusal) old new
  refused refusal answer stands is cause =
      let number_is : new.number ≡ old.number = ap (λ (s : Sitting). s.number) is ∙ number_same in
      let seen : new.seen ≡ mid.seen = ap (λ (s : Sitting). s.seen) is in record {
        same_turn = ap (λ (s : Sitting). s.turn) is ∙ ap (λ (s : Sitting). s.turn) take.is;
        same_number = number_is;
        idle = ap (λ (s : Sitting). s.holds) is;
        later = subst (λ (h : History). Begins old.seen h) (sym seen) take.later;
        is_legal = subst Legal (sym seen) stands.is_legal;
        done = tt;
        refused = ap (λ (s : Sitting). tagged s.number s.seen.members) is ∙ take.mine_same;
        stale = λ number e.
            let at = stale_of clean (count mid.seen) after number (subst (λ (r : Result ℕ Refusal). Answers (refused_first clean (count mid.seen) after) r) e answer) in record {
              counted = at.0 ∙ ap count (sym seen);
              other = ap (follows after) at.0 ∙ at.1;
            };
        fault = λ e.
            let own : new.own ≡ old.own + (faults shop.keeper - before) = ap (λ (s : Sitting). s.own) is ∙ ap (λ (s : Sitting). s.own + (faults shop.keeper - s.faults)) take.is in
            let counted : new.faults ≡ faults shop.keeper = ap (λ (s : Sitting). s.faults) is in
            let more : faults shop.keeper ≡ one_more before = cause.is ∙ ap (λ (r : Refusal). (if shop_failed r then one_more before else before)) (ap error_of e) in
            subst (λ (k : ℕ × ℕ). (old.own < k.0) ⊎ (k.1 ≡ 2 ^ 64 - 1)) (λ i. (sym own i, sym counted i)) (rises old.own before (faults shop.keeper) more);
      }

-- a push after a look
module _ (after : Option ℕ) (id : List ℕ) (old mid new : Sitting) (look : OnlySees old mid) where
  number_of_seat : mid.number ≡ old.number
  number_of_seat = ap (λ (s : Sitting). s.number) look.is

  done_so : (result : Result ℕ Refusal) → IfOk result (λ number. IsDone after id mid new number) → IfOk result (λ number. IsDone after id old new number)
  done_so (Ok number) done = record {
    front = done.front;
    ends = done.ends ∙ (λ i. done.front ++ (id, number_of_seat i) ∷ []);
    counted = done.counted;
    placed = done.placed;
    mine_more = done.mine_more ∙ (λ i. look.mine_same i ++ id ∷ []);
  }
  done_so (Err refusal) done = tt

  refused_so : (result : Result ℕ Refusal) → OnErr result (mine new ≡ mine mid) → OnErr result (mine new ≡ mine old)
  refused_so (Ok number) same = tt
  refused_so (Err refusal) same = same ∙ look.mine_same

  pub looked_first : (result : Result ℕ Refusal) → IsPushed after id result mid new → IsPushed after id result old new
  looked_first result is = record {
    same_turn = is.same_turn ∙ ap (λ (s : Sitting). s.turn) look.is;
    same_number = is.same_number ∙ number_of_seat;
    idle = is.idle;
    later = begins_through old.seen mid.seen new.seen look.later is.later;
    is_legal = is.is_legal;
    done = done_so result is.done;
    refused = refused_so result is.refused;
    stale = is.stale;
    fault = λ e. subst (λ (n : ℕ). (n < new.own) ⊎ (new.faults ≡ 2 ^ 64 - 1)) (ap (λ (s : Sitting). s.own) look.is) (is.fault e);
  }
