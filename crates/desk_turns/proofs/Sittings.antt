-- What a step makes of a seat, as its callers see it.
use Rattle.std.specs.Prelude.{slice_get, All}
use Rattle.std.proofs.lemmas.Option.{slice_get-get_or}
use Rattle.std.proofs.Common.{◌≡◌, ◌⊎◌, inl, inr, ⊎_elim, ℕ, zero, suc, ◌+◌, ◌-◌, ◌^◌, ◌/◌, ◌<◌, Bool, true, false, true≢false, List, [], ◌∷◌, ◌++◌, length, get_or, arith, Some, None, Option as Maybe, refl, sym, ap, ◌∙◌, subst}
use Rattle.atomic_table.specs.Table.{Me}
use Rattle.atomic_table.specs.Seated.{TableId}
use Rattle.desk_turns.specs.Histories.{History, Member, count, with_member, Begins, IsTaggedFor, tagged, longer}
use Rattle.desk_turns.specs.Seats.{Sitting, mine, IsIdle, IsNew, AreNew, SeesMore, TakesTurn, LeavesWithOne, Joined, given_back}
use Rattle.desk_turns.specs.Views.{View, nobody, sitting, having_seen, written, freed}
use Rattle.desk_turns.specs.Steps.{HasLooked, HasMerged, HasTurn, HasLeft, HasTaken, HasGivenBack}
use Rattle.desk_turns.specs.Seated.{view_in, sitting_of, IsSeat}
use Rattle.desk_turns.specs.declared.seats.Seat.TheInside.{Inside}

abbrev unwrap_or' : {A : Type 0} → A → Maybe A → A
unwrap_or' d None = d
unwrap_or' d (Some x) = x

some_same : {A : Type 0} (a b : A) → Some a ≡ Some b → a ≡ b
some_same a b e = ap (unwrap_or' a) e

is_some' : {A : Type 0} → Maybe A → Bool
is_some' None = false
is_some' (Some x) = true

no_some : {A : Type 0} (a : A) → None ≡ Some a → ⊥
unfolding is_some'
no_some a e = true≢false (sym (ap is_some' e))

-- what stands in a list with one more
got_snoc : {A : Type 0} (l : List A) (a b : A) (i : ℕ) → slice_get (l ++ a ∷ []) i ≡ Some b → (slice_get l i ≡ Some b) ⊎ ((i ≡ length l) × (a ≡ b))
got_snoc [] a b zero e = inr (refl, some_same a b e)
got_snoc [] a b (suc i) e = inl e
got_snoc (x ∷ xs) a b zero e = inl e
got_snoc (x ∷ xs) a b (suc i) e = ⊎_elim inl (λ (t : (i ≡ length xs) × (a ≡ b)). inr (omega (arith, t.0), t.1)) (got_snoc xs a b i e)

-- the state that is in the place
abbrev carried_state : {S : Type 0} → S → List (ℕ × Maybe S) → S
carried_state d [] = d
carried_state d ((k, None) ∷ l) = d
carried_state d ((k, Some x) ∷ l) = x

module _ {S : Type 0} (legal : History → Type 0) (stands : S → History → Type 0) (faults : S → ℕ) where
  pub took : (word : ℕ) (before : View) (mid after : Me (Maybe S) View) (state : S) → HasTurn legal stands faults word before mid → mid.1 ≡ (0, Some state) ∷ [] → after ≡ (record mid.0 { out = false }, []) → HasTaken stands faults state before after
  took word before mid after state got slot e =
      let same : got.state ≡ state = ap (carried_state state) (sym got.slot ∙ slot) in
      let seen : after.0.seen ≡ mid.0.seen = ap (λ (m : Me (Maybe S) View). m.0.seen) e in
      let counted : mid.0.faults ≡ faults state = got.counted ∙ ap faults same in record {
        is = e
            ∙ ap (λ (v : View). (record v { out = false }, [])) got.is
            ∙ (λ i. (record before { seen = sym seen i; holds = true; out = false; faults = counted i }, []));
        is_state = subst (λ (h : History). stands state h) (sym seen) (subst (λ (x : S). stands x mid.0.seen) same got.is_state);
        later = subst (λ (h : History). Begins before.seen h) (sym seen) got.later;
        mine = ap (λ (h : History). tagged before.number h.members) seen ∙ got.mine;
        room = subst (λ (h : History). count h < 2 ^ 62) (sym seen) got.room;
      }

  pub gave : (old mid after : Me (Maybe S) View) (state : S) → mid ≡ (written (faults state) old.0, (0, Some state) ∷ []) → HasLeft legal stands faults mid after
      → HasGivenBack stands faults state old after
  gave old mid after state put left =
      let same : left.state ≡ state = ap (carried_state state) (sym left.slot ∙ ap (λ (m : Me (Maybe S) View). m.1) put) in record {
        member = left.member;
        tag = subst (λ (n : ℕ). (left.member.seat ≡ n) ⊎ (left.member.seat ≡ 0)) (ap (λ (m : Me (Maybe S) View). m.0.number) put) left.tag;
        is_state = subst (λ (x : S). stands x after.0.seen) same left.is_state;
        is = left.is ∙ ap (λ (m : Me (Maybe S) View). (freed (having_seen m.0 (with_member m.0.seen left.member)), [])) put;
      }

-- the parts are a seat's again
pub is_seat : (s : Inside) (w : View) → s.badge.views ≡ w ∷ [] → s.number ≡ w.number → 0 < s.number → w.out ≡ false → IsSeat s
is_seat s w e number some home =
    let same : view_in s.badge.views ≡ w = ap view_in e in record {
      one = e ∙ ap (λ (v : View). v ∷ []) (sym same);
      number = number ∙ ap (λ (v : View). v.number) (sym same);
      some = some;
      home = ap (λ (v : View). v.out) same ∙ home;
    }

module _ (t u : TableId) (v w : View) (vs : List View) (table : u ≡ t) (one : vs ≡ w ∷ []) where
  now : sitting u (view_in vs) ≡ sitting t w
  now = λ i. sitting (table i) (ap view_in one i)

  pub sees_more : (legal : History → Type 0) → sitting t w ≡ sitting t (having_seen v w.seen) → Begins v.seen w.seen → legal w.seen → tagged v.number w.seen.members ≡ tagged v.number v.seen.members → SeesMore legal (sitting t v) (sitting u (view_in vs))
  sees_more legal is later ok own =
      subst (λ (s : Sitting). SeesMore legal (sitting t v) s) (sym now)
      (record { is = is; later = later; is_legal = ok; mine_same = ap (λ (x : Sitting). tagged x.number w.seen.members) is ∙ own })

  pub takes_turn : (n : ℕ) → w ≡ record v { seen = w.seen; holds = true; out = false; faults = n } → Begins v.seen w.seen → tagged v.number w.seen.members ≡ tagged v.number v.seen.members → TakesTurn n (sitting t v) (sitting u (view_in vs))
  takes_turn n is later own =
      subst (λ (s : Sitting). TakesTurn n (sitting t v) s) (sym now)
      (record {
        is = λ i. record { turn = t; number = (is i).number; seen = w.seen; own = (is i).own; holds = (is i).holds; faults = (is i).faults };
        later = later;
        mine_same = ap (λ (x : View). tagged x.number w.seen.members) is ∙ own;
      })

  pub leaves : (n : ℕ) → w ≡ record v { own = v.own + (n - v.faults); holds = false; out = false; faults = n } → sitting u (view_in vs) ≡ given_back n v.seen (sitting t v)
  leaves n is = now ∙ ap (sitting t) is

  pub leaves_with : {S : Type 0} (stands : S → History → Type 0) (faults : S → ℕ) (state : S) (m : Member) → IsTaggedFor v.number m
      → w ≡ freed (written (faults state) (having_seen v (with_member v.seen m))) → stands state w.seen → LeavesWithOne stands faults state (sitting t v) (sitting u (view_in vs))
  leaves_with stands faults state m tag is stand = record {
    member = m;
    tag = tag;
    is = now ∙ ap (sitting t) is;
    is_state = subst (λ (s : Sitting). stands state s.seen) (sym now) stand;
  }

-- a seat that was just split off
pub new_seat : (legal : History → Type 0) (t u : TableId) (w : View) (vs : List View) (n : ℕ) → u ≡ t → vs ≡ w ∷ [] → w.number ≡ n → 0 < n → legal w.seen → ((k : ℕ) → 0 < k → tagged k w.seen.members ≡ []) → w.own ≡ 0 → w.holds ≡ false
    → IsNew legal t n (sitting u (view_in vs))
new_seat legal t u w vs n table one number pos ok unused own idle =
    subst (λ (s : Sitting). IsNew legal t n s) (λ i. sitting (sym table i) (sym (ap view_in one) i))
    (record { of = refl; counted = number; is_legal = ok; mine_none = unused w.number (subst (λ (k : ℕ). 0 < k) (sym number) pos); own_none = own; idle = idle })

pub no_seats : (legal : History → Type 0) (t : TableId) (seats : List Sitting) → seats ≡ [] → AreNew legal t seats
no_seats legal t [] e i s at = absurd (no_some s at)
no_seats legal t (x ∷ xs) e i s at = let n : length (x ∷ xs) ≡ 0 = ap length e in absurd (omega (arith, n))

-- each of the seats is of this turn and idle
pub all_idle : (legal : History → Type 0) (t : TableId) (seats : List Sitting) → AreNew legal t seats → All (IsIdle t) seats
all_idle legal t seats new k d lt = let is = new k (get_or seats k d) (slice_get-get_or seats k d lt) in (is.of, is.idle)

-- one more
pub new_push : (legal : History → Type 0) (t : TableId) (seats : List Sitting) (s : Sitting) (n : ℕ) → n ≡ length seats + 1 → AreNew legal t seats → IsNew legal t n s → AreNew legal t (seats ++ s ∷ [])
new_push legal t seats s n is all new i x at =
    ⊎_elim (λ (e : slice_get seats i ≡ Some x). all i x e)
    (λ (e : (i ≡ length seats) × (s ≡ x)). subst (λ (y : ℕ × Sitting). IsNew legal t y.0 y.1) (λ k. ((is ∙ ap (λ j. j + 1) (sym e.0)) k, e.1 k)) new) (got_snoc seats s x i at)

module _ {S : Type 0} (legal : History → Type 0) (stands : S → History → Type 0) (faults : S → ℕ) (t u : TableId) (me me' : Me (Maybe S) View) (vs : List View) (table : u ≡ t) (one : vs ≡ me'.0 ∷ []) (old : Sitting) (was : sitting t me.0 ≡ old) where
  pub take_done : (state : S) → HasTaken stands faults state me.0 me' → TakesTurn (faults state) old (sitting u (view_in vs))
  take_done state taken =
      subst (λ (s : Sitting). TakesTurn (faults state) s (sitting u (view_in vs))) was
      (takes_turn t u me.0 me'.0 vs table one (faults state) (ap (λ (m : Me (Maybe S) View). m.0) taken.is) taken.later taken.mine)

  pub leave_done : (state : S) → me' ≡ (freed (written (faults state) me.0), []) → sitting u (view_in vs) ≡ given_back (faults state) old.seen old
  leave_done state is =
      leaves t u me.0 me'.0 vs table one (faults state) (ap (λ (m : Me (Maybe S) View). m.0) is) ∙ ap (λ (s : Sitting). given_back (faults state) s.seen s) was

  pub leave_with_done : (state : S) → HasGivenBack stands faults state me me' → LeavesWithOne stands faults state old (sitting u (view_in vs))
  leave_with_done state gave =
      subst (λ (s : Sitting). LeavesWithOne stands faults state s (sitting u (view_in vs))) was
      (leaves_with t u me.0 me'.0 vs table one stands faults state gave.member gave.tag (ap (λ (m : Me (Maybe S) View). m.0) gave.is) gave.is_state)

  pub look_done : (found : ℕ) → HasLooked legal stands faults found me me' → SeesMore legal old (sitting u (view_in vs))
  look_done found looked =
      subst (λ (s : Sitting). SeesMore legal s (sitting u (view_in vs))) was
      (sees_more t u me.0 me'.0 vs table one legal (ap (λ (m : Me (Maybe S) View). sitting t m.0) looked.is) looked.later looked.is_legal looked.mine)

  pub look_counts : (found : ℕ) → HasLooked legal stands faults found me me' → found / 2 ≡ count (view_in vs).seen
  look_counts found looked = looked.counted ∙ ap (λ (v : View). count v.seen) (sym (ap view_in one))

  pub look_held : (found : ℕ) → HasLooked legal stands faults found me me' → old.holds ≡ true → (view_in vs).seen ≡ old.seen
  look_held found looked holds =
      ap (λ (v : View). v.seen) (ap view_in one) ∙ (looked.held (ap (λ (s : Sitting). s.holds) was ∙ holds) ∙ ap (λ (s : Sitting). s.seen) was)

  pub merge_done : (mid : Me (Maybe S) View) (w : View) → mid ≡ (record me.0 { told = w.seen }, me.1) → HasMerged legal stands faults mid me' → (from : Sitting) → w.seen ≡ from.seen → Joined legal old from (sitting u (view_in vs))
  merge_done mid w e merged from same =
      let of : HasMerged legal stands faults (record me.0 { told = w.seen }, me.1) me' = subst (λ (m : Me (Maybe S) View). HasMerged legal stands faults m me') e merged in
      let q = ap (λ (m : Me (Maybe S) View). m.0) of.is in
      let h = longer me.0.seen w.seen in
      let seen : me'.0.seen ≡ h = ap (λ (v : View). v.seen) q in
      let here : (view_in vs).seen ≡ me'.0.seen = ap (λ (v : View). v.seen) (ap view_in one) in record {
        more = subst (λ (s : Sitting). SeesMore legal s (sitting u (view_in vs))) was
            (sees_more t u me.0 me'.0 vs table one legal (ap (sitting t) q ∙ (λ i. sitting t (having_seen me.0 (sym seen i)))) of.later of.is_legal of.mine);
        is_longer = here ∙ (seen ∙ (λ i. longer (was i).seen (same i)));
        later = subst (λ (x : History). Begins x (view_in vs).seen) same (subst (λ (x : History). Begins w.seen x) (sym here) of.told);
      }
