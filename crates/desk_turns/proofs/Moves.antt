-- Each kind of step keeps the rule.
use Rattle.std.proofs.Common.{◌≡◌, ◌≢◌, ◌⊎◌, inl, inr, ⊎_elim, ℕ, zero, suc, ◌+◌, ◌-◌, ◌*◌, ◌/◌, ◌^◌, ◌==◌, ◌<◌, ◌≤◌, Bool, true, false, List, [], ◌∷◌, ◌++◌, length, map, set, Some, None, MatchBool, refl, sym, ap, ◌∙◌, subst, arith, length-append}
use Rattle.std.specs.Prelude.{slice_index, All}
use Rattle.std.proofs.lemmas.List.Elements.{All-head, All-tail}
use Rattle.std.specs.Prelude as std
use Rattle.std.proofs.lemmas.Bool.Decides.{nat_tests}
use Rattle.std.proofs.lemmas.List.{map-append, map-set}
use mathlib.Core.Option.{Option, none, some, some-injective, some-ne-none}
use lib.ListN.{get_elem?}
use prog.Atomic.{either}
use Rattle.atomic_table.specs.Table.{State, Me, step, Act, keeps, takes, gives, Valid, stepped, carried_after, Allows, Splits, Joins, opening}
use Rattle.atomic_table.proofs.Lists.{at_set, at_snoc, at_map, set_again}
use Rattle.desk_turns.specs.Histories.{History, Member, count, with_members, with_member, Begins, tagged, longer}
use Rattle.desk_turns.specs.Views.{View, nobody, having_seen, having_taken, written, freed}
use Rattle.desk_turns.specs.Rule.{word_of, IsFront, IsHolder, Fits, name_of, IsMaker, AreApart, AtHome, Agrees, Kept}
use Rattle.desk_turns.specs.Steps.{HasOpened, Opens, HasLooked, Looks, HasMerged, Merges, HasTurn, Takes, Reads, Writes, HasLeft, LeavesWith, Leaves}
use Rattle.desk_turns.proofs.Lists.{off, begins_itself, begins_through, begins_one_more, tagged_one, tagged_other, tagged_own, begin_longer, of_longer, mine_between, none_before, map_set, longer_log, spent_one, raised, one_seat_more}

module _ {S : Type 0} (legal : History → Type 0) (stands : S → History → Type 0) (faults : S → ℕ) where
  abbrev Rests : History → Bool → Bool → ℕ → ℕ → List (Option (std.Option S)) → List View → Type 0
  Rests = Agrees legal stands faults

  abbrev Seated : History → Bool → Bool → ℕ → ℕ → ℕ → View → Type 0
  Seated = Fits legal

  -- a seat's view is replaced, and the others stay
  fits_set : (log now : History) (taken held out off : Bool) (holder seat counted told : ℕ) (views : List View) (id : ℕ) (w : View) → ((by : ℕ) (u : View) → by ≢ id → get_elem? views by ≡ some u → Seated now held off seat told by u) → Seated now held off seat told id w
      → (by : ℕ) (u : View) → get_elem? (set views id w) by ≡ some u → Seated now held off seat told by u
  fits_set log now taken held out off holder seat counted told views id w others mine by u e =
      ⊎_elim
      (λ (x : (by ≡ id) × (w ≡ u)). subst (λ (y : ℕ × View). Seated now held off seat told y.0 y.1) (λ i. (sym x.0 i, x.1 i)) mine)
      (λ (x : (by ≢ id) × (get_elem? views by ≡ some u)). others by u x.0 x.1)
      (at_set views id by w u e)

  module _ (slots id : ℕ) where
    -- the seat id can go on with the word i
    abbrev Goes : ℕ → (ℕ → ℕ) → Me (std.Option S) View → (ℕ → Me (std.Option S) View → Type 0) → State (std.Option S) View → Type 0
    Goes i f me then s =
        (w : View) × (a : Act (std.Option S)) × Valid s.homes me.1 a × Kept legal stands faults (stepped s i (f (slice_index s.words i)) id me.1 w a) × then (slice_index s.words i) (w, carried_after me.1 a)

    abbrev at_words : History → Bool → ℕ → List (Option (std.Option S)) → List View → State (std.Option S) View
    at_words log taken counted homes views = record { words = word_of log taken ∷ counted ∷ []; homes = homes; views = views }

    -- what is to be shown of a step, at words that are spelled out
    allowed : (i : ℕ) (f : ℕ → ℕ) (me : Me (std.Option S) View) (then : ℕ → Me (std.Option S) View → Type 0)
        → ((log : History) (taken out : Bool) (holder counted : ℕ) (homes : List (Option (std.Option S))) (views : List View) → Rests log taken out holder counted homes views → get_elem? views id ≡ some me.0 → Goes i f me then (at_words log taken counted homes views))
        → Allows (Kept legal stands faults) slots id me i f then
    allowed i f me then go s kept len at small =
        subst (Goes i f me then) (λ k. record { words = sym kept.5 k; homes = s.homes; views = s.views })
        (go kept.0 kept.1 kept.2 kept.3 kept.4 s.homes s.views kept.6 at)

    -- The view alone changes: the seat has seen more, and all else is as before
    module _ (v : View) (some_seat : 0 < v.number) where
      seen_more : (log : History) (taken out : Bool) (holder counted : ℕ) (homes : List (Option (std.Option S))) (views : List View) → Rests log taken out holder counted homes views → get_elem? views id ≡ some v
          → (h : History) → IsFront legal log h → (v.holds ≡ true → h ≡ log) → tagged v.number log.members ≡ tagged v.number h.members
          → Rests log taken out holder counted homes (set views id (having_seen v h))
      seen_more log taken out holder counted homes views t at h front held mine = record {
        home = t.home;
        is_legal = t.is_legal;
        room = t.room;
        fits = fits_set log log taken taken out out holder holder counted counted views id (having_seen v h) (λ by u apart there. t.fits by u there)
            (record {
              held = λ k. let old = (t.fits id v at).held k in record { is_taken = old.is_taken; is = old.is; seen = held k; is_out = old.is_out; counted = old.counted };
              seen = λ _. front;
              told = (t.fits id v at).told;
              mine = λ _. mine;
            });
        names = subst (AreApart log) (sym (map_set views id v (having_seen v h) refl at)) t.names;
      }

      half_of : (log : History) (taken : Bool) → word_of log taken / 2 ≡ count log
      half_of log true = let e : (2 * count log + 1) / 2 ≡ count log = omega arith in e
      half_of log false = let e : (2 * count log) / 2 ≡ count log = omega arith in e

      -- a look at the first word
      look_moves : (carried : List (ℕ × std.Option S)) → Allows (Kept legal stands faults) slots id (v, carried) 0 (λ n. n) (Looks legal stands faults (step slots 0 0 0 none) (v, carried))
      look_moves carried = allowed 0 (λ n. n) (v, carried) (Looks legal stands faults (step slots 0 0 0 none) (v, carried)) (λ log taken out holder counted homes views t at.
          let fit = t.fits id v at in (
            having_seen v log,
            keeps,
            tt,
            (log, taken, out, holder, counted, refl, seen_more log taken out holder counted homes views t at log (record { begins = begins_itself log; is_legal = t.is_legal }) (λ _. refl) refl),
            record {
              is = refl;
              is_legal = t.is_legal;
              later = (fit.seen some_seat).begins;
              mine = fit.mine some_seat;
              counted = half_of log taken;
              held = λ k. sym (fit.held k).seen;
            },
          ))

      -- what was told is taken in
      merge_moves : (carried : List (ℕ × std.Option S)) → v.holds ≡ false → Allows (Kept legal stands faults) slots id (v, carried) 0 (λ n. n) (Merges legal stands faults (step slots 0 0 0 none) (v, carried))
      merge_moves carried idle = allowed 0 (λ n. n) (v, carried) (Merges legal stands faults (step slots 0 0 0 none) (v, carried)) (λ log taken out holder counted homes views t at.
          let fit = t.fits id v at in
          let seen = fit.seen some_seat in
          let told = fit.told some_seat in
          let both = begin_longer v.seen v.told log seen.begins told.begins in
          let h = longer v.seen v.told in
          let on : Begins h log = of_longer (λ x. Begins x log) v.seen v.told seen.begins told.begins in
          let ok : legal h = of_longer legal v.seen v.told seen.is_legal told.is_legal in
          let mine : tagged v.number h.members ≡ tagged v.number v.seen.members = mine_between v.number v.seen h log both.0 on (fit.mine some_seat) in (
            having_seen v h,
            keeps,
            tt,
            (
              log,
              taken,
              out,
              holder,
              counted,
              refl,
              seen_more log taken out holder counted homes views t at h (record { begins = on; is_legal = ok }) (λ k. absurd (off (sym idle ∙ k))) (fit.mine some_seat ∙ sym mine),
            ),
            record { is = refl; later = both.0; told = both.1; is_legal = ok; mine = mine },
          ))

    -- taking the turn
    module _ (v : View) (some_seat : 0 < v.number) (half : ℕ) where
      abbrev change : ℕ → ℕ
      change n = either (n == 2 * half) (2 * half + 1) n

      abbrev taken_tells : ℕ → Me (std.Option S) View → Type 0
      taken_tells = Takes legal stands faults (step slots 0 (2 * half) (2 * half + 1) none) (v, [])

      take_goes : (log : History) (taken out : Bool) (holder counted : ℕ) (homes : List (Option (std.Option S))) (views : List View) (b : Bool) → (word_of log taken == 2 * half) ≡ b → Rests log taken out holder counted homes views
          → get_elem? views id ≡ some v → Goes 0 change (v, []) taken_tells (at_words log taken counted homes views)
      take_goes log true out holder counted homes views true is t at =
          let e : 2 * count log + 1 ≡ 2 * half = grind (arith, nat_tests) in absurd (omega (arith, e))
      take_goes log false out holder counted homes views true is t at =
          let e : 2 * count log ≡ 2 * half = grind (arith, nat_tests) in
          let home = t.home in
          let x = home.0 in
          let fit = t.fits id v at in
          let w : View = record v { seen = log; holds = true; out = true; faults = counted } in (
            w,
            takes 0 (Some x),
            ap (λ h. get_elem? h 0) home.1,
            (
              log,
              true,
              true,
              id,
              counted,
              rw is (ap (λ n. (n + 1) ∷ counted ∷ []) (sym e)),
              record {
                home = ap (λ h. set h 0 none) home.1;
                is_legal = t.is_legal;
                room = t.room;
                fits = fits_set log log false true out true holder id counted counted views id w
                    (λ by u apart there. let of = t.fits by u there in record { held = λ k. absurd (off (of.held k).is_taken); seen = of.seen; told = of.told; mine = of.mine })
                    (record {
                      held = λ _. record { is_taken = refl; is = refl; seen = refl; is_out = refl; counted = refl };
                      seen = λ _. record { begins = begins_itself log; is_legal = t.is_legal };
                      told = fit.told;
                      mine = λ _. refl;
                    });
                names = subst (AreApart log) (sym (map_set views id v w refl at)) t.names;
              },
            ),
            rw is (record {
              state = x;
              slot = refl;
              is_state = home.2;
              counted = home.3;
              is = refl;
              later = (fit.seen some_seat).begins;
              mine = fit.mine some_seat;
              length = sym e;
              room = t.room;
            }),
          )
      take_goes log taken out holder counted homes views false is t at = (
        v,
        keeps,
        tt,
        (log, taken, out, holder, counted, rw is refl, subst (λ (l : List View). Rests log taken out holder counted homes l) (sym (set_again views id v at)) t),
        rw is refl,
      )

      take_moves : Allows (Kept legal stands faults) slots id (v, []) 0 change taken_tells
      take_moves = allowed 0 change (v, []) taken_tells (λ log taken out holder counted homes views t at. take_goes log taken out holder counted homes views (word_of log taken == 2 * half) refl t at)

    -- the steps of a holder
    module _ (v : View) (holds : v.holds ≡ true) where
      -- another seat is no holder
      no_other : (log : History) (taken out held : Bool) (holder counted told by : ℕ) (u : View) → IsHolder log taken out holder counted id v → by ≢ id → Seated log taken out holder counted by u → Seated log taken held holder told by u
      no_other log taken out held holder counted told by u mine apart of = record { held = λ k. absurd (apart ((of.held k).is ∙ sym mine.is)); seen = of.seen; told = of.told; mine = of.mine }

      read_goes : v.out ≡ true → (log : History) (taken out : Bool) (holder counted : ℕ) (homes : List (Option (std.Option S))) (views : List View) → Rests log taken out holder counted homes views → get_elem? views id ≡ some v
          → Goes 1 (λ n. n) (v, (0, None) ∷ []) (Reads legal stands faults (step slots 1 0 0 none) (v, (0, None) ∷ [])) (at_words log taken counted homes views)
      read_goes is_out log false out holder counted homes views t at = absurd (off ((t.fits id v at).held holds).is_taken)
      read_goes is_out log true false holder counted homes views t at = absurd (off (sym ((t.fits id v at).held holds).is_out ∙ is_out))
      read_goes is_out log true true holder counted homes views t at =
          let fit = t.fits id v at in
          let mine = fit.held holds in
          let w : View = record v { out = false } in (
            w,
            gives,
            tt,
            (
              log,
              true,
              false,
              holder,
              counted,
              refl,
              record {
                home = ap (λ h. set h 0 (some None)) t.home;
                is_legal = t.is_legal;
                room = t.room;
                fits = fits_set log log true true true false holder holder counted counted views id w
                    (λ by u apart there. no_other log true true false holder counted counted by u mine apart (t.fits by u there))
                    (record {
                      held = λ _. record { is_taken = refl; is = mine.is; seen = mine.seen; is_out = refl; counted = mine.counted };
                      seen = fit.seen;
                      told = fit.told;
                      mine = fit.mine;
                    });
                names = subst (AreApart log) (sym (map_set views id v w refl at)) t.names;
              },
            ),
            (sym mine.counted, refl),
          )

      -- reading the second word
      read_moves : v.out ≡ true → Allows (Kept legal stands faults) slots id (v, (0, None) ∷ []) 1 (λ n. n) (Reads legal stands faults (step slots 1 0 0 none) (v, (0, None) ∷ []))
      read_moves is_out = allowed 1 (λ n. n) (v, (0, None) ∷ []) (Reads legal stands faults (step slots 1 0 0 none) (v, (0, None) ∷ [])) (read_goes is_out)

      write_goes : v.out ≡ false → (new : ℕ) (log : History) (taken out : Bool) (holder counted : ℕ) (homes : List (Option (std.Option S))) (views : List View) → Rests log taken out holder counted homes views → get_elem? views id ≡ some v
          → Goes 1 (λ _. new) (v, []) (λ _. Writes legal stands faults (step slots 1 new 0 none) (v, []) new) (at_words log taken counted homes views)
      write_goes is_out new log false out holder counted homes views t at = absurd (off ((t.fits id v at).held holds).is_taken)
      write_goes is_out new log true true holder counted homes views t at = absurd (off (sym is_out ∙ ((t.fits id v at).held holds).is_out))
      write_goes is_out new log true false holder counted homes views t at =
          let fit = t.fits id v at in
          let mine = fit.held holds in
          let w : View = record v { out = true; own = v.own + (new - v.faults); faults = new } in (
            w,
            takes 0 None,
            ap (λ h. get_elem? h 0) t.home,
            (
              log,
              true,
              true,
              holder,
              new,
              refl,
              record {
                home = ap (λ h. set h 0 none) t.home;
                is_legal = t.is_legal;
                room = t.room;
                fits = fits_set log log true true false true holder holder counted new views id w
                    (λ by u apart there. no_other log true false true holder counted new by u mine apart (t.fits by u there))
                    (record {
                      held = λ _. record { is_taken = refl; is = mine.is; seen = mine.seen; is_out = refl; counted = refl };
                      seen = fit.seen;
                      told = fit.told;
                      mine = fit.mine;
                    });
                names = subst (AreApart log) (sym (map_set views id v w refl at)) t.names;
              },
            ),
            refl,
          )

      -- writing the second word
      write_moves : v.out ≡ false → (new : ℕ) → Allows (Kept legal stands faults) slots id (v, []) 1 (λ _. new) (λ _. Writes legal stands faults (step slots 1 new 0 none) (v, []) new)
      write_moves is_out new = allowed 1 (λ _. new) (v, []) (λ _. Writes legal stands faults (step slots 1 new 0 none) (v, []) new) (write_goes is_out new)

      -- giving the turn back, with a state that stands for a history that goes on
      module _ (is_out : v.out ≡ true) (state : S) (counts : v.faults ≡ faults state) (now : History) (on : Begins v.seen now) (stand : stands state now) (ok : legal now) (room : count now < 2 ^ 62) (others : (k : ℕ) → 0 < k → k ≢ v.number → tagged k now.members ≡ tagged k v.seen.members) (named : (names : List (ℕ × Bool)) → get_elem? names id ≡ some (name_of v) → AreApart v.seen names → AreApart now names) (new : ℕ) (length_is : new ≡ 2 * count now) where
        abbrev carrying : Me (std.Option S) View
        carrying = (v, (0, Some state) ∷ [])

        abbrev done : View
        done = record v { seen = now; holds = false; out = false }

        given : (log : History) (taken out : Bool) (holder counted : ℕ) (homes : List (Option (std.Option S))) (views : List View) → Rests log taken out holder counted homes views → get_elem? views id ≡ some v
            → Kept legal stands faults (stepped (at_words log taken counted homes views) 0 new id ((0, Some state) ∷ []) done gives)
        given log false out holder counted homes views t at = absurd (off ((t.fits id v at).held holds).is_taken)
        given log true false holder counted homes views t at = absurd (off (sym ((t.fits id v at).held holds).is_out ∙ is_out))
        given log true true holder counted homes views t at =
            let fit = t.fits id v at in
            let mine = fit.held holds in
            let on_log : Begins log now = subst (λ (h : History). Begins h now) mine.seen on in
            let names = map name_of views in
            let further : (h : History) → IsFront legal log h → IsFront legal now h = λ h front. record { begins = begins_through h log now front.begins on_log; is_legal = front.is_legal } in (
              now,
              false,
              false,
              holder,
              counted,
              ap (λ n. n ∷ counted ∷ []) length_is,
              record {
                home = (state, ap (λ h. set h 0 (some (Some state))) t.home, stand, sym mine.counted ∙ counts);
                is_legal = ok;
                room = room;
                fits = fits_set log now true false true false holder holder counted counted views id done
                    (λ by u apart there.
                    let of = t.fits by u there in record {
                      held = λ k. absurd (apart ((of.held k).is ∙ sym mine.is));
                      seen = λ some. further u.seen (of.seen some);
                      told = λ some. further u.told (of.told some);
                      mine = λ some.
                          others u.number some (λ e. apart (t.names.apart by id (name_of u) (name_of v) (at_map name_of views by u there) (at_map name_of views id v at) some e))
                          ∙ (ap (λ h. tagged u.number h.members) mine.seen ∙ of.mine some);
                    })
                    (record {
                      held = λ k. absurd (off k);
                      seen = λ _. record { begins = begins_itself now; is_legal = ok };
                      told = λ some. further v.told (fit.told some);
                      mine = λ _. refl;
                    });
                names = subst (AreApart now) (sym (map_set views id v done refl at))
                    (named names (at_map name_of views id v at) (subst (λ (h : History). AreApart h names) (sym mine.seen) t.names));
              },
            )

      -- leaving with nothing added
      leave_moves : v.out ≡ true → (state : S) → v.faults ≡ faults state → stands state v.seen → legal v.seen → count v.seen < 2 ^ 62 → (new : ℕ) → new ≡ 2 * count v.seen
          → Allows (Kept legal stands faults) slots id (v, (0, Some state) ∷ []) 0 (λ _. new) (λ _. Leaves legal stands faults (step slots 0 new 0 none) (v, (0, Some state) ∷ []) new)
      leave_moves is_out state counts stand ok room new length_is =
          allowed 0 (λ _. new) (v, (0, Some state) ∷ []) (λ _. Leaves legal stands faults (step slots 0 new 0 none) (v, (0, Some state) ∷ []) new) (λ log taken out holder counted homes views t at. (
            record v { holds = false; out = false },
            gives,
            tt,
            given is_out state counts v.seen (begins_itself v.seen) stand ok room (λ k some other. refl) (λ names there apart. apart) new length_is log taken out holder counted homes views t at,
            refl,
          ))

      -- leaving with a member more
      leave_with_moves : v.out ≡ true → (state : S) → v.faults ≡ faults state → (m : Member) → (m.seat ≡ v.number) ⊎ (m.seat ≡ 0) → stands state (with_member v.seen m) → legal (with_member v.seen m) → count (with_member v.seen m) < 2 ^ 62 → (new : ℕ)
          → new ≡ 2 * count (with_member v.seen m)
          → Allows (Kept legal stands faults) slots id (v, (0, Some state) ∷ []) 0 (λ _. new) (λ _. LeavesWith legal stands faults (step slots 0 new 0 none) (v, (0, Some state) ∷ []) new)
      leave_with_moves is_out state counts m tag stand ok room new length_is =
          allowed 0 (λ _. new) (v, (0, Some state) ∷ []) (λ _. LeavesWith legal stands faults (step slots 0 new 0 none) (v, (0, Some state) ∷ []) new) (λ log taken out holder counted homes views t at. (
            record v { seen = with_member v.seen m; holds = false; out = false },
            gives,
            tt,
            given is_out state counts (with_member v.seen m) (begins_one_more v.seen m) stand ok room
                (λ k some other. tagged_other k v.seen.members m (λ e. ⊎_elim (λ (x : m.seat ≡ v.number). other (sym e ∙ x)) (λ (x : m.seat ≡ 0). absurd (omega (arith, x, e, some))) tag))
                (λ names there apart. longer_log v.seen names id (name_of v) m there tag apart) new length_is log taken out holder counted homes views t at,
            record { state = state; slot = refl; is_state = stand; member = m; tag = tag; is = refl },
          ))

    -- the first look
    open_moves : Allows (Kept legal stands faults) slots id (nobody true, []) 0 (λ n. n) (Opens legal stands faults (step slots 0 0 0 none) (nobody true, []))
    open_moves = allowed 0 (λ n. n) (nobody true, []) (Opens legal stands faults (step slots 0 0 0 none) (nobody true, [])) (λ log taken out holder counted homes views t at.
        let w : View = record (nobody true) { number = 1; seen = log; told = log } in
        let there : get_elem? (map name_of views) id ≡ some (0, true) = at_map name_of views id (nobody true) at in (
          w,
          keeps,
          tt,
          (
            log,
            taken,
            out,
            holder,
            counted,
            refl,
            record {
              home = t.home;
              is_legal = t.is_legal;
              room = t.room;
              fits = fits_set log log taken taken out out holder holder counted counted views id w (λ by u apart there. t.fits by u there)
                  (record {
                    held = λ k. absurd (off k);
                    seen = λ _. record { begins = begins_itself log; is_legal = t.is_legal };
                    told = λ _. record { begins = begins_itself log; is_legal = t.is_legal };
                    mine = λ _. refl;
                  });
              names = subst (AreApart log) (sym (map-set name_of views id w)) (raised log (map name_of views) id 0 there t.names);
            },
          ),
          record { is = refl; empty = refl; is_legal = t.is_legal; unused = (t.names.maker id (0, true) there refl).unused },
        ))

    -- splitting off a seat
    pub split_moves : (v : View) → 0 < v.number → v.makes ≡ true → v.holds ≡ false → Splits (Kept legal stands faults) id v (record v { number = v.number + 1 }) (record v { makes = false })
    split_moves v some_seat makes idle s kept at =
        let log = kept.0 in
        let t = kept.6 in
        let fit = t.fits id v at in
        let left : View = record v { number = v.number + 1 } in
        let right : View = record v { makes = false } in
        let names = map name_of s.views in
        let there : get_elem? names id ≡ some (v.number, true) = at_map name_of s.views id v at ∙ ap (λ b. some (v.number, b)) makes in
        let first = t.names.maker id (v.number, true) there refl in
        let none_yet : tagged (v.number + 1) log.members ≡ [] = first.unused (v.number + 1) (omega arith) in
        let raise = raised log names id v.number there t.names in
        let raised_names = set names id (v.number + 1, true) in (
          log,
          kept.1,
          kept.2,
          kept.3,
          kept.4,
          kept.5,
          record {
            home = t.home;
            is_legal = t.is_legal;
            room = t.room;
            fits = λ by u found.
                ⊎_elim
                (λ (x : get_elem? (set s.views id left) by ≡ some u).
                fits_set log log kept.1 kept.1 kept.2 kept.2 kept.3 kept.3 kept.4 kept.4 s.views id left (λ by' u' apart there'. t.fits by' u' there')
                (record {
                  held = λ k. absurd (off (sym idle ∙ k));
                  seen = λ _. fit.seen some_seat;
                  told = λ _. fit.told some_seat;
                  mine = λ _. none_yet ∙ sym (none_before (v.number + 1) v.seen log (fit.seen some_seat).begins none_yet);
                })
                by
                u
                x)
                (λ (x : right ≡ u). subst (Seated log kept.1 kept.2 kept.3 kept.4 by) x (record { held = λ k. absurd (off (sym idle ∙ k)); seen = fit.seen; told = fit.told; mine = fit.mine }))
                (at_snoc (set s.views id left) right u by found);
            names = subst (AreApart log)
                (sym (map-append name_of (set s.views id left) (right ∷ []) ∙ ap (λ l. l ++ (v.number, false) ∷ []) (map-set name_of s.views id left ∙ ap (λ b. set names id (v.number + 1, b)) makes)))
                (one_seat_more log raised_names v.number
                (λ i a here.
                ⊎_elim (λ (x : (i ≡ id) × ((v.number + 1, true) ≡ a)). λ e. absurd (omega (arith, ap (λ b. b.0) x.1, e)))
                (λ (x : (i ≢ id) × (get_elem? names i ≡ some a)). λ e. absurd (x.0 (sym (t.names.apart id i (v.number, true) a there x.1 some_seat (sym e)))))
                (at_set names id i (v.number + 1, true) a here))
                (λ i a here is.
                ⊎_elim (λ (x : (i ≡ id) × ((v.number + 1, true) ≡ a)). let n = ap (λ (b : ℕ × Bool). b.0) x.1 in omega (arith, n))
                (λ (x : (i ≢ id) × (get_elem? names i ≡ some a)). absurd (x.0 ((t.names.maker i a x.1 is).first ∙ sym first.first)))
                (at_set names id i (v.number + 1, true) a here))
                raise);
          },
        )

    -- joining a seat to another
    pub join_moves : (v : View) (other : ℕ) (w : View) → 0 < w.number → Joins (Kept legal stands faults) id v other w (record v { told = w.seen }) (nobody false)
    join_moves v other w some_other s kept at apart there =
        let log = kept.0 in
        let t = kept.6 in
        let fit = t.fits id v at in
        let both : View = record v { told = w.seen } in
        let was : get_elem? s.views other ≡ some w =
        ⊎_elim (λ (x : (other ≡ id) × (both ≡ w)). absurd (apart x.0)) (λ (x : (other ≢ id) × (get_elem? s.views other ≡ some w)). x.1) (at_set s.views id other both w there) in
        let views = set s.views id both in
        let same : map name_of views ≡ map name_of s.views = map_set s.views id v both refl at in (
          log,
          kept.1,
          kept.2,
          kept.3,
          kept.4,
          kept.5,
          record {
            home = t.home;
            is_legal = t.is_legal;
            room = t.room;
            fits = fits_set log log kept.1 kept.1 kept.2 kept.2 kept.3 kept.3 kept.4 kept.4 views other (nobody false)
                (λ by u away here.
                fits_set log log kept.1 kept.1 kept.2 kept.2 kept.3 kept.3 kept.4 kept.4 s.views id both (λ by' u' away' here'. t.fits by' u' here')
                (record {
                  held = λ k. let old = fit.held k in record { is_taken = old.is_taken; is = old.is; seen = old.seen; is_out = old.is_out; counted = old.counted };
                  seen = fit.seen;
                  told = λ _. (t.fits other w was).seen some_other;
                  mine = fit.mine;
                })
                by
                u
                here)
                (record { held = λ k. absurd (off k); seen = λ k. absurd (omega (arith, k)); told = λ k. absurd (omega (arith, k)); mine = λ k. absurd (omega (arith, k)) });
            names = subst (AreApart log) (sym (map-set name_of views other (nobody false) ∙ ap (λ l. set l other (0, false)) same)) (spent_one log (map name_of s.views) other t.names);
          },
        )

    -- the same at a seat's pair, of which the list is told by an equation
    pub take_as : (me : Me (std.Option S) View) → 0 < me.0.number → me.1 ≡ [] → (half : ℕ) → Allows (Kept legal stands faults) slots id me 0 (λ n. either (n == 2 * half) (2 * half + 1) n) (Takes legal stands faults (step slots 0 (2 * half) (2 * half + 1) none) me)
    take_as me some_seat idle half =
        subst (λ (l : List (ℕ × std.Option S)). Allows (Kept legal stands faults) slots id (me.0, l) 0 (λ n. either (n == 2 * half) (2 * half + 1) n) (Takes legal stands faults (step slots 0 (2 * half) (2 * half + 1) none) (me.0, l))) (sym idle) (take_moves me.0 some_seat half)

    pub read_as : (me : Me (std.Option S) View) → me.0.holds ≡ true → me.0.out ≡ true → me.1 ≡ (0, None) ∷ [] → Allows (Kept legal stands faults) slots id me 1 (λ n. n) (Reads legal stands faults (step slots 1 0 0 none) me)
    read_as me holds is_out slot =
        subst (λ (l : List (ℕ × std.Option S)). Allows (Kept legal stands faults) slots id (me.0, l) 1 (λ n. n) (Reads legal stands faults (step slots 1 0 0 none) (me.0, l))) (sym slot) (read_moves me.0 holds is_out)

    pub write_as : (me : Me (std.Option S) View) → me.0.holds ≡ true → me.0.out ≡ false → me.1 ≡ [] → (new : ℕ) → Allows (Kept legal stands faults) slots id me 1 (λ _. new) (λ _. Writes legal stands faults (step slots 1 new 0 none) me new)
    write_as me holds is_out slot new =
        subst (λ (l : List (ℕ × std.Option S)). Allows (Kept legal stands faults) slots id (me.0, l) 1 (λ _. new) (λ _. Writes legal stands faults (step slots 1 new 0 none) (me.0, l) new)) (sym slot) (write_moves me.0 holds is_out new)

    pub leave_as : (me : Me (std.Option S) View) (v : View) (state : S) → me ≡ (v, (0, Some state) ∷ []) → v.holds ≡ true → v.out ≡ true → v.faults ≡ faults state → stands state v.seen → legal v.seen → count v.seen < 2 ^ 62 → (new : ℕ) → new ≡ 2 * count v.seen
        → Allows (Kept legal stands faults) slots id me 0 (λ _. new) (λ _. Leaves legal stands faults (step slots 0 new 0 none) me new)
    leave_as me v state is holds is_out counts stand ok room new length_is =
        subst (λ (m : Me (std.Option S) View). Allows (Kept legal stands faults) slots id m 0 (λ _. new) (λ _. Leaves legal stands faults (step slots 0 new 0 none) m new)) (sym is) (leave_moves v holds is_out state counts stand ok room new length_is)

    pub leave_with_as : (me : Me (std.Option S) View) (v : View) (state : S) → me ≡ (v, (0, Some state) ∷ []) → v.holds ≡ true → v.out ≡ true → v.faults ≡ faults state → (m : Member) → (m.seat ≡ v.number) ⊎ (m.seat ≡ 0) → stands state (with_member v.seen m) → legal (with_member v.seen m)
        → count (with_member v.seen m) < 2 ^ 62 → (new : ℕ) → new ≡ 2 * count (with_member v.seen m) → Allows (Kept legal stands faults) slots id me 0 (λ _. new) (λ _. LeavesWith legal stands faults (step slots 0 new 0 none) me new)
    leave_with_as me v state is holds is_out counts m tag stand ok room new length_is =
        subst (λ (x : Me (std.Option S) View). Allows (Kept legal stands faults) slots id x 0 (λ _. new) (λ _. LeavesWith legal stands faults (step slots 0 new 0 none) x new)) (sym is) (leave_with_moves v holds is_out state counts m tag stand ok room new length_is)

    pub look_as : (me : Me (std.Option S) View) → 0 < me.0.number → Allows (Kept legal stands faults) slots id me 0 (λ n. n) (Looks legal stands faults (step slots 0 0 0 none) me)
    look_as me some_seat = look_moves me.0 some_seat me.1

    pub merge_as : (me : Me (std.Option S) View) → 0 < me.0.number → me.0.holds ≡ false → Allows (Kept legal stands faults) slots id me 0 (λ n. n) (Merges legal stands faults (step slots 0 0 0 none) me)
    merge_as me some_seat idle = merge_moves me.0 some_seat me.1 idle

    pub open_as : (me : Me (std.Option S) View) → me ≡ (nobody true, []) → Allows (Kept legal stands faults) slots id me 0 (λ n. n) (Opens legal stands faults (step slots 0 0 0 none) me)
    open_as me is = subst (λ (m : Me (std.Option S) View). Allows (Kept legal stands faults) slots id m 0 (λ n. n) (Opens legal stands faults (step slots 0 0 0 none) m)) (sym is) open_moves

one_only : {A : Type 0} (x : A) (i : ℕ) (a : A) → get_elem? (x ∷ []) i ≡ some a → (i ≡ 0) × (x ≡ a)
one_only x zero a e = (refl, some-injective x a e)
one_only x (suc i) a e = absurd (some-ne-none a (sym e))

only_one : (i : ℕ) (v : View) → get_elem? (nobody true ∷ []) i ≡ some v → nobody true ≡ v
only_one i v e = (one_only (nobody true) i v e).1

only_name : (i : ℕ) (a : ℕ × Bool) → get_elem? ((0, true) ∷ []) i ≡ some a → (0, true) ≡ a
only_name i a e = (one_only (0, true) i a e).1

first_at : (i : ℕ) (a : ℕ × Bool) → get_elem? ((0, true) ∷ []) i ≡ some a → i ≡ 0
first_at i a e = (one_only (0, true) i a e).0

none_tagged : (k : ℕ) (ms : List Member) → 0 < k → All (λ (m : Member). m.seat ≡ 0) ms → tagged k ms ≡ []
none_tagged k [] pos all = refl
none_tagged k (m ∷ ms) pos all =
    tagged_one k m ms (λ e. absurd (omega (arith, e, pos, All-head (λ (x : Member). x.seat ≡ 0) m ms all))) ∙ none_tagged k ms pos (All-tail (λ (x : Member). x.seat ≡ 0) m ms all)

-- the table at the start
pub opening_kept : {S : Type 0} (legal : History → Type 0) (stands : S → History → Type 0) (faults : S → ℕ) (state : S) (h : History) → stands state h → legal h → count h < 2 ^ 62 → All (λ (m : Member). m.seat ≡ 0) h.members → (words : List ℕ) → words ≡ 2 * count h ∷ faults state ∷ [] → (slots : List (std.Option S))
    → slots ≡ Some state ∷ [] → Kept legal stands faults (opening words slots (nobody true))
opening_kept {S} legal stands faults state h stand ok room loaded words words_are slots slots_are = (
  h,
  false,
  false,
  0,
  faults state,
  words_are,
  record {
    home = (state, ap (map some) slots_are, stand, refl);
    is_legal = ok;
    room = room;
    fits = λ by v at.
        subst (λ (u : View). Fits legal h false false 0 (faults state) by u) (only_one by v at)
        (record { held = λ k. absurd (off k); seen = λ k. absurd (omega (arith, k)); told = λ k. absurd (omega (arith, k)); mine = λ k. absurd (omega (arith, k)) });
    names = record {
      apart = λ i j a b ai bj some same. absurd (omega (arith, some, ap (λ (c : ℕ × Bool). c.0) (only_name i a ai)));
      maker = λ i a ai makes. record {
        first = first_at i a ai;
        greatest = λ j b bj. let n = ap (λ (c : ℕ × Bool). c.0) (only_name j b bj) in let z : b.0 ≡ 0 = sym n in omega (arith, z);
        unused = λ k lt. none_tagged k h.members (omega (arith, lt)) loaded;
      };
    };
  },
)
