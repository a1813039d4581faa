-- Doing what mends a violation mends it, nothing less does, and where no tree is told nothing does.
use Rattle.std.proofs.Common.{◌≡◌, ◌⊎◌, ◌&&◌, ◌||◌, ◌<◌, ◌≤◌, ◌+◌, ◌-◌, ◌++◌, ℕ, suc, Bool, true, false, cond, not, nat_le, nat_lt, is_none, is_some, ltb-true, List, [], ◌∷◌, Option, Some, None, length, drop, refl, ap, sym, subst, inl, inr, ◌∙◌, arith}
use Rattle.std.specs.List.{filter}
use Rattle.std.specs.Option.{option_and_then, option_map, unwrap_or}
use Rattle.std.specs.Cmp.Lexicographic.{bytes_decides}
use Rattle.std.proofs.lemmas.Bool.{and_parts, cases_lt, leb-true, lt-leb, true≢false}
use Rattle.std.proofs.lemmas.List.{length-append, length-take-le, take-append-drop}
use Rattle.git_object.specs.Ids.{zeros}
use Rattle.rsl_chain.specs.Entries.{Taken, is_of, target_of}
use Rattle.rsl_chain.specs.declared.entries.EntryBody.{EntryBody}
use Rattle.rsl_chain.specs.declared.entries.EntryBody.TheVariants.{Reference, Annotation}
use Rattle.recovery.specs.Lanes.{Lane, first_of, is_in, is_outside, last_of}
use Rattle.judging.specs.Rules.{Rules, is_same_tree, same_tree}
use Rattle.judging.specs.Logs.{above, authorised, before, completes, entry_at, fault_of, from, is_entry_of, keeps_tree, lane, numbers, pending, prior, rescued, skipped, target_at, unskipped}
use Rattle.judging.specs.Readings.{IsRescue}
use Rattle.judging.specs.Steps.{recorded}
use Rattle.judging.specs.Verdicts.{IsJudged}
use Rattle.judging.specs.declared.verdicts.Verdict.TheVariants.{Accepted}
use Rattle.judging.proofs.Appends.{entry_new, entry_old, fault_old}
use Rattle.judging.proofs.Counting.{filter_same, filter_twice, first_number, last_number}
use Rattle.judging.proofs.LaneSteps.{reference_lanes}
use Rattle.judging.proofs.Notes.{in_numbers}
use Rattle.judging.proofs.Readers.{no_prior_reads, prior_reads, rescued_stays}
use Rattle.judged_logs.specs.Laws.{BringsBack, IsLeast, IsMending, IsNoWay, SkipsFrom}
use Rattle.judged_logs.specs.Mends.{ahead_of, back_to, from_on, way_back}
use Rattle.judged_logs.proofs.Numbers.{below_is, filter_false, last_push, shorter}

not_or : (o s c : Bool) → (o && not (s || c)) ≡ ((o && not s) && not c)
not_or true true c = refl
not_or true false c = refl
not_or false s c = refl

one_name : (e : Option Taken) (name other : List ℕ) → is_entry_of e name ≡ true → is_entry_of e other ≡ true → name ≡ other
one_name None name other a b = absurd (true≢false (sym a))
one_name (Some x) name other a b = by_body x.entry.body a b where
  by_body : (c : EntryBody) → is_of c name ≡ true → is_of c other ≡ true → name ≡ other
  by_body (Reference n to) a b = sym ((bytes_decides n name).0 a) ∙ (bytes_decides n other).0 b
  by_body (Annotation ids skip message) a b = absurd (true≢false (sym a))

module _ {P F : Type 0} (rules : Rules P F) (log : List Taken) (name : List ℕ) (b : ℕ) where
  abbrev own : ℕ → Bool
  own i = is_entry_of (entry_at log i) name

  abbrev free : ℕ → Bool
  free i = own i && not (skipped rules log i)

  abbrev ahead : ℕ → Bool
  ahead i = free i && nat_lt i b

  ahead_is : ahead_of rules log name b ≡ filter ahead (numbers (length log))
  ahead_is = filter_twice free (λ i. nat_lt i b) (numbers (length log))

  -- what the reference goes back to is an entry of the log before b
  way_in : (p : ℕ) → way_back rules log name b ≡ Some p → (0 < p) × (p ≤ length log) × (p < b)
  way_in p is =
      let w = last_number ahead (length log) p (ap last_of (sym ahead_is) ∙ is) in
      let q = and_parts (free p) (nat_lt p b) w.2 in
      (w.0, w.1, ltb-true p b q.1)

  module _ (more : List Taken) (s : SkipsFrom rules log name b more) where
    abbrev then_ : List Taken
    then_ = log ++ more

    abbrev own_then : ℕ → Bool
    own_then i = is_entry_of (entry_at then_ i) name

    abbrev free_then : ℕ → Bool
    free_then i = own_then i && not (skipped rules then_ i)

    longer : length log ≤ length then_
    longer = let e = length-append log more in omega arith

    own_old : (i : ℕ) → 0 < i → i ≤ length log → own_then i ≡ own i
    own_old i i0 i1 = ap (λ e. is_entry_of e name) (entry_old log more i i0 i1)

    free_old : (i : ℕ) → 0 < i → i ≤ length log → free_then i ≡ ahead i
    free_old i i0 i1 =
        ap (λ o. o && not (skipped rules then_ i)) (own_old i i0 i1)
        ∙ by_own (own i) refl where
          by_own : (o : Bool) → own i ≡ o → (o && not (skipped rules then_ i)) ≡ ((o && not (skipped rules log i)) && nat_lt i b)
          by_own true is = ap not (s.exactly i i0 i1 is) ∙ not_or true (skipped rules log i) (nat_le b i) ∙ ap (λ c. not (skipped rules log i) && c) (below_is i b)
          by_own false is = refl

    unskipped_then : unskipped rules then_ name ≡ ahead_of rules log name b
    unskipped_then =
        shorter free_then (length log) (length then_) longer (λ j past within. ap (λ o. o && not (skipped rules then_ j)) (s.others j past))
        ∙ filter_same free_then ahead (length log) free_old ∙ sym ahead_is

    prior_then : prior rules then_ name ≡ way_back rules log name b
    prior_then = ap last_of unskipped_then

    target_then : (o : Option ℕ) → way_back rules log name b ≡ o → option_and_then (target_at then_) o ≡ option_and_then (target_at log) o
    target_then None is = refl
    target_then (Some p) is = let w = way_in p is in ap (option_map (λ t. target_of t.entry.body)) (entry_old log more p w.0 w.1)

    pub from_then : from rules then_ name ≡ unwrap_or (back_to rules log name b) zeros
    from_then =
        ap (λ o. unwrap_or o zeros) (ap (option_and_then (target_at then_)) prior_then ∙ target_then (way_back rules log name b) refl)

    -- ---- where the state is broken
    pub no_way : (fix : Taken) (target : List ℕ) → fix.entry.body ≡ Reference name target → rules.tree_of fix.repository (unwrap_or (back_to rules log name b) zeros) ≡ None → completes rules then_ (Some fix) ≡ false
    no_way fix target body none =
        ap (λ c. is_none (fault_of rules then_ (Some fix)) && c) (
        ap (keeps_tree rules then_ fix) body ∙ ap (λ t. same_tree rules fix.repository t target) from_then
        ∙ ap (λ t. is_same_tree t (rules.tree_of fix.repository target)) none)
        ∙ and_no (is_none (fault_of rules then_ (Some fix))) where
          and_no : (c : Bool) → (c && false) ≡ false
          and_no true = refl
          and_no false = refl

    -- ---- where the tree is brought back
    module _ (first : first_of (lane rules log name).pending ≡ Some b) (fix : Taken) (target : List ℕ) (back : BringsBack rules log name b more fix target) where
      abbrev now : List Taken
      now = then_ ++ fix ∷ []

      first_is : (0 < b) × (b ≤ length log) × ((own b && pending rules log b) ≡ true) × ((j : ℕ) → 0 < j → j < b → (own j && pending rules log j) ≡ false)
      first_is = first_number (λ i. own i && pending rules log i) (length log) b first

      done : completes rules then_ (Some fix) ≡ true
      done =
          ap (λ f. is_none f && keeps_tree rules then_ fix fix.entry.body) back.authorised
          ∙ ap (keeps_tree rules then_ fix) back.body ∙ ap (λ t. same_tree rules fix.repository t target) from_then ∙ back.tree

      lane_now : lane rules now name ≡ recorded (suc (length then_)) false true (above rules then_ name) (lane rules then_ name)
      lane_now =
          reference_lanes rules then_ fix name target back.body (completes rules then_ (Some fix)) (inl refl) name
          ∙ ap (λ c. cond c (recorded (suc (length then_)) (is_some (fault_of rules then_ (Some fix))) (completes rules then_ (Some fix)) (above rules then_ name) (lane rules then_ name)) (lane rules then_ name)) ((bytes_decides name name).1 refl)
          ∙ ap (λ f. recorded (suc (length then_)) (is_some f) (completes rules then_ (Some fix)) (above rules then_ name) (lane rules then_ name)) back.authorised
          ∙ ap (λ c. recorded (suc (length then_)) false c (above rules then_ name) (lane rules then_ name)) done

      above_low : above rules then_ name < b
      above_low = subst (λ (o : Option ℕ). unwrap_or o 0 < b) (sym prior_then) (by_way (way_back rules log name b) refl) where
        by_way : (o : Option ℕ) → way_back rules log name b ≡ o → unwrap_or o 0 < b
        by_way None is = first_is.0
        by_way (Some p) is = (way_in p is).2

      -- what is pending then was pending before, and so comes from b on
      waits_on : (i : ℕ) → 0 < i → (own_then i && pending rules then_ i) ≡ true → b ≤ i
      waits_on i i0 is = by_place (cases_place i) where
        cases_place : (i : ℕ) → (length log < i) ⊎ (i ≤ length log)
        cases_place i = elim (cases_lt (length log) i) [ inl past ↦ inl past | inr within ↦ inr within ]

        by_place : (length log < i) ⊎ (i ≤ length log) → b ≤ i
        by_place (inl past) = absurd (true≢false (sym is ∙ ap (λ o. o && pending rules then_ i) (s.others i past)))
        by_place (inr within) =
            let p = and_parts (own_then i) (pending rules then_ i) is in
            let q = and_parts (not (authorised rules then_ i)) (not (rescued rules then_ i)) p.1 in
            let refused : not (authorised rules log i) ≡ true = ap (λ f. not (is_none f)) (sym (fault_old rules log more i i0 within)) ∙ q.0 in
            let left : not (rescued rules log i) ≡ true = unrescued (rescued rules log i) refl q.1 in
            let waits : (own i && pending rules log i) ≡ true = ap (λ o. o && pending rules log i) (sym (own_old i i0 within) ∙ p.0) ∙ ap (λ c. c && not (rescued rules log i)) refused ∙ left in
            elim (cases_lt i b) [
              | inl less ↦ absurd (true≢false (sym waits ∙ first_is.3 i i0 less))
              | inr on ↦ on
            ] where
              unrescued : (c : Bool) → rescued rules log i ≡ c → not (rescued rules then_ i) ≡ true → not c ≡ true
              unrescued false is h = refl
              unrescued true is h = absurd (true≢false (sym h ∙ ap not (rescued_stays rules log more i i0 within is)))

      none_left : filter (is_outside (above rules then_ name) (suc (length then_))) (lane rules then_ name).pending ≡ []
      none_left =
          filter_twice (λ i. own_then i && pending rules then_ i) (is_outside (above rules then_ name) (suc (length then_))) (numbers (length then_))
          ∙ filter_same (λ i. (own_then i && pending rules then_ i) && is_outside (above rules then_ name) (suc (length then_)) i) (λ _. false) (length then_) inside
          ∙ filter_false (numbers (length then_)) where
            inside : (i : ℕ) → 0 < i → i ≤ length then_ → ((own_then i && pending rules then_ i) && is_outside (above rules then_ name) (suc (length then_)) i) ≡ false
            inside i i0 i1 = by_case (own_then i && pending rules then_ i) refl where
              by_case : (c : Bool) → (own_then i && pending rules then_ i) ≡ c → (c && is_outside (above rules then_ name) (suc (length then_)) i) ≡ false
              by_case false is = refl
              by_case true is =
                  let on = waits_on i i0 is in
                  let low = above_low in
                  ap (λ c. c || nat_le (suc (length then_)) i) (lt-leb i (above rules then_ name) (omega arith)) ∙ lt-leb (suc (length then_)) i (omega arith)

      stands_now : from rules now name ≡ target
      stands_now =
          ap (λ (l : Lane). unwrap_or (option_and_then (target_at now) (last_of l.unskipped)) zeros) lane_now
          ∙ ap (λ (o : Option ℕ). unwrap_or (option_and_then (target_at now) o) zeros) (last_push (lane rules then_ name).unskipped (suc (length then_)))
          ∙ ap (λ (e : Option Taken). unwrap_or (option_map (λ t. target_of t.entry.body) e) zeros) (entry_new then_ fix)
          ∙ ap target_of back.body

      pub mended : IsJudged rules now name target (Accepted (length (lane rules now name).pushed))
      mended = (ap (λ (l : Lane). first_of l.pending) lane_now ∙ ap first_of none_left, sym stands_now, refl)

  -- ---- nothing less
  pub least : first_of (lane rules log name).pending ≡ Some b → (more : List Taken) (f : ℕ) → length log < f → IsRescue rules (log ++ more) b f → (i : ℕ) → is_in i (from_on rules log name b) ≡ true → skipped rules (before (log ++ more) f) i ≡ true
  least first more f later is i among =
      let first_is = first_number (λ k. own k && pending rules log k) (length log) b first in
      let own_b = (and_parts (own b) (pending rules log b) first_is.2).0 in
      let w = in_numbers (λ k. free k && nat_le b k) (length log) i (ap (is_in i) (sym (filter_twice free (nat_le b) (numbers (length log)))) ∙ among) in
      let q = and_parts (free i) (nat_le b i) w.2 in
      let own_i = (and_parts (own i) (not (skipped rules log i)) q.0).0 in
      let all = log ++ more in
      let earlier = before all f in
      let n : length earlier ≡ f - 1 = length-take-le (f - 1) all (let u = is.within in omega arith) in
      let same : is.name ≡ name = one_name (entry_at all b) is.name name is.own (ap (λ e. is_entry_of e name) (entry_old log more b first_is.0 first_is.1) ∙ own_b) in
      let i1 : i ≤ length earlier = let u = w.1 in omega arith in
      let here : is_entry_of (entry_at earlier i) name ≡ true =
      ap (λ e. is_entry_of e name) (sym (entry_old earlier (drop (f - 1) all) i w.0 i1) ∙ ap (λ (l : List Taken). entry_at l i) (take-append-drop (f - 1) all) ∙ entry_old log more i w.0 w.1) ∙ own_i in
      by_prior (prior rules earlier name) refl w.0 i1 here (leb-true b i q.1) (λ p at. is.above p (ap (prior rules earlier) same ∙ at)) where
        by_prior : (o : Option ℕ) → prior rules (before (log ++ more) f) name ≡ o → 0 < i → i ≤ length (before (log ++ more) f) → is_entry_of (entry_at (before (log ++ more) f) i) name ≡ true → b ≤ i → ((p : ℕ) → prior rules (before (log ++ more) f) name ≡ Some p → p < b) → skipped rules (before (log ++ more) f) i ≡ true
        by_prior None at i0 i1 here on low = no_prior_reads rules (before (log ++ more) f) name at i i0 i1 here
        by_prior (Some p) at i0 i1 here on low = let l = low p at in (prior_reads rules (before (log ++ more) f) name p at).last i (omega arith) i1 here

pub is_mending : {P F : Type 0} (rules : Rules P F) (log : List Taken) (name : List ℕ) (b : ℕ) → IsMending rules log name b
is_mending rules log name b first more fix target s back = mended rules log name b more s first fix target back

pub is_least : {P F : Type 0} (rules : Rules P F) (log : List Taken) (name : List ℕ) (b : ℕ) → IsLeast rules log name b
is_least rules log name b first more f later is i among = least rules log name b first more f later is i among

pub is_no_way : {P F : Type 0} (rules : Rules P F) (log : List Taken) (name : List ℕ) (b : ℕ) → IsNoWay rules log name b
is_no_way rules log name b more fix target s body none = no_way rules log name b more s fix target body none
