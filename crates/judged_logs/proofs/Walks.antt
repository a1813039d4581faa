-- The way back over a reference's entries: where it begins, a step of it, and where it ends.
use Rattle.std.proofs.Common.{◌≡◌, ◌⊎◌, ◌&&◌, ◌<◌, ◌≤◌, ◌+◌, ◌-◌, ◌++◌, ℕ, suc, Bool, true, false, cond, not, nat_le, nat_lt, List, [], ◌∷◌, Option, Some, None, length, drop, refl, ap, sym, inl, inr, ◌∙◌, arith, append_assoc}
use Rattle.std.specs.Prelude.{reverse}
use Rattle.std.specs.List.{filter}
use Rattle.std.specs.Option.{option_and_then, option_map, unwrap_or}
use Rattle.std.proofs.lemmas.Bool.{le-leb, le-ltb, lt-ltb, ne_eqb, true≢false}
use Rattle.std.proofs.lemmas.List.{append-nil, length-append, length-take-le, reverse-append, reverse-reverse, take-append-drop}
use Rattle.std.proofs.lemmas.List.Elements.{filter-append}
use Rattle.rsl_chain.specs.Entries.{Taken, target_of}
use Rattle.recovery.specs.Lanes.{last_of}
use Rattle.judging.specs.Logs.{above, before, entry_at, is_entry_of, numbers, prior, prior_target, skipped, skips, target_at, unskipped}
use Rattle.judging.specs.Readings.{IsPrior}
use Rattle.judging.specs.Rules.{Rules}
use Rattle.judging.proofs.Appends.{entry_old, skips_old}
use Rattle.judging.proofs.Counting.{filter_suc, number_some, some_number}
use Rattle.judging.proofs.Readers.{no_prior_reads, prior_reads}
use Rattle.judged_logs.specs.Mends.{back_to, from_on, way_back}
use Rattle.judged_logs.specs.Walking as walking
use Rattle.judged_logs.specs.Walking.{HasEnded, IsWalked, up_to}
use Rattle.judged_logs.proofs.Numbers.{last_push, no_last, none_on, shorter}

some_is : (p : ℕ) → 0 < p → Some p ≡ walking.some_number p
some_is p some = sym (ap (λ b. cond b None (Some p)) (ne_eqb p 0 (λ e. absurd (omega arith))))

module _ {P F : Type 0} (rules : Rules P F) where
  -- what an annotation of a log skips stays skipped with more entries at the end
  skipped_stays : (log more : List Taken) (i : ℕ) → 0 < i → i ≤ length log → skipped rules log i ≡ true → skipped rules (log ++ more) i ≡ true
  skipped_stays log more i i0 i1 is =
      let w = some_number (λ a. nat_lt i a && skips rules (before log a) (entry_at log a) (entry_at log i)) (length log) is in
      let l = length-append log more in
      number_some (λ a. nat_lt i a && skips rules (before (log ++ more) a) (entry_at (log ++ more) a) (entry_at (log ++ more) i)) (length (log ++ more)) w.0 w.1 (let u = w.2 in omega arith)
      (ap (λ c. nat_lt i w.0 && c) (skips_old rules log more w.0 i w.1 w.2 i0 i1) ∙ w.3)

  module _ (log : List Taken) (name : List ℕ) (b : ℕ) where
    abbrev free : ℕ → Bool
    free i = is_entry_of (entry_at log i) name && not (skipped rules log i)

    no_free : (i : ℕ) → (is_entry_of (entry_at log i) name ≡ true → skipped rules log i ≡ true) → free i ≡ false
    no_free i h = by_own (is_entry_of (entry_at log i) name) refl where
      by_own : (o : Bool) → is_entry_of (entry_at log i) name ≡ o → (o && not (skipped rules log i)) ≡ false
      by_own true is = ap not (h is)
      by_own false is = refl

    -- ---- the beginning
    begun : (o : Option ℕ) → prior rules log name ≡ o → IsWalked rules log name b (unwrap_or o 0) (option_and_then (target_at log) o) []
    begun None is =
        let none : unskipped rules log name ≡ [] = no_last (unskipped rules log name) is in record {
          within = omega arith;
          own = λ some. absurd (omega arith);
          target = refl;
          later = ap (λ (xs : List ℕ). reverse (filter (nat_le b) xs)) none;
          earlier = ap (λ (xs : List ℕ). filter (λ i. nat_lt i b) xs) none;
        }
    begun (Some p) is =
        let reads : IsPrior rules log name p = prior_reads rules log name p is in
        let same : unskipped rules log name ≡ up_to rules log name b p = shorter free p (length log) reads.within (λ j past within. no_free j (λ own. reads.last j past within own)) in record {
          within = reads.within;
          own = λ some. reads.own;
          target = ap (option_and_then (target_at log)) (some_is p reads.first);
          later = ap (λ (xs : List ℕ). reverse (filter (nat_le b) xs)) same;
          earlier = ap (λ (xs : List ℕ). filter (λ i. nat_lt i b) xs) same;
        }

    pub begins : IsWalked rules log name b (above rules log name) (prior_target rules log name) []
    begins = begun (prior rules log name) refl

    -- ---- a step
    module _ (at : ℕ) (from : Option (List ℕ)) (found : List ℕ) (some : 0 < at) (walked : IsWalked rules log name b at from found) where
      abbrev earlier : List Taken
      earlier = before log at

      split : earlier ++ drop (at - 1) log ≡ log
      split = take-append-drop (at - 1) log

      long : length earlier ≡ at - 1
      long = length-take-le (at - 1) log (let u = walked.within in omega arith)

      entry_then : (i : ℕ) → 0 < i → i < at → entry_at log i ≡ entry_at earlier i
      entry_then i i0 i1 = ap (λ (l : List Taken). entry_at l i) (sym split) ∙ entry_old earlier (drop (at - 1) log) i i0 (let l = long in omega arith)

      skipped_now : (i : ℕ) → 0 < i → i < at → skipped rules earlier i ≡ true → skipped rules log i ≡ true
      skipped_now i i0 i1 is = ap (λ (l : List Taken). skipped rules l i) (sym split) ∙ skipped_stays earlier (drop (at - 1) log) i i0 (let l = long in omega arith) is

      last_is : up_to rules log name b at ≡ up_to rules log name b (at - 1) ++ cond (not (skipped rules log at)) (at ∷ []) []
      last_is =
          ap (λ (k : ℕ). filter free (numbers k)) (let e : at ≡ suc (at - 1) = omega arith in e) ∙ filter_suc free (at - 1)
          ∙ ap (λ (k : ℕ). up_to rules log name b (at - 1) ++ cond (free k) (k ∷ []) []) (let e : suc (at - 1) ≡ at = omega arith in e)
          ∙ ap (λ c. up_to rules log name b (at - 1) ++ cond (c && not (skipped rules log at)) (at ∷ []) []) (walked.own some)

      -- the next entry, and what was passed over
      pub record Next (next : ℕ) (to : Option (List ℕ)) : Type 0 where
        pub less : next < at
        pub own : 0 < next → is_entry_of (entry_at log next) name ≡ true
        pub target : to ≡ option_and_then (target_at log) (walking.some_number next)
        pub passed : up_to rules log name b (at - 1) ≡ up_to rules log name b next

      next_by : (o : Option ℕ) → prior rules earlier name ≡ o → Next (unwrap_or o 0) (option_and_then (target_at earlier) o)
      next_by None is = record {
        less = some;
        own = λ more. absurd (omega arith);
        target = refl;
        passed = shorter free 0 (at - 1) (omega arith) (λ j past within. no_free j (λ own. skipped_now j past (omega arith) (no_prior_reads rules earlier name is j past (let l = long in omega arith) (ap (λ e. is_entry_of e name) (sym (entry_then j past (omega arith))) ∙ own))));
      }
      next_by (Some p) is =
          let reads : IsPrior rules earlier name p = prior_reads rules earlier name p is in
          let less : p < at = let l = long in let u = reads.within in omega arith in record {
            less = less;
            own = λ more. ap (λ e. is_entry_of e name) (entry_then p reads.first less) ∙ reads.own;
            target = ap (option_map (λ t. target_of t.entry.body)) (sym (entry_then p reads.first less)) ∙ ap (option_and_then (target_at log)) (some_is p reads.first);
            passed = shorter free p (at - 1) (omega arith) (λ j past within. no_free j (λ own. skipped_now j (omega arith) (omega arith) (reads.last j past (let l = long in omega arith) (ap (λ e. is_entry_of e name) (sym (entry_then j (omega arith) (omega arith))) ∙ own))));
          }

      stepped : (c : Bool) → skipped rules log at ≡ c → (c ≡ true) ⊎ (b ≤ at) → (next : ℕ) (to : Option (List ℕ)) → Next next to → IsWalked rules log name b next to (cond c found (found ++ at ∷ []))
      stepped true is go next to n =
          let same : up_to rules log name b at ≡ up_to rules log name b next = last_is ∙ ap (λ c. up_to rules log name b (at - 1) ++ cond (not c) (at ∷ []) []) is ∙ append-nil (up_to rules log name b (at - 1)) ∙ n.passed in record {
            within = let u = n.less in let v = walked.within in omega arith;
            own = n.own;
            target = n.target;
            later = walked.later ∙ ap (λ (xs : List ℕ). found ++ reverse (filter (nat_le b) xs)) same;
            earlier = walked.earlier ∙ ap (λ (xs : List ℕ). filter (λ i. nat_lt i b) xs) same;
          }
      stepped false is (inl clash) next to n = absurd (true≢false (sym clash))
      stepped false is (inr on) next to n =
          let rest = up_to rules log name b next in
          let same : up_to rules log name b at ≡ rest ++ at ∷ [] = last_is ∙ ap (λ c. up_to rules log name b (at - 1) ++ cond (not c) (at ∷ []) []) is ∙ ap (λ (xs : List ℕ). xs ++ at ∷ []) n.passed in
          let keeps : filter (nat_le b) (at ∷ []) ≡ at ∷ [] = ap (λ c. cond c (at ∷ []) []) (le-leb b at on) in
          let drops : filter (λ i. nat_lt i b) (at ∷ []) ≡ [] = ap (λ c. cond c (at ∷ []) []) (le-ltb at b on) in record {
            within = let u = n.less in let v = walked.within in omega arith;
            own = n.own;
            target = n.target;
            later =
                walked.later
                ∙ ap (λ (xs : List ℕ). found ++ reverse xs) (ap (filter (nat_le b)) same ∙ filter-append (nat_le b) rest (at ∷ []) ∙ ap (λ (xs : List ℕ). filter (nat_le b) rest ++ xs) keeps)
                ∙ ap (λ (xs : List ℕ). found ++ xs) (reverse-append (filter (nat_le b) rest) (at ∷ []))
                ∙ sym (append_assoc found (at ∷ []) (reverse (filter (nat_le b) rest)));
            earlier =
                walked.earlier
                ∙ ap (filter (λ i. nat_lt i b)) same ∙ filter-append (λ i. nat_lt i b) rest (at ∷ []) ∙ ap (λ (xs : List ℕ). filter (λ i. nat_lt i b) rest ++ xs) drops ∙ append-nil (filter (λ i. nat_lt i b) rest);
          }

      -- the entry before is less, and the way goes on from it
      pub less_next : unwrap_or (prior rules earlier name) 0 < at
      less_next = (next_by (prior rules earlier name) refl).less

      pub step : (skipped rules log at ≡ true) ⊎ (b ≤ at) → IsWalked rules log name b (unwrap_or (prior rules earlier name) 0) (prior_target rules earlier name) (cond (skipped rules log at) found (found ++ at ∷ []))
      step go = stepped (skipped rules log at) refl go (unwrap_or (prior rules earlier name) 0) (prior_target rules earlier name) (next_by (prior rules earlier name) refl)

    -- ---- the end
    module _ (at : ℕ) (from : Option (List ℕ)) (found : List ℕ) (walked : IsWalked rules log name b at from found) where
      none_later : HasEnded rules log b at → filter (nat_le b) (up_to rules log name b at) ≡ []
      none_later (inl is) = ap (λ (k : ℕ). filter (nat_le b) (up_to rules log name b k)) is
      none_later (inr (some, less, un)) = none_on free at b less

      pub skips_are : HasEnded rules log b at → reverse found ≡ from_on rules log name b
      skips_are ended =
          ap reverse (sym (walked.later ∙ ap (λ (xs : List ℕ). found ++ reverse xs) (none_later ended) ∙ append-nil found))
          ∙ reverse-reverse (from_on rules log name b)

      pub prior_is : HasEnded rules log b at → walking.some_number at ≡ way_back rules log name b
      prior_is (inl is) = sym (ap last_of (walked.earlier ∙ ap (λ (k : ℕ). filter (λ i. nat_lt i b) (up_to rules log name b k)) is) ∙ sym (ap walking.some_number is))
      prior_is (inr (some, less, un)) =
          let rest = up_to rules log name b (at - 1) in
          let same : up_to rules log name b at ≡ rest ++ at ∷ [] = last_is at from found some walked ∙ ap (λ c. rest ++ cond (not c) (at ∷ []) []) un in
          let keeps : filter (λ i. nat_lt i b) (at ∷ []) ≡ at ∷ [] = ap (λ c. cond c (at ∷ []) []) (lt-ltb at b less) in
          sym (some_is at some)
          ∙ sym (ap last_of (walked.earlier ∙ ap (filter (λ i. nat_lt i b)) same ∙ filter-append (λ i. nat_lt i b) rest (at ∷ []) ∙ ap (λ (xs : List ℕ). filter (λ i. nat_lt i b) rest ++ xs) keeps)
          ∙ last_push (filter (λ i. nat_lt i b) rest) at)

      pub target_is : HasEnded rules log b at → from ≡ back_to rules log name b
      target_is ended = walked.target ∙ ap (option_and_then (target_at log)) (prior_is ended)
