-- What is noted with one entry more.
use Rattle.std.proofs.Common.{◌≡◌, ◌&&◌, ◌||◌, ◌<◌, ◌≤◌, ◌++◌, ℕ, suc, Bool, true, false, cond, not, nat_lt, ltb-true, List, [], ◌∷◌, Option, Some, None, length, refl, ap, sym, inl, inr, ◌∙◌, arith}
use Rattle.std.specs.BTreeMap.{BTreeMap}
use Rattle.std.specs.List.{list_any}
use Rattle.std.proofs.lemmas.Bool.{and_parts, cases_Bool, cases_lt, true≢false}
use Rattle.rsl_chain.specs.Entries.{Taken}
use Rattle.rsl_chain.specs.declared.entries.EntryBody.TheVariants.{Reference, Annotation}
use Rattle.recovery.specs.Lanes.{is_in}
use Rattle.judging.specs.Logs.{above, above_of, authorised, body_above, completes, entry_at, has_id, is_entry_of, lane, pending, rescued, share, skipped, skips}
use Rattle.judging.specs.Rules.{Rules}
use Rattle.judging.proofs.Appends.{entry_old, long, no_entry, pending_old, rescues_now, skipped_last, skipped_old}
use Rattle.judging.proofs.LaneSteps.{shared, skips_nothing}
use Rattle.judging.proofs.Notes.{may, numbers_in, shares_nothing, skips_is}
use Rattle.judged_logs.specs.Firsts.{rescuer_of, skipper_of}
use Rattle.judged_logs.specs.Keeping.{AreOpen, HasOwn, IsNoted, Knows, is_skipped_among, noted}
use Rattle.judged_logs.specs.declared.kept.ByWhom.{ByWhom}
use Rattle.judged_logs.proofs.Firsts.{and_no, noted_none, rescuer_more, skipper_more, unrescued_then, unskipped_then}

twice : (s l m : Bool) → (s && (l && m)) ≡ (l && (s && (l && m)))
twice true true m = refl
twice true false m = refl
twice false true m = refl
twice false false m = refl

module _ {P F : Type 0} (rules : Rules P F) (log : List Taken) (t : Taken) where
  -- ---- an annotation
  module _ (ids : List (List ℕ)) (skip : Bool) (message : List ℕ) (body : t.entry.body ≡ Annotation ids skip message) where
    abbrev listed : ℕ → Bool
    listed i = list_any (λ id. has_id (entry_at log i) id) ids

    hit_is : (i : ℕ) → 0 < i → skipper_of rules log i ≡ None → skips rules log (Some t) (entry_at log i) ≡ is_skipped_among rules (log ++ t ∷ []) ids i
    hit_is i some none =
        elim (cases_lt (length log) i) [
          | inl past ↦
              ap (skips rules log (Some t)) (no_entry log i past)
              ∙ sym (ap (λ b. list_any (λ id. has_id (entry_at (log ++ t ∷ []) i) id) ids && b) (skipped_last rules (log ++ t ∷ []) i (let e = long log t in omega arith)) ∙ and_no (list_any (λ id. has_id (entry_at (log ++ t ∷ []) i) id) ids))
          | inr within ↦
              let s = skips_is rules log t ids skip message body (entry_at log i) in
              s ∙ twice skip (listed i) (may rules log t (entry_at log i)) ∙ ap (λ b. listed i && b) (sym s)
              ∙ ap (λ b. listed i && (b || skips rules log (Some t) (entry_at log i))) (sym (unskipped_then rules log i none))
              ∙ ap (λ b. listed i && b) (sym (skipped_old rules log t i some within))
              ∙ ap (λ x. list_any (λ id. has_id x id) ids && skipped rules (log ++ t ∷ []) i) (sym (entry_old log (t ∷ []) i some within))
        ]

    by_skipper : (i : ℕ) (o : Option ℕ) → 0 < i → skipper_of rules log i ≡ o → noted o (is_skipped_among rules (log ++ t ∷ []) ids i) (suc (length log)) ≡ noted o (skips rules log (Some t) (entry_at log i)) (suc (length log))
    by_skipper i (Some a) some is = refl
    by_skipper i None some is = ap (λ b. noted None b (suc (length log))) (sym (hit_is i some is))

    pub skipper_noted : (i : ℕ) → 0 < i → noted (skipper_of rules log i) (is_skipped_among rules (log ++ t ∷ []) ids i) (suc (length log)) ≡ skipper_of rules (log ++ t ∷ []) i
    skipper_noted i some = by_skipper i (skipper_of rules log i) some refl ∙ sym (skipper_more rules log t i some)

    pub rescuer_same : (b : ℕ) → 0 < b → rescuer_of rules log b ≡ rescuer_of rules (log ++ t ∷ []) b
    rescuer_same b some =
        sym (rescuer_more rules log t b some
        ∙ ap (λ c. noted (rescuer_of rules log b) (not (authorised rules log b) && (c && (completes rules log (Some t) && (nat_lt (above_of rules log (Some t)) b && nat_lt b (suc (length log)))))) (suc (length log))) (shares_nothing rules log t ids skip message body (entry_at log b))
        ∙ ap (λ c. noted (rescuer_of rules log b) c (suc (length log))) (and_no (not (authorised rules log b)))
        ∙ noted_none (rescuer_of rules log b) (suc (length log)))

  -- ---- an entry of a reference
  module _ (name target : List ℕ) (body : t.entry.body ≡ Reference name target) (open_numbers : List ℕ) (are : AreOpen rules log (Reference name target) open_numbers) where
    pub skipper_same : (i : ℕ) → 0 < i → skipper_of rules log i ≡ skipper_of rules (log ++ t ∷ []) i
    skipper_same i some =
        sym (skipper_more rules log t i some
        ∙ ap (λ c. noted (skipper_of rules log i) c (suc (length log))) (skips_nothing rules log t name target body (entry_at log i))
        ∙ noted_none (skipper_of rules log i) (suc (length log)))

    within : (b : ℕ) (n : List ℕ) → is_entry_of (entry_at log b) n ≡ true → b ≤ length log
    within b n own =
        elim (cases_lt (length log) b) [
          | inl past ↦ absurd (true≢false (sym own ∙ ap (λ x. is_entry_of x n) (no_entry log b past)))
          | inr few ↦ few
        ]

    pub own_now : (b : ℕ) → is_in b open_numbers ≡ true → HasOwn (log ++ t ∷ []) b
    own_now b is =
        let w = are.only b is in
        (w.0, w.1, ap (λ x. is_entry_of x w.1) (entry_old log (t ∷ []) b w.0 (within b w.1 w.2)) ∙ w.2)

    not_open : (b : ℕ) → 0 < b → pending rules log b ≡ true → is_in b open_numbers ≡ false → (c : Bool) → rescues_now rules log t b ≡ c → c ≡ false
    not_open b some waits out false is = refl
    not_open b some waits out true is =
        let p = and_parts (share (Some t) (entry_at log b)) (completes rules log (Some t) && (nat_lt (above_of rules log (Some t)) b && nat_lt b (suc (length log)))) is in
        let q = and_parts (completes rules log (Some t)) (nat_lt (above_of rules log (Some t)) b && nat_lt b (suc (length log))) p.1 in
        let r = and_parts (nat_lt (above_of rules log (Some t)) b) (nat_lt b (suc (length log))) q.1 in
        let own : is_entry_of (entry_at log b) name ≡ true = sym (shared rules log t name target body (entry_at log b)) ∙ p.0 in
        let up : nat_lt (above rules log name) b ≡ true = ap (λ c. nat_lt (body_above rules log c) b) (sym body) ∙ r.0 in
        let there : is_in b (lane rules log name).pending ≡ true = numbers_in (λ i. is_entry_of (entry_at log i) name && pending rules log i) (length log) b some (within b name own) (ap (λ c. c && pending rules log b) own ∙ waits) in
        absurd (true≢false (sym (are.all name target refl b there (ltb-true (above rules log name) b up)) ∙ out))

    not_not : (b : Bool) → b ≡ not (not b)
    not_not true = refl
    not_not false = refl

    hit_open : (b : ℕ) → 0 < b → authorised rules log b ≡ false → rescuer_of rules log b ≡ None → (c : Bool) → is_in b open_numbers ≡ c → (c && not (pending rules (log ++ t ∷ []) b)) ≡ rescues_now rules log t b
    hit_open b some refused none true is =
        let w = are.only b is in
        ap not (pending_old rules log t b some (within b w.1 w.2) ∙ ap (λ c. c && not (rescues_now rules log t b)) w.3) ∙ sym (not_not (rescues_now rules log t b))
    hit_open b some refused none false is =
        let waits : pending rules log b ≡ true = ap (λ c. not c && not (rescued rules log b)) refused ∙ ap not (unrescued_then rules log b none refused) in
        sym (not_open b some waits is (rescues_now rules log t b) refl)

    authorised_not : (b : ℕ) → authorised rules log b ≡ true → (c : Bool) → is_in b open_numbers ≡ c → c ≡ false
    authorised_not b is false out = refl
    authorised_not b is true there =
        let w = are.only b there in
        absurd (true≢false (sym w.3 ∙ ap (λ c. not c && not (rescued rules log b)) is))

    by_rescuer : (b : ℕ) (o : Option ℕ) → 0 < b → rescuer_of rules log b ≡ o → noted o (is_in b open_numbers && not (pending rules (log ++ t ∷ []) b)) (suc (length log)) ≡ noted o (not (authorised rules log b) && rescues_now rules log t b) (suc (length log))
    by_rescuer b (Some f) some is = refl
    by_rescuer b None some is =
        ap (λ c. noted None c (suc (length log)))
        (elim (cases_Bool (authorised rules log b)) [
          | inl lawful ↦
              ap (λ c. c && not (pending rules (log ++ t ∷ []) b)) (authorised_not b lawful (is_in b open_numbers) refl) ∙ sym (ap (λ c. not c && rescues_now rules log t b) lawful)
          | inr refused ↦
              hit_open b some refused is (is_in b open_numbers) refl ∙ sym (ap (λ c. not c && rescues_now rules log t b) refused)
        ])

    pub rescuer_noted : (b : ℕ) → 0 < b → noted (rescuer_of rules log b) (is_in b open_numbers && not (pending rules (log ++ t ∷ []) b)) (suc (length log)) ≡ rescuer_of rules (log ++ t ∷ []) b
    rescuer_noted b some = by_rescuer b (rescuer_of rules log b) some refl ∙ sym (rescuer_more rules log t b some)

-- ---- what is known with one entry more
module _ {P F : Type 0} (rules : Rules P F) (log : List Taken) (t : Taken) where
  module _ (ids : List (List ℕ)) (skip : Bool) (message : List ℕ) (body : t.entry.body ≡ Annotation ids skip message) where
    pub note_known : (was : ByWhom) (now : BTreeMap ℕ ℕ) (by : ℕ) → by ≡ suc (length log) → IsNoted (is_skipped_among rules (log ++ t ∷ []) ids) by was.skippers now → Knows rules log was → Knows rules (log ++ t ∷ []) (record { skippers = now; rescuers = was.rescuers })
    note_known was now by at made knows = record {
      skipper = λ i some.
          made i some ∙ ap (λ o. noted o (is_skipped_among rules (log ++ t ∷ []) ids i) by) (knows.skipper i some)
          ∙ ap (noted (skipper_of rules log i) (is_skipped_among rules (log ++ t ∷ []) ids i)) at ∙ skipper_noted rules log t ids skip message body i some;
      rescuer = λ b some. knows.rescuer b some ∙ rescuer_same rules log t ids skip message body b some;
    }

  module _ (name target : List ℕ) (body : t.entry.body ≡ Reference name target) (open_numbers : List ℕ) (are : AreOpen rules log (Reference name target) open_numbers) where
    pub reference_known : (was : ByWhom) (now : BTreeMap ℕ ℕ) (by : ℕ) → by ≡ suc (length log) → IsNoted (λ b. is_in b open_numbers && not (pending rules (log ++ t ∷ []) b)) by was.rescuers now → Knows rules log was → Knows rules (log ++ t ∷ []) (record { skippers = was.skippers; rescuers = now })
    reference_known was now by at made knows = record {
      skipper = λ i some. knows.skipper i some ∙ skipper_same rules log t name target body open_numbers are i some;
      rescuer = λ b some.
          made b some ∙ ap (λ o. noted o (is_in b open_numbers && not (pending rules (log ++ t ∷ []) b)) by) (knows.rescuer b some)
          ∙ ap (noted (rescuer_of rules log b) (is_in b open_numbers && not (pending rules (log ++ t ∷ []) b))) at ∙ rescuer_noted rules log t name target body open_numbers are b some;
    }
