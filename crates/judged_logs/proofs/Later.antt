-- What rules that take the first entries unjudged find, beside the whole rules.
use Rattle.std.proofs.Common.{◌≡◌, ◌&&◌, ◌||◌, ◌<◌, ◌≤◌, ◌+◌, ℕ, Bool, true, false, cond, not, nat_lt, is_none, List, [], ◌∷◌, Option, Some, None, length, refl, ap, sym, ◌∙◌, inl, inr, arith}
use Rattle.std.specs.List.{filter, list_any}
use Rattle.std.specs.Result.{result_err}
use Rattle.std.specs.Str.{bytes_eq}
use Rattle.std.proofs.lemmas.Bool.{and_from, and_parts, and_right, cases_Bool, le-ltb, ltb-true, true≢false}
use Rattle.git_object.specs.References.{policy_name}
use Rattle.rsl_chain.specs.Entries.{Taken, is_of}
use Rattle.rsl_chain.specs.declared.entries.EntryBody.{EntryBody}
use Rattle.rsl_chain.specs.declared.entries.EntryBody.TheVariants.{Reference, Annotation}
use Rattle.recovery.specs.Lanes.{first_of}
use Rattle.judging.specs.Logs.{above, above_of, attested_after, authorised, before, body_fault, body_signers, completes, entry_at, fault_at, fault_of, from, is_entry_of, keeps_tree, numbers, ordinary_fault, ordinary_signers, pending, policy_after, rescued, rescues, share, signers_of}
use Rattle.judging.specs.Reads.{body_decision_reads, body_reads, may_rescue, reads_of}
use Rattle.judging.specs.Rules.{Rules}
use Rattle.judging.specs.Verdicts.{body_verdict, verdict_of}
use Rattle.judging.proofs.Counting.{any_same, filter_same, number_some, some_number}
use Rattle.judged_logs.specs.Firsts.{rescuer_of}
use Rattle.judged_logs.specs.LaterRules.{AreNumbered, rules_from}
use Rattle.judged_logs.specs.LaterLaws.{IsSameBehind, IsSameFrom}

none_kept : {F : Type 0} (b : Bool) (x : Option F) → x ≡ None → cond b None x ≡ None
none_kept true x h = refl
none_kept false x h = h

by_own : {F : Type 0} (own : Bool) (e whole part : Option F) → (whole ≡ None → part ≡ None) → cond own e whole ≡ None → cond own e part ≡ None
by_own true e whole part k h = h
by_own false e whole part k h = k h

is_nothing : {F : Type 0} (x : Option F) → is_none x ≡ true → x ≡ None
is_nothing None h = refl
is_nothing (Some x) h = absurd (true≢false (sym h))

contrary : (part whole : Bool) → (whole ≡ true → part ≡ true) → not part ≡ true → not whole ≡ true
contrary part false k h = refl
contrary true true k h = h
contrary false true k h = absurd (true≢false (sym (k refl)))

last_false : (x y z : Bool) → (x && (y && (z && false))) ≡ false
last_false true true true = refl
last_false true true false = refl
last_false true false z = refl
last_false false y z = refl

any_filter : (p q : ℕ → Bool) (ns : List ℕ) → list_any p (filter q ns) ≡ list_any (λ n. q n && p n) ns
any_filter p q [] = refl
any_filter p q (n ∷ ns) = by_test (any_filter p q ns) (q n) where
  by_test : list_any p (filter q ns) ≡ list_any (λ m. q m && p m) ns → (b : Bool) → list_any p (cond b (n ∷ filter q ns) (filter q ns)) ≡ ((b && p n) || list_any (λ m. q m && p m) ns)
  by_test rest true = ap (λ b. p n || b) rest
  by_test rest false = rest

module _ {P F : Type 0} (first : ℕ) (rules : Rules P F) where
  -- ---- faults and signers of an entry that is judged
  late_none : (t : Taken) (start : List ℕ) (attested : Option (List ℕ)) → first ≤ t.entry.number → (policy : Option P)
      → ordinary_fault (rules_from first rules) policy t start attested ≡ ordinary_fault rules policy t start attested
  late_none t start attested late None = refl
  late_none t start attested late (Some policy) = ap (λ (b : Bool). cond b None (rules.fault t.repository policy t.entry start attested)) (le-ltb t.entry.number first late)

  pub late_fault : (earlier : List Taken) (t : Taken) → first ≤ t.entry.number → fault_of (rules_from first rules) earlier (Some t) ≡ fault_of rules earlier (Some t)
  late_fault earlier t late = by_body t.entry.body where
    by_body : (body : EntryBody) → body_fault (rules_from first rules) earlier t body ≡ body_fault rules earlier t body
    by_body (Annotation ids skip message) = refl
    by_body (Reference name target) =
        ap (λ (f : Option F). cond (bytes_eq name policy_name) (result_err (rules.epoch t.repository (policy_after rules earlier) t.entry)) f)
        (late_none t (from rules earlier name) (attested_after earlier) late (policy_after rules earlier))

  pub late_verdict : (earlier : List Taken) (t : Taken) → first ≤ t.entry.number → verdict_of (rules_from first rules) earlier t ≡ verdict_of rules earlier t
  late_verdict earlier t late = ap (λ (f : Option F). body_verdict f t.entry.body) (late_fault earlier t late)

  some_signers : (t : Taken) (start : List ℕ) (attested : Option (List ℕ)) → first ≤ t.entry.number → (policy : Option P)
      → ordinary_signers (rules_from first rules) policy t start attested ≡ ordinary_signers rules policy t start attested
  some_signers t start attested late None = refl
  some_signers t start attested late (Some policy) = ap (λ (b : Bool). cond b [] (rules.signers t.repository policy t.entry start attested)) (le-ltb t.entry.number first late)

  pub late_signers : (earlier : List Taken) (t : Taken) → first ≤ t.entry.number → signers_of (rules_from first rules) earlier t ≡ signers_of rules earlier t
  late_signers earlier t late = by_body t.entry.body where
    by_body : (body : EntryBody) → body_signers (rules_from first rules) earlier t body ≡ body_signers rules earlier t body
    by_body (Annotation ids skip message) = refl
    by_body (Reference name target) =
        ap (λ (ks : List (List ℕ)). cond (bytes_eq name policy_name) [] ks) (some_signers t (from rules earlier name) (attested_after earlier) late (policy_after rules earlier))

  -- the policy's own
  pub own_fault : (earlier : List Taken) (t : Taken) → is_of t.entry.body policy_name ≡ true → fault_of (rules_from first rules) earlier (Some t) ≡ fault_of rules earlier (Some t)
  own_fault earlier t own = by_body t.entry.body own where
    by_body : (body : EntryBody) → is_of body policy_name ≡ true → body_fault (rules_from first rules) earlier t body ≡ body_fault rules earlier t body
    by_body (Annotation ids skip message) is = refl
    by_body (Reference name target) is =
        let epoch = result_err (rules.epoch t.repository (policy_after rules earlier) t.entry) in
        let part = ordinary_fault (rules_from first rules) (policy_after rules earlier) t (from rules earlier name) (attested_after earlier) in
        let whole = ordinary_fault rules (policy_after rules earlier) t (from rules earlier name) (attested_after earlier) in
        ap (λ (b : Bool). cond b epoch part) is ∙ sym (ap (λ (b : Bool). cond b epoch whole) is)

  -- ---- what has no fault has none
  none_ordinary : (t : Taken) (start : List ℕ) (attested : Option (List ℕ)) (policy : Option P)
      → ordinary_fault rules policy t start attested ≡ None → ordinary_fault (rules_from first rules) policy t start attested ≡ None
  none_ordinary t start attested None h = h
  none_ordinary t start attested (Some policy) h = none_kept (nat_lt t.entry.number first) (rules.fault t.repository policy t.entry start attested) h

  none_less : (earlier : List Taken) (x : Option Taken) → fault_of rules earlier x ≡ None → fault_of (rules_from first rules) earlier x ≡ None
  none_less earlier None h = h
  none_less earlier (Some t) h = by_body t.entry.body h where
    by_body : (body : EntryBody) → body_fault rules earlier t body ≡ None → body_fault (rules_from first rules) earlier t body ≡ None
    by_body (Annotation ids skip message) is = refl
    by_body (Reference name target) is =
        by_own (bytes_eq name policy_name) (result_err (rules.epoch t.repository (policy_after rules earlier) t.entry))
        (ordinary_fault rules (policy_after rules earlier) t (from rules earlier name) (attested_after earlier))
        (ordinary_fault (rules_from first rules) (policy_after rules earlier) t (from rules earlier name) (attested_after earlier))
        (none_ordinary t (from rules earlier name) (attested_after earlier) (policy_after rules earlier)) is

  completes_less : (earlier : List Taken) (x : Option Taken) → completes rules earlier x ≡ true → completes (rules_from first rules) earlier x ≡ true
  completes_less earlier None h = h
  completes_less earlier (Some t) h =
      let p = and_parts (is_none (fault_of rules earlier (Some t))) (keeps_tree rules earlier t t.entry.body) h in
      and_from (is_none (fault_of (rules_from first rules) earlier (Some t))) (keeps_tree rules earlier t t.entry.body)
      (ap is_none (none_less earlier (Some t) (is_nothing (fault_of rules earlier (Some t)) p.0))) p.1

  module _ (log : List Taken) where
    rescues_less : (f b : ℕ) → rescues rules log f b ≡ true → rescues (rules_from first rules) log f b ≡ true
    rescues_less f b h =
        let late = nat_lt (above_of rules (before log f) (entry_at log f)) b && nat_lt b f in
        let p = and_parts (share (entry_at log f) (entry_at log b)) (completes rules (before log f) (entry_at log f) && late) h in
        let q = and_parts (completes rules (before log f) (entry_at log f)) late p.1 in
        and_from (share (entry_at log f) (entry_at log b)) (completes (rules_from first rules) (before log f) (entry_at log f) && late) p.0
        (and_from (completes (rules_from first rules) (before log f) (entry_at log f)) late (completes_less (before log f) (entry_at log f) q.0) q.1)

    rescued_less : (b : ℕ) → rescued rules log b ≡ true → rescued (rules_from first rules) log b ≡ true
    rescued_less b h =
        let w = some_number (λ f. rescues rules log f b) (length log) h in
        number_some (λ f. rescues (rules_from first rules) log f b) (length log) w.0 w.1 w.2 (rescues_less w.0 b w.3)

    authorised_less : (i : ℕ) → authorised rules log i ≡ true → authorised (rules_from first rules) log i ≡ true
    authorised_less i h = ap is_none (none_less (before log i) (entry_at log i) (is_nothing (fault_at rules log i) h))

    pending_less : (i : ℕ) → pending (rules_from first rules) log i ≡ true → pending rules log i ≡ true
    pending_less i h =
        let p = and_parts (not (authorised (rules_from first rules) log i)) (not (rescued (rules_from first rules) log i)) h in
        and_from (not (authorised rules log i)) (not (rescued rules log i))
        (contrary (authorised (rules_from first rules) log i) (authorised rules log i) (authorised_less i) p.0)
        (contrary (rescued (rules_from first rules) log i) (rescued rules log i) (rescued_less i) p.1)

    may_rescue_less : (name : List ℕ) → may_rescue (rules_from first rules) log name ≡ true → may_rescue rules log name ≡ true
    may_rescue_less name h =
        let up = above rules log name in
        let part : ℕ → Bool = λ i. is_entry_of (entry_at log i) name && pending (rules_from first rules) log i in
        let whole : ℕ → Bool = λ i. is_entry_of (entry_at log i) name && pending rules log i in
        let w = some_number (λ i. part i && nat_lt up i) (length log) (sym (any_filter (nat_lt up) part (numbers (length log))) ∙ h) in
        let p = and_parts (part w.0) (nat_lt up w.0) w.3 in
        let q = and_parts (is_entry_of (entry_at log w.0) name) (pending (rules_from first rules) log w.0) p.0 in
        any_filter (nat_lt up) whole (numbers (length log))
        ∙ number_some (λ i. whole i && nat_lt up i) (length log) w.0 w.1 w.2
        (and_from (whole w.0) (nat_lt up w.0) (and_from (is_entry_of (entry_at log w.0) name) (pending rules log w.0) q.0 (pending_less w.0 q.1)) p.1)

    pub reads_less : (t : Taken) → reads_of (rules_from first rules) log t ≤ reads_of rules log t
    reads_less t = by_body t.entry.body where
      by_tests : (d n : ℕ) (part whole : Bool) → (part ≡ true → whole ≡ true) → d + cond part n 0 ≤ d + cond whole n 0
      by_tests d n false whole k = omega arith
      by_tests d n true true k = omega arith
      by_tests d n true false k = absurd (true≢false (sym (k refl)))

      by_body : (body : EntryBody) → body_reads (rules_from first rules) log t body ≤ body_reads rules log t body
      by_body (Annotation ids skip message) = omega arith
      by_body (Reference name target) =
          by_tests (body_decision_reads rules log t (Reference name target)) (rules.tree_reads t.repository (from rules log name) target)
          (may_rescue (rules_from first rules) log name) (may_rescue rules log name) (may_rescue_less name)

    -- ---- an entry from the number on, and what rescues it
    module _ (numbered : AreNumbered log) where
      late_at : (i : ℕ) → 0 < i → first ≤ i → (t : Taken) → entry_at log i ≡ Some t → first ≤ t.entry.number
      late_at i some late t is = let n = numbered i t some is in omega arith

      pub fault_late : (i : ℕ) → 0 < i → first ≤ i → fault_at (rules_from first rules) log i ≡ fault_at rules log i
      fault_late i some late = by_entry (entry_at log i) (late_at i some late) where
        by_entry : (x : Option Taken) → ((t : Taken) → x ≡ Some t → first ≤ t.entry.number) → fault_of (rules_from first rules) (before log i) x ≡ fault_of rules (before log i) x
        by_entry None at = refl
        by_entry (Some t) at = late_fault (before log i) t (at t refl)

      completes_late : (f : ℕ) → 0 < f → first ≤ f → completes (rules_from first rules) (before log f) (entry_at log f) ≡ completes rules (before log f) (entry_at log f)
      completes_late f some late = by_entry (entry_at log f) (late_at f some late) where
        by_entry : (x : Option Taken) → ((t : Taken) → x ≡ Some t → first ≤ t.entry.number) → completes (rules_from first rules) (before log f) x ≡ completes rules (before log f) x
        by_entry None at = refl
        by_entry (Some t) at = ap (λ (x : Option F). is_none x && keeps_tree rules (before log f) t t.entry.body) (late_fault (before log f) t (at t refl))

      rescues_late : (f b : ℕ) → 0 < f → first ≤ b → rescues (rules_from first rules) log f b ≡ rescues rules log f b
      rescues_late f b some late =
          let both = share (entry_at log f) (entry_at log b) in
          let behind = nat_lt (above_of rules (before log f) (entry_at log f)) b in
          elim (cases_Bool (nat_lt b f)) [
            | inl is ↦ let above_b = ltb-true b f is in ap (λ (c : Bool). both && (c && (behind && nat_lt b f))) (completes_late f some (omega arith))
            | inr isnt ↦
                let none : (c : Bool) → (both && (c && (behind && nat_lt b f))) ≡ false = λ c. ap (λ (z : Bool). both && (c && (behind && z))) isnt ∙ last_false both c behind in
                none (completes (rules_from first rules) (before log f) (entry_at log f)) ∙ sym (none (completes rules (before log f) (entry_at log f)))
          ]

      pub rescuer_late : (b : ℕ) → 0 < b → first ≤ b → rescuer_of (rules_from first rules) log b ≡ rescuer_of rules log b
      rescuer_late b some late =
          let part = filter (λ f. rescues (rules_from first rules) log f b) (numbers (length log)) in
          ap (λ (x : Option F). cond (is_none x) None (first_of part)) (fault_late b some late)
          ∙ ap (λ (ns : List ℕ). cond (authorised rules log b) None (first_of ns))
          (filter_same (λ f. rescues (rules_from first rules) log f b) (λ f. rescues rules log f b) (length log) (λ f f0 f1. rescues_late f b f0 late))

      pub pending_late : (b : ℕ) → 0 < b → first ≤ b → pending (rules_from first rules) log b ≡ pending rules log b
      pending_late b some late =
          ap (λ (x : Option F). not (is_none x) && not (rescued (rules_from first rules) log b)) (fault_late b some late)
          ∙ ap (λ (r : Bool). not (authorised rules log b) && not r)
          (any_same (λ f. rescues (rules_from first rules) log f b) (λ f. rescues rules log f b) (length log) (λ f f0 f1. rescues_late f b f0 late))

      -- where a reference stands at an entry that is judged
      pub may_rescue_late : (name : List ℕ) → first ≤ above rules log name → may_rescue (rules_from first rules) log name ≡ may_rescue rules log name
      may_rescue_late name late =
          let up = above rules log name in
          let part : ℕ → Bool = λ i. is_entry_of (entry_at log i) name && pending (rules_from first rules) log i in
          let whole : ℕ → Bool = λ i. is_entry_of (entry_at log i) name && pending rules log i in
          any_filter (nat_lt up) part (numbers (length log))
          ∙ any_same (λ i. part i && nat_lt up i) (λ i. whole i && nat_lt up i) (length log) (λ i i0 i1.
          elim (cases_Bool (nat_lt up i)) [
            | inl is ↦ let behind = ltb-true up i is in ap (λ (b : Bool). (is_entry_of (entry_at log i) name && b) && nat_lt up i) (pending_late i i0 (omega arith))
            | inr isnt ↦ and_right (part i) (nat_lt up i) isnt ∙ sym (and_right (whole i) (nat_lt up i) isnt)
          ])
          ∙ sym (any_filter (nat_lt up) whole (numbers (length log)))

      pub same_from : (i : ℕ) → 0 < i → first ≤ i → IsSameFrom first rules log i
      same_from i some late = record {
        fault = fault_late i some late;
        verdict = λ t is. late_verdict (before log i) t (late_at i some late t is);
        signers = λ t is. late_signers (before log i) t (late_at i some late t is);
        pending = pending_late i some late;
        rescuer = rescuer_late i some late;
      }

    own_late : (i : ℕ) → is_entry_of (entry_at log i) policy_name ≡ true → fault_at (rules_from first rules) log i ≡ fault_at rules log i
    own_late i own = by_entry (entry_at log i) own where
      by_entry : (x : Option Taken) → is_entry_of x policy_name ≡ true → fault_of (rules_from first rules) (before log i) x ≡ fault_of rules (before log i) x
      by_entry None is = refl
      by_entry (Some t) is = own_fault (before log i) t is

    pub same_behind : IsSameBehind first rules log
    same_behind = record {
      policy = refl;
      prior = λ name. refl;
      target = λ name. refl;
      skipped = λ number. refl;
      skipper = λ number. refl;
      own = own_late;
    }
