-- The definitions over the list, read aloud.
use Rattle.std.proofs.Common.{◌≡◌, ◌≢◌, ◌⊎◌, ◌↔◌, ◌&&◌, ◌<◌, ◌≤◌, ◌++◌, ℕ, Bool, true, false, cond, not, nat_lt, is_none, ltb-true, List, Option, Some, None, length, refl, ap, sym, subst, inl, inr, ◌∙◌, arith}
use Rattle.std.specs.Option.{unwrap_or}
use Rattle.std.specs.Result.{result_err}
use Rattle.std.specs.Str.{bytes_eq}
use Rattle.std.specs.Cmp.Lexicographic.{bytes_decides}
use Rattle.std.proofs.lemmas.Bool.{and_parts, cases_Bool, lt-ltb, true≢false}
use Rattle.std.proofs.lemmas.List.{length-append}
use Rattle.rsl_chain.specs.Entries.{Taken, is_of, shares, skips_id}
use Rattle.git_object.specs.References.{policy_name}
use Rattle.rsl_chain.specs.declared.entries.EntryBody.{EntryBody}
use Rattle.rsl_chain.specs.declared.entries.EntryBody.TheVariants.{Reference, Annotation}
use Rattle.recovery.specs.Lanes.{first_of}
use Rattle.judging.specs.Rules.{Rules, same_tree}
use Rattle.judging.specs.Logs.{above_of, attested_after, authorised, before, body_above, body_fault, completes, entry_at, fault_at, fault_of, from, is_entry_of, keeps_tree, lane, may_skip, ordinary_fault, pending, policy_after, prior, rescued, rescues, share, skipped, skips}
use Rattle.judging.specs.Readings.{HasFault, IsPrior, IsRescue, IsSkip, IsViolation, Stays}
use Rattle.judging.proofs.Appends.{fault_old, rescues_old}
use Rattle.judging.proofs.Counting.{first_number, last_number, no_first, no_last, number_some, some_number}

is_none_from : {X : Type 0} (o : Option X) → is_none o ≡ true → o ≡ None
is_none_from None h = refl
is_none_from (Some x) h = absurd (true≢false (sym h))

both : (a b : Bool) → a ≡ true → b ≡ true → (a && b) ≡ true
both a b p q = ap (λ x. x && b) p ∙ q

not_false : (b : Bool) → not b ≡ true → b ≡ false
not_false true h = absurd (true≢false (sym h))
not_false false h = refl

not_true : (b : Bool) → not b ≡ false → b ≡ true
not_true true h = refl
not_true false h = absurd (true≢false h)

module _ {P F : Type 0} (rules : Rules P F) (log : List Taken) where
  -- ---- skips
  skip_parts : (earlier : List Taken) (a x : Option Taken) → skips rules earlier a x ≡ true → (s : Taken) × (t : Taken) × (a ≡ Some s) × (x ≡ Some t) × (skips_id s.entry.body t.entry.id ≡ true) × (may_skip rules (policy_after rules earlier) s.entry t.entry.body ≡ true)
  skip_parts earlier None x h = absurd (true≢false (sym h))
  skip_parts earlier (Some s) None h = absurd (true≢false (sym h))
  skip_parts earlier (Some s) (Some t) h =
      let p = and_parts (skips_id s.entry.body t.entry.id) (may_skip rules (policy_after rules earlier) s.entry t.entry.body) h in
      (s, t, refl, refl, p.0, p.1)

  abbrev test : ℕ → ℕ → Bool
  test i a = nat_lt i a && skips rules (before log a) (entry_at log a) (entry_at log i)

  pub skipped_reads : (i : ℕ) → (skipped rules log i ≡ true) ↔ ((a : ℕ) × IsSkip rules log i a)
  skipped_reads i = (
    λ h.
        let w = some_number (test i) (length log) h in
        let p = and_parts (nat_lt i w.0) (skips rules (before log w.0) (entry_at log w.0) (entry_at log i)) w.3 in
        let s = skip_parts (before log w.0) (entry_at log w.0) (entry_at log i) p.1 in
        (w.0, record { later = ltb-true i w.0 p.0; within = w.2; annotation = s.0; entry = s.1; there = s.2; here = s.3; lists = s.4; may = s.5 }),
    λ w.
        let is = w.1 in
        let fact : skips rules (before log w.0) (Some is.annotation) (Some is.entry) ≡ true = both (skips_id is.annotation.entry.body is.entry.entry.id) (may_skip rules (policy_after rules (before log w.0)) is.annotation.entry is.entry.entry.body) is.lists is.may in
        let at : skips rules (before log w.0) (entry_at log w.0) (entry_at log i) ≡ true = ap (λ x. skips rules (before log w.0) x (entry_at log i)) is.there ∙ ap (skips rules (before log w.0) (Some is.annotation)) is.here ∙ fact in
        let l = is.later in
        number_some (test i) (length log) w.0 (omega arith) is.within (both (nat_lt i w.0) (skips rules (before log w.0) (entry_at log w.0) (entry_at log i)) (lt-ltb i w.0 l) at),
  )

  -- ---- priors
  pub prior_reads : (name : List ℕ) (i : ℕ) → prior rules log name ≡ Some i → IsPrior rules log name i
  prior_reads name i h =
      let w = last_number (λ k. is_entry_of (entry_at log k) name && not (skipped rules log k)) (length log) i h in
      let p = and_parts (is_entry_of (entry_at log i) name) (not (skipped rules log i)) w.2 in
      record {
        first = w.0;
        within = w.1;
        own = p.0;
        unskipped = not_false (skipped rules log i) p.1;
        last = λ j a b own. not_true (skipped rules log j) (sym (ap (λ x. x && not (skipped rules log j)) own) ∙ w.3 j a b);
      }

  pub no_prior_reads : (name : List ℕ) → prior rules log name ≡ None → (j : ℕ) → 0 < j → j ≤ length log → is_entry_of (entry_at log j) name ≡ true → skipped rules log j ≡ true
  no_prior_reads name h j a b own =
      not_true (skipped rules log j) (sym (ap (λ x. x && not (skipped rules log j)) own) ∙ no_last (λ k. is_entry_of (entry_at log k) name && not (skipped rules log k)) (length log) h j a b)

  -- ---- verdicts
  pub pending_reads : (name : List ℕ) (i : ℕ) (fault : F) → first_of (lane rules log name).pending ≡ Some i → fault_at rules log i ≡ Some fault → IsViolation rules log name i fault
  pending_reads name i fault h f =
      let w = first_number (λ k. is_entry_of (entry_at log k) name && pending rules log k) (length log) i h in
      let p = and_parts (is_entry_of (entry_at log i) name) (pending rules log i) w.2 in
      let q = and_parts (not (authorised rules log i)) (not (rescued rules log i)) p.1 in
      record {
        first = w.0;
        within = w.1;
        own = p.0;
        found = f;
        unrescued = not_false (rescued rules log i) q.1;
        least = λ j a b own. not_pending j (sym (ap (λ x. x && pending rules log j) own) ∙ w.3 j a b);
      } where
        not_pending : (j : ℕ) → pending rules log j ≡ false → (fault_at rules log j ≡ None) ⊎ (rescued rules log j ≡ true)
        not_pending j h =
            elim (cases_Bool (authorised rules log j)) [
              | inl is ↦ inl (is_none_from (fault_at rules log j) is)
              | inr isnt ↦ inr (not_true (rescued rules log j) (sym (ap (λ b. not b && not (rescued rules log j)) isnt) ∙ h))
            ]

  pub none_pending_reads : (name : List ℕ) → first_of (lane rules log name).pending ≡ None → (j : ℕ) → 0 < j → j ≤ length log → is_entry_of (entry_at log j) name ≡ true → (fault_at rules log j ≡ None) ⊎ (rescued rules log j ≡ true)
  none_pending_reads name h j a b own =
      let e : pending rules log j ≡ false = sym (ap (λ x. x && pending rules log j) own) ∙ no_first (λ k. is_entry_of (entry_at log k) name && pending rules log k) (length log) h j a b in
      elim (cases_Bool (authorised rules log j)) [
        | inl is ↦ inl (is_none_from (fault_at rules log j) is)
        | inr isnt ↦ inr (not_true (rescued rules log j) (sym (ap (λ b. not b && not (rescued rules log j)) isnt) ∙ e))
      ]

  -- ---- more entries at the end
  pub rescued_stays : (more : List Taken) (b : ℕ) → 0 < b → b ≤ length log → rescued rules log b ≡ true → rescued rules (log ++ more) b ≡ true
  rescued_stays more b b0 b1 h =
      let w = some_number (λ f. rescues rules log f b) (length log) h in
      let l = length-append log more in
      number_some (λ f. rescues rules (log ++ more) f b) (length (log ++ more)) w.0 w.1 (let u = w.2 in omega arith) (rescues_old rules log more w.0 b w.1 w.2 b0 b1 ∙ w.3)

  pub stays : (more : List Taken) (i : ℕ) → 0 < i → i ≤ length log → Stays rules log more i
  stays more i a b =
      let e = fault_old rules log more i a b in
      record { same = e; stays_authorised = λ h. ap is_none e ∙ h; stays_rescued = rescued_stays more i a b }

  -- ---- faults
  name_apart : (name : List ℕ) → name ≢ policy_name → bytes_eq name policy_name ≡ false
  name_apart name h =
      elim (cases_Bool (bytes_eq name policy_name)) [ inl is ↦ absurd (h ((bytes_decides name policy_name).0 is)) | inr isnt ↦ isnt ]

  own_name : (name : List ℕ) → bytes_eq name name ≡ true
  own_name name = (bytes_decides name name).1 refl

  pub fault_reads : (i : ℕ) (t : Taken) → entry_at log i ≡ Some t → HasFault rules log i t
  fault_reads i t there = record {
    policy = λ target body.
        ap (fault_of rules (before log i)) there ∙ ap (body_fault rules (before log i) t) body
        ∙ ap (λ b. cond b (result_err (rules.epoch t.repository (policy_after rules (before log i)) t.entry)) (ordinary_fault rules (policy_after rules (before log i)) t (from rules (before log i) policy_name) (attested_after (before log i)))) (own_name policy_name);
    none = λ name target body apart none.
        ap (fault_of rules (before log i)) there ∙ ap (body_fault rules (before log i) t) body
        ∙ ap (λ b. cond b (result_err (rules.epoch t.repository (policy_after rules (before log i)) t.entry)) (ordinary_fault rules (policy_after rules (before log i)) t (from rules (before log i) name) (attested_after (before log i)))) (name_apart name apart)
        ∙ ap (λ p. ordinary_fault rules p t (from rules (before log i) name) (attested_after (before log i))) none;
    ordinary = λ name target p body apart some.
        ap (fault_of rules (before log i)) there ∙ ap (body_fault rules (before log i) t) body
        ∙ ap (λ b. cond b (result_err (rules.epoch t.repository (policy_after rules (before log i)) t.entry)) (ordinary_fault rules (policy_after rules (before log i)) t (from rules (before log i) name) (attested_after (before log i)))) (name_apart name apart)
        ∙ ap (λ p. ordinary_fault rules p t (from rules (before log i) name) (attested_after (before log i))) some;
  }

  -- ---- recoveries
  share_parts : (f b : Option Taken) → share f b ≡ true → (s : Taken) × (name : List ℕ) × (target : List ℕ) × (f ≡ Some s) × (s.entry.body ≡ Reference name target) × (is_entry_of b name ≡ true)
  share_parts None b h = absurd (true≢false (sym h))
  share_parts (Some s) None h = absurd (true≢false (sym h))
  share_parts (Some s) (Some t) h = by_body s.entry.body refl h where
    by_body : (body : EntryBody) → s.entry.body ≡ body → shares body t.entry.body ≡ true → (u : Taken) × (name : List ℕ) × (target : List ℕ) × (Some s ≡ Some u) × (u.entry.body ≡ Reference name target) × (is_of t.entry.body name ≡ true)
    by_body (Reference name target) e h = (s, name, target, refl, e, h)
    by_body (Annotation ids skip message) e h = absurd (true≢false (sym h))

  less_unwrapped : (o : Option ℕ) (b : ℕ) → unwrap_or o 0 < b → (p : ℕ) → o ≡ Some p → p < b
  less_unwrapped o b h p e = subst (λ (x : Option ℕ). unwrap_or x 0 < b) e h

  unwrapped_less : (o : Option ℕ) (b : ℕ) → 0 < b → ((p : ℕ) → o ≡ Some p → p < b) → unwrap_or o 0 < b
  unwrapped_less None b some h = some
  unwrapped_less (Some p) b some h = h p refl

  pub rescued_reads : (b : ℕ) → (rescued rules log b ≡ true) ↔ ((f : ℕ) × IsRescue rules log b f)
  rescued_reads b = (
    λ h.
        let w = some_number (λ f. rescues rules log f b) (length log) h in
        let f = w.0 in
        let p = and_parts (share (entry_at log f) (entry_at log b)) (completes rules (before log f) (entry_at log f) && (nat_lt (above_of rules (before log f) (entry_at log f)) b && nat_lt b f)) w.3 in
        let q = and_parts (completes rules (before log f) (entry_at log f)) (nat_lt (above_of rules (before log f) (entry_at log f)) b && nat_lt b f) p.1 in
        let r = and_parts (nat_lt (above_of rules (before log f) (entry_at log f)) b) (nat_lt b f) q.1 in
        let s = share_parts (entry_at log f) (entry_at log b) p.0 in
        let fix = s.0 in
        let name = s.1 in
        let target = s.2 in
        let c : (is_none (fault_of rules (before log f) (Some fix)) && same_tree rules fix.repository (from rules (before log f) name) target) ≡ true =
        ap (λ x. is_none (fault_of rules (before log f) (Some fix)) && keeps_tree rules (before log f) fix x) (sym s.4) ∙ ap (completes rules (before log f)) (sym s.3) ∙ q.0 in
        let d = and_parts (is_none (fault_of rules (before log f) (Some fix))) (same_tree rules fix.repository (from rules (before log f) name) target) c in
        let up : unwrap_or (prior rules (before log f) name) 0 ≡ above_of rules (before log f) (entry_at log f) = ap (body_above rules (before log f)) (sym s.4) ∙ ap (above_of rules (before log f)) (sym s.3) in
        let over : unwrap_or (prior rules (before log f) name) 0 < b = let l = ltb-true (above_of rules (before log f) (entry_at log f)) b r.0 in omega arith in (
          f,
          record {
            within = w.2;
            fix = fix;
            there = s.3;
            name = name;
            target = target;
            body = s.4;
            own = s.5;
            authorised = ap (fault_of rules (before log f)) s.3 ∙ is_none_from (fault_of rules (before log f) (Some fix)) d.0;
            tree = d.1;
            above = less_unwrapped (prior rules (before log f) name) b over;
            some = omega arith;
            below = ltb-true b f r.1;
          },
        ),
    λ w.
        let f = w.0 in
        let is = w.1 in
        let earlier = before log f in
        let below = is.below in
        let up : above_of rules earlier (entry_at log f) ≡ unwrap_or (prior rules earlier is.name) 0 = ap (above_of rules earlier) is.there ∙ ap (body_above rules earlier) is.body in
        let over : above_of rules earlier (entry_at log f) < b = let l = unwrapped_less (prior rules earlier is.name) b is.some is.above in omega arith in
        let shared : share (entry_at log f) (entry_at log b) ≡ true = ap (λ x. share x (entry_at log b)) is.there ∙ shares_entry is.fix (entry_at log b) is.name is.target is.body ∙ is.own in
        let done : completes rules earlier (entry_at log f) ≡ true =
        ap (completes rules earlier) is.there
        ∙ both (is_none (fault_of rules earlier (Some is.fix))) (keeps_tree rules earlier is.fix is.fix.entry.body) (ap is_none (ap (fault_of rules earlier) (sym is.there) ∙ is.authorised)) (ap (keeps_tree rules earlier is.fix) is.body ∙ is.tree) in
        number_some (λ k. rescues rules log k b) (length log) f (omega arith) is.within
        (both (share (entry_at log f) (entry_at log b)) (completes rules earlier (entry_at log f) && (nat_lt (above_of rules earlier (entry_at log f)) b && nat_lt b f)) shared
        (both (completes rules earlier (entry_at log f)) (nat_lt (above_of rules earlier (entry_at log f)) b && nat_lt b f) done
        (both (nat_lt (above_of rules earlier (entry_at log f)) b) (nat_lt b f) (lt-ltb (above_of rules earlier (entry_at log f)) b over) (lt-ltb b f below)))),
  ) where
    shares_entry : (s : Taken) (e : Option Taken) (name target : List ℕ) → s.entry.body ≡ Reference name target → share (Some s) e ≡ is_entry_of e name
    shares_entry s None name target body = refl
    shares_entry s (Some t) name target body = ap (λ x. shares x t.entry.body) body
