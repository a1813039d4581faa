-- The policy in force, read aloud.
use Rattle.std.proofs.Common.{◌≡◌, ◌⊎◌, ◌<◌, ◌≤◌, ◌+◌, ◌-◌, ◌++◌, ℕ, suc, zero, Bool, true, false, cond, List, [], ◌∷◌, Option, Some, None, Result, Ok, Err, length, take, refl, ap, sym, subst, inl, inr, ◌∙◌, arith}
use Rattle.std.specs.List.{slice_get}
use Rattle.std.proofs.lemmas.Bool.{true≢false}
use Rattle.std.proofs.lemmas.List.{take_more, take_at}
use Rattle.std.proofs.lemmas.List.Sums.{fold_push}
use Rattle.std.proofs.lemmas.Option.{same_Some, slice_get_cases}
use Rattle.rsl_chain.specs.Entries.{Taken, is_of}
use Rattle.git_object.specs.References.{policy_name}
use Rattle.judging.specs.Rules.{Rules}
use Rattle.judging.specs.Logs.{before, entry_at, is_entry_of, next_policy, opened, policy_after}
use Rattle.judging.specs.Readings.{IsInForce, OpensNone}

at_or_below : (j n : ℕ) → j ≤ suc n → (j ≤ n) ⊎ (j ≡ suc n)
at_or_below zero n h = inl (omega arith)
at_or_below (suc j) zero h = inr (omega arith)
at_or_below (suc j) (suc n) h = elim (at_or_below j n (omega arith)) [ inl a ↦ inl (omega arith) | inr e ↦ inr (ap suc e) ]

module _ {P F : Type 0} (rules : Rules P F) (log : List Taken) where
  -- no entry of the policy's reference above m, up to n, opened a policy
  abbrev Refused : ℕ → ℕ → Type 0
  Refused m n = (j : ℕ) (t : Taken) → m < j → j ≤ n → entry_at log j ≡ Some t → is_entry_of (entry_at log j) policy_name ≡ true → OpensNone rules log j t

  -- what the first n entries make of the policy in force
  abbrev Force : ℕ → Option P → Type 0
  Force n None = Refused 0 n
  Force n (Some p) =
      (k : ℕ) × (t : Taken) × (0 < k) × (k ≤ n) × (entry_at log k ≡ Some t) × (is_entry_of (entry_at log k) policy_name ≡ true) × (rules.epoch t.repository (policy_after rules (before log k)) t.entry ≡ Ok p) × Refused k n

  own_entry : (j : ℕ) (t : Taken) → entry_at log j ≡ Some t → is_entry_of (entry_at log j) policy_name ≡ is_of t.entry.body policy_name
  own_entry j t there = ap (λ e. is_entry_of e policy_name) there

  one_more : (m n : ℕ) (t : Taken) → entry_at log (suc n) ≡ Some t → (is_of t.entry.body policy_name ≡ true → OpensNone rules log (suc n) t) → Refused m n → Refused m (suc n)
  one_more m n t there new old j u above within at own =
      elim (at_or_below j n within) [
        | inl a ↦ old j u above a at own
        | inr e ↦
            let same : t ≡ u = same_Some t u (sym there ∙ ap (entry_at log) (sym e) ∙ at) in
            let is : is_of t.entry.body policy_name ≡ true = sym (own_entry (suc n) t there) ∙ ap (λ i. is_entry_of (entry_at log i) policy_name) (sym e) ∙ own in
            subst (λ v. OpensNone rules log j v) same (subst (λ i. OpensNone rules log i t) (sym e) (new is))
      ]

  goes_on : (n : ℕ) (t : Taken) → entry_at log (suc n) ≡ Some t → (is_of t.entry.body policy_name ≡ true → OpensNone rules log (suc n) t) → (o : Option P) → Force n o → Force (suc n) o
  goes_on n t there new None f = one_more 0 n t there new f
  goes_on n t there new (Some p) (k, u, first, within, at, own, opens, last) = (k, u, first, omega arith, at, own, opens, one_more k n t there new last)

  module _ (n : ℕ) (t : Taken) (there : entry_at log (suc n) ≡ Some t) where
    earlier : before log (suc n) ≡ take n log
    earlier = let e : suc n - 1 ≡ n = omega arith in ap (λ i. take i log) e

    by_epoch : (o : Option P) → policy_after rules (take n log) ≡ o → Force n o → is_of t.entry.body policy_name ≡ true → (r : Result P F) → rules.epoch t.repository o t.entry ≡ r → Force (suc n) (opened rules o r)
    by_epoch o state f is (Ok next) opens = (
      suc n,
      t,
      omega arith,
      omega arith,
      there,
      own_entry (suc n) t there ∙ is,
      ap (λ l. rules.epoch t.repository (policy_after rules l) t.entry) earlier ∙ ap (λ p. rules.epoch t.repository p t.entry) state ∙ opens,
      λ j u above within at own. absurd (omega arith),
    )
    by_epoch o state f is (Err fault) opens =
        goes_on n t there (λ own. (fault, ap (λ l. rules.epoch t.repository (policy_after rules l) t.entry) earlier ∙ ap (λ p. rules.epoch t.repository p t.entry) state ∙ opens)) o f

    by_name : (o : Option P) → policy_after rules (take n log) ≡ o → Force n o → (b : Bool) → is_of t.entry.body policy_name ≡ b → Force (suc n) (cond b (opened rules o (rules.epoch t.repository o t.entry)) o)
    by_name o state f true is = by_epoch o state f is (rules.epoch t.repository o t.entry) refl
    by_name o state f false is = goes_on n t there (λ own. absurd (true≢false (sym own ∙ is))) o f

  pub force : (n : ℕ) → n ≤ length log → Force n (policy_after rules (take n log))
  force zero h = λ j t above within at own. absurd (omega arith)
  force (suc n) h =
      elim (slice_get_cases log n).1 [
        | inl w ↦
            let t = w.0 in
            let here : entry_at log (suc n) ≡ Some t = let e : suc n - 1 ≡ n = omega arith in ap (slice_get log) e ∙ w.2 in
            let more : take (suc n) log ≡ take n log ++ t ∷ [] = let e : suc n ≡ n + 1 = omega arith in ap (λ i. take i log) e ∙ take_more log n t w.1 ∙ ap (λ x. take n log ++ x ∷ []) w.3 in
            let e : policy_after rules (take (suc n) log) ≡ next_policy rules (policy_after rules (take n log)) t = ap (policy_after rules) more ∙ fold_push (next_policy rules) None (take n log) t in
            subst (Force (suc n)) (sym e) (by_name n t here (policy_after rules (take n log)) refl (force n (omega arith)) (is_of t.entry.body policy_name) refl)
        | inr w ↦ absurd (let past = w.0 in omega arith)
      ]

  whole : take (length log) log ≡ log
  whole = ap (take (length log)) (sym (append_nil log)) ∙ take_at log [] (length log) refl where
    append_nil : (l : List Taken) → l ++ [] ≡ l
    append_nil [] = refl
    append_nil (t ∷ l) = ap (λ m. t ∷ m) (append_nil l)

  at_end : (o : Option P) → policy_after rules log ≡ o → Force (length log) o
  at_end o state = subst (Force (length log)) (ap (policy_after rules) whole ∙ state) (force (length log) (omega arith))

  pub force_reads : (p : P) → policy_after rules log ≡ Some p → (k : ℕ) × IsInForce rules log p k
  force_reads p state = made (at_end (Some p) state) where
    made : Force (length log) (Some p) → (k : ℕ) × IsInForce rules log p k
    made (k, t, first, within, there, own, opens, last) = (k, record { first = first; within = within; epoch = t; there = there; own = own; opens = opens; last = last })

  pub no_force_reads : policy_after rules log ≡ None → (j : ℕ) (t : Taken) → 0 < j → j ≤ length log → entry_at log j ≡ Some t → is_entry_of (entry_at log j) policy_name ≡ true → OpensNone rules log j t
  no_force_reads state = at_end None state
