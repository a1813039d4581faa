-- Whether an entry is skipped, by what an engine answers; and a step of the way back over a reference's entries, by the rows of a
-- judged log.
use Rattle.std.proofs.Common.{◌≡◌, ◌⊎◌, ◌↔◌, ◌<◌, ◌≤◌, ◌-◌, ◌++◌, ℕ, Bool, true, false, cond, List, [], ◌∷◌, Option, Some, None, refl, ap, sym, subst, ◌∙◌}
use Rattle.std.specs.List.{slice_get}
use Rattle.std.specs.Option.{unwrap_or}
use Rattle.std.specs.Prelude.{IsTrue}
use Rattle.std.specs.Cmp.Lexicographic.{bytes_decides}
use Rattle.std.proofs.lemmas.Bool.{true≢false}
use Rattle.rsl_chain.specs.Entries.{Taken, is_of}
use Rattle.rsl_chain.specs.declared.entries.Entry.{Entry}
use Rattle.rsl_chain.specs.declared.entries.EntryBody.{EntryBody}
use Rattle.rsl_chain.specs.declared.entries.EntryBody.TheVariants.{Reference, Annotation}
use Rattle.judging.specs.Logs.{before, entry_at, is_entry_of, may_skip, policy_after, prior, prior_target, skipped}
use Rattle.judging.specs.Rules.{Rules}
use Rattle.judging.proofs.Readers.{skipped_reads}
use Rattle.policy_epochs.specs.declared.policies.Policy.{Policy}
use Rattle.entry_rules.specs.RealRules.{real_rules}
use Rattle.entry_rules.specs.declared.faults.Fault.{Fault}
use Rattle.judged_logs.specs.Walking.{IsWalked}
use Rattle.judged_logs.proofs.Walks.{less_next, step}
use Rattle.account_lines.specs.declared.rows.EntryRow.{EntryRow}
use Rattle.accounts.specs.Judging.{StandsFor}
use Rattle.accounts.specs.Rows.{from_of, prior_of}
use Rattle.accounts.specs.declared.judged_log.JudgedLog.{JudgedLog}
use Rattle.accounts.proofs.Rowed.{row_there}

-- ---- whether an entry is skipped

module _ (rules : Rules Policy Fault) (log : List Taken) where
  reference_of : (body : EntryBody) (policy : Option Policy) (annotation : Entry) → may_skip rules policy annotation body ≡ true → (name : List ℕ) × (is_of body name ≡ true)
  reference_of (Reference name target) policy annotation may = (name, (bytes_decides name name).1 refl)
  reference_of (Annotation ids skip message) None annotation may = absurd (true≢false (sym may))
  reference_of (Annotation ids skip message) (Some policy) annotation may = absurd (true≢false (sym may))

  own_name : (i : ℕ) → skipped rules log i ≡ true → (name : List ℕ) × (is_entry_of (entry_at log i) name ≡ true)
  own_name i is =
      let skip = (skipped_reads rules log i).0 is in
      let by = skip.1 in
      let named = reference_of by.entry.entry.body (policy_after rules (before log skip.0)) by.annotation.entry by.may in
      (named.0, ap (λ (o : Option Taken). is_entry_of o named.0) by.here ∙ named.1)

  abbrev Tells : Bool → ℕ → Type 0
  Tells answer i = IsTrue answer ↔ ((0 < i) × (name : List ℕ) × (is_entry_of (entry_at log i) name ≡ true) × (skipped rules log i ≡ true))

  by_case : (i : ℕ) (answer is : Bool) → 0 < i → skipped rules log i ≡ is → Tells answer i → answer ≡ is
  by_case i true true some is iff = refl
  by_case i false false some is iff = refl
  by_case i true false some is iff = let told = iff.0 refl in absurd (true≢false (sym told.3 ∙ is))
  by_case i false true some is iff =
      let own = own_name i is in
      let told = iff.1 (some, own.0, own.1, is) in
      absurd (true≢false (sym told))

  pub skipped_is : (i : ℕ) (answer : Bool) → 0 < i → Tells answer i → answer ≡ skipped rules log i
  skipped_is i answer some iff = by_case i answer (skipped rules log i) some refl iff

-- ---- a step

module _ (rules : Rules Policy Fault) (earlier : List Taken) (name : List ℕ) where
  prior_is : (body : EntryBody) → is_of body name ≡ true → prior_of rules earlier body ≡ prior rules earlier name
  prior_is (Reference n target) own = ap (prior rules earlier) ((bytes_decides n name).0 own)
  prior_is (Annotation ids skip message) own = absurd (true≢false (sym own))

  from_is : (body : EntryBody) → is_of body name ≡ true → from_of rules earlier body ≡ prior_target rules earlier name
  from_is (Reference n target) own = ap (prior_target rules earlier) ((bytes_decides n name).0 own)
  from_is (Annotation ids skip message) own = absurd (true≢false (sym own))

module _ (judged : JudgedLog) (log : List Taken) (stands : StandsFor log judged) (name : List ℕ) (b at : ℕ) (from : Option (List ℕ)) (found : List ℕ) (some : 0 < at) where
  abbrev rules : Rules Policy Fault
  rules = real_rules judged.engine.rules.anchor

  pub went : IsWalked rules log name b at from found → (row : EntryRow) → slice_get judged.rows (at - 1) ≡ Some row → (skipped rules log at ≡ true) ⊎ (b ≤ at)
      → (next : ℕ) → (unwrap_or row.prior 0 < at → next ≡ unwrap_or row.prior 0) → (to : Option (List ℕ)) → to ≡ row.from → (skip : Bool) → skip ≡ skipped rules log at
      → (more : List ℕ) → more ≡ cond skip found (found ++ at ∷ []) → IsWalked rules log name b next to more
  went walked row there go next is to goes skip said more kept =
      let earlier = before log at in
      let w = row_there judged.engine.rules.anchor log (at - 1) row (ap (λ (rows : List EntryRow). slice_get rows (at - 1)) (sym stands.rows) ∙ there) in
      let t = w.0 in
      let own : is_of t.entry.body name ≡ true = ap (λ (e : Option Taken). is_entry_of e name) (sym w.1) ∙ walked.own some in
      let before_is : row.prior ≡ prior rules earlier name = ap (λ (x : EntryRow). x.prior) w.2 ∙ prior_is rules earlier name t.entry.body own in
      let target : to ≡ prior_target rules earlier name = goes ∙ ap (λ (x : EntryRow). x.from) w.2 ∙ from_is rules earlier name t.entry.body own in
      let number : unwrap_or row.prior 0 ≡ unwrap_or (prior rules earlier name) 0 = ap (λ (o : Option ℕ). unwrap_or o 0) before_is in
      let less : unwrap_or row.prior 0 < at = subst (λ (n : ℕ). n < at) (sym number) (less_next rules log name b at from found some walked) in
      let to_next : next ≡ unwrap_or (prior rules earlier name) 0 = is less ∙ number in
      let numbers : more ≡ cond (skipped rules log at) found (found ++ at ∷ []) = kept ∙ ap (λ (c : Bool). cond c found (found ++ at ∷ [])) said in
      subst (λ (n : ℕ). IsWalked rules log name b n to more) (sym to_next)
      (subst (λ (o : Option (List ℕ)). IsWalked rules log name b (unwrap_or (prior rules earlier name) 0) o more) (sym target)
      (subst (λ (ns : List ℕ). IsWalked rules log name b (unwrap_or (prior rules earlier name) 0) (prior_target rules earlier name) ns) (sym numbers) (step rules log name b at from found some walked go)))
