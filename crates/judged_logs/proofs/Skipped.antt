-- Whether an entry is skipped or pending, by what an engine answers.
use Rattle.std.proofs.Common.{◌≡◌, ◌<◌, ◌≤◌, ℕ, Bool, true, false, List, Option, Some, None, length, refl, sym, ap, inl, inr, ◌∙◌}
use Rattle.std.specs.Prelude.{◌↔◌, IsTrue}
use Rattle.std.specs.Cmp.Lexicographic.{bytes_decides}
use Rattle.std.proofs.lemmas.Bool.{cases_Bool, true≢false}
use Rattle.rsl_chain.specs.Entries.{Taken, is_of}
use Rattle.rsl_chain.specs.declared.entries.Entry.{Entry}
use Rattle.rsl_chain.specs.declared.entries.EntryBody.{EntryBody}
use Rattle.rsl_chain.specs.declared.entries.EntryBody.TheVariants.{Reference, Annotation}
use Rattle.judging.specs.Logs as logs
use Rattle.judging.specs.Rules.{Rules}
use Rattle.judging.proofs.Readers.{skipped_reads}
use Rattle.judged_logs.specs.Keeping.{HasOwn, IsPending}

module _ {P F : Type 0} (rules : Rules P F) where
  reference_of : (body : EntryBody) (policy : Option P) (annotation : Entry) → logs.may_skip rules policy annotation body ≡ true → (name : List ℕ) × (is_of body name ≡ true)
  reference_of (Reference name target) policy annotation may = (name, (bytes_decides name name).1 refl)
  reference_of (Annotation ids skip message) None annotation may = absurd (true≢false (sym may))
  reference_of (Annotation ids skip message) (Some policy) annotation may = absurd (true≢false (sym may))

  own_name : (log : List Taken) (i : ℕ) → logs.skipped rules log i ≡ true → (name : List ℕ) × (logs.is_entry_of (logs.entry_at log i) name ≡ true)
  own_name log i is =
      let skip = (skipped_reads rules log i).0 is in
      let by = skip.1 in
      let named = reference_of by.entry.entry.body (logs.policy_after rules (logs.before log skip.0)) by.annotation.entry by.may in
      (named.0, ap (λ (o : Option Taken). logs.is_entry_of o named.0) by.here ∙ named.1)

  by_case : (log : List Taken) (i : ℕ) (answer is : Bool) → 0 < i → logs.skipped rules log i ≡ is → (IsTrue answer ↔ ((0 < i) × (name : List ℕ) × (logs.is_entry_of (logs.entry_at log i) name ≡ true) × (logs.skipped rules log i ≡ true))) → answer ≡ is
  by_case log i true true some is iff = refl
  by_case log i false false some is iff = refl
  by_case log i true false some is iff = let told = iff.0 refl in absurd (true≢false (sym told.3 ∙ is))
  by_case log i false true some is iff =
      let own = own_name log i is in
      let told = iff.1 (some, own.0, own.1, is) in
      absurd (true≢false (sym told))

  pub skipped_is : (log : List Taken) (i : ℕ) (answer : Bool) → 0 < i → (IsTrue answer ↔ ((0 < i) × (name : List ℕ) × (logs.is_entry_of (logs.entry_at log i) name ≡ true) × (logs.skipped rules log i ≡ true))) → answer ≡ logs.skipped rules log i
  skipped_is log i answer some iff = by_case log i answer (logs.skipped rules log i) some refl iff

  by_pending : (log : List Taken) (b : ℕ) (answer is : Bool) → HasOwn log b → logs.pending rules log b ≡ is → (IsTrue answer ↔ IsPending rules log b) → answer ≡ is
  by_pending log b true true own is iff = refl
  by_pending log b false false own is iff = refl
  by_pending log b true false own is iff = let told = iff.0 refl in absurd (true≢false (sym told.3 ∙ is))
  by_pending log b false true own is iff =
      let told = iff.1 (own.0, own.1, own.2, is) in
      absurd (true≢false (sym told))

  pub pending_is : (log : List Taken) (b : ℕ) (answer : Bool) → HasOwn log b → (IsTrue answer ↔ IsPending rules log b) → answer ≡ logs.pending rules log b
  pending_is log b answer own iff = by_pending log b answer (logs.pending rules log b) own refl iff
