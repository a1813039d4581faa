-- What a row says of its entry, and the verdict by all rows.
use Rattle.std.proofs.Common.{◌≡◌, ◌≤◌, ◌+◌, ◌-◌, ℕ, true, List, [], Option, Some, None, length, take, refl, ap, sym, subst, ◌∙◌, inl, inr, arith}
use Rattle.std.specs.Prelude.{not}
use Rattle.std.specs.List.{slice_get}
use Rattle.std.specs.Str.{bytes_eq}
use Rattle.std.proofs.lemmas.Bool.{and_parts, cases_Bool, cases_lt, false_from_ne_true, true≢false}
use Rattle.std.proofs.lemmas.Option.{slice_get_within}
use Rattle.git_object.specs.References.{policy_name}
use Rattle.rsl_chain.specs.Entries.{Taken, is_of}
use Rattle.judging.specs.Logs.{before, entry_at, is_entry_of, skipped}
use Rattle.judging.specs.Rules.{Rules}
use Rattle.policy_epochs.specs.declared.policies.Policy.{Policy}
use Rattle.entry_rules.specs.declared.faults.Fault.{Fault}
use Rattle.global_rules.specs.declared.whys.GlobalWhy.{GlobalWhy}
use Rattle.global_verdicts.specs.Rows.{AreRows, IsWhyOf, is_judged}
use Rattle.global_verdicts.specs.Verdicts.{Breaks, KeepFirst, Keeps, IsWhyAt}
use Rattle.global_verdicts.specs.declared.rows.Row.{Row}
use Rattle.global_verdicts.proofs.Rowed.{row_behind}

module _ (rules : Rules Policy Fault) (log : List Taken) (name : List ℕ) (rows : List Row) (are : AreRows rules name [] log rows) (k : ℕ) (row : Row) (at : slice_get rows k ≡ Some row) where
  abbrev t : Taken
  t = (row_behind rules name [] log rows k row are at).0

  own_place : k + 1 - 1 ≡ k
  own_place = omega arith

  entry_there : entry_at log (k + 1) ≡ Some t
  entry_there = ap (slice_get log) own_place ∙ (row_behind rules name [] log rows k row are at).1

  why_there : IsWhyOf rules name (before log (k + 1)) t row.why
  why_there = subst (λ (n : ℕ). IsWhyOf rules name (take n log) t row.why) (sym own_place) (row_behind rules name [] log rows k row are at).2.why

  keeps_here : row.why ≡ None → Keeps rules log name (k + 1)
  keeps_here none other counts =
      let same : t ≡ other = let e : Some t ≡ Some other = sym entry_there ∙ counts.there in cc e in
      subst (λ (u : Taken). IsWhyOf rules name (before log (k + 1)) u None) same (subst (λ (w : Option GlobalWhy). IsWhyOf rules name (before log (k + 1)) t w) none why_there)

  judged : (why : GlobalWhy) → row.why ≡ Some why → is_judged name t.entry.body ≡ true
  judged why is = elim (cases_Bool (is_judged name t.entry.body)) [
    | inl named ↦ named
    | inr unnamed ↦ absurd (let e : None ≡ Some why = sym (why_there.other unnamed) ∙ is in cc e)
  ]

  own : (why : GlobalWhy) → row.why ≡ Some why → is_of t.entry.body name ≡ true
  own why is = (and_parts (is_of t.entry.body name) (not (bytes_eq name policy_name)) (judged why is)).0

  breaks_here : (why : GlobalWhy) → row.why ≡ Some why → (is_entry_of (entry_at log (k + 1)) name ≡ true → skipped rules log (k + 1) ≡ true → ⊥) → Breaks rules log name (k + 1) why
  breaks_here why is not_skipped = record {
    t = t;
    counts = record {
      some = omega arith;
      there = entry_there;
      own = own why is;
      unskipped = false_from_ne_true (skipped rules log (k + 1)) (not_skipped (ap (λ (o : Option Taken). is_entry_of o name) entry_there ∙ own why is));
    };
    breaks = subst (λ (w : Option GlobalWhy). IsWhyOf rules name (before log (k + 1)) t w) is why_there;
  }

  pub why_here : (is_entry_of (entry_at log (k + 1)) name ≡ true → skipped rules log (k + 1) ≡ true → ⊥) → IsWhyAt rules log name (k + 1) row.why
  why_here not_skipped = by_why row.why refl where
    by_why : (why : Option GlobalWhy) → row.why ≡ why → IsWhyAt rules log name (k + 1) why
    by_why None is = keeps_here is
    by_why (Some why) is = breaks_here why is not_skipped

module _ (rules : Rules Policy Fault) (log : List Taken) (name : List ℕ) where
  pub skipped_keeps : (number : ℕ) → skipped rules log number ≡ true → Keeps rules log name number
  skipped_keeps number is t counts = absurd (true≢false (sym is ∙ counts.unskipped))

  -- ---- the first so many entries
  pub keep_none : KeepFirst rules log name 0
  keep_none number few t counts = let some = counts.some in absurd (omega (arith, some, few))

  pub keep_more : (n : ℕ) → KeepFirst rules log name n → Keeps rules log name (n + 1) → KeepFirst rules log name (n + 1)
  keep_more n first next number few = elim (cases_lt n number) [
    | inl beyond ↦ let same : n + 1 ≡ number = omega (arith, beyond, few) in subst (λ (k : ℕ). Keeps rules log name k) same next
    | inr within ↦ first number within
  ]

  -- no entry has the number 0, or one past the end
  pub keep_all : (n : ℕ) → length log ≤ n → KeepFirst rules log name n → (number : ℕ) → Keeps rules log name number
  keep_all n long first number t counts =
      let some = counts.some in
      let less = slice_get_within log (number - 1) t counts.there in
      first number (omega (arith, some, less, long)) t counts
