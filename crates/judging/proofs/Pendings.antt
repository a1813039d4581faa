-- Whether an entry of a reference is pending, by what is kept.
use Rattle.std.proofs.Common.{◌≡◌, ◌↔◌, ◌&&◌, ◌<◌, ◌≤◌, ℕ, true, false, List, length, sym, ap, inl, inr, ◌∙◌, arith}
use Rattle.std.proofs.lemmas.Bool.{and_parts, cases_lt, true≢false}
use Rattle.rsl_chain.specs.Entries.{Taken}
use Rattle.recovery.specs.Lanes.{Lane, is_in, lane_of}
use Rattle.judging.specs.Engines.{Stands}
use Rattle.judging.specs.Logs.{entry_at, is_entry_of, lane, pending}
use Rattle.judging.specs.Rules.{Rules}
use Rattle.judging.specs.declared.engine.Engine.{Engine}
use Rattle.judging.proofs.Appends.{no_entry}
use Rattle.judging.proofs.Notes.{in_numbers, numbers_in}

module _ {P F : Type 0} (rules : Rules P F) (log : List Taken) (e : Engine P F) (stands : Stands rules log e) where
  abbrev IsPending : ℕ → Type 0
  IsPending n = (0 < n) × (name : List ℕ) × (is_entry_of (entry_at log n) name ≡ true) × (pending rules log n ≡ true)

  within : (n : ℕ) (name : List ℕ) → is_entry_of (entry_at log n) name ≡ true → n ≤ length log
  within n name own =
      elim (cases_lt (length log) n) [
        | inl past ↦ absurd (true≢false (sym own ∙ ap (λ x. is_entry_of x name) (no_entry log n past)))
        | inr few ↦ few
      ]

  -- a number of the reference's lane is pending there where its entry is
  pub pending_is : (n : ℕ) (name : List ℕ) → is_in n (lane_of e.book.marks name).pushed ≡ true → (is_in n (lane_of e.book.marks name).pending ≡ true) ↔ IsPending n
  pending_is n name pushed = (
    λ is.
        let own : is_in n (lane rules log name).pending ≡ true = ap (λ (l : Lane). is_in n l.pending) (sym (stands.lanes name)) ∙ is in
        let q = in_numbers (λ i. is_entry_of (entry_at log i) name && pending rules log i) (length log) n own in
        let r = and_parts (is_entry_of (entry_at log n) name) (pending rules log n) q.2 in
        (q.0, name, r.0, r.1),
    λ w.
        let there : is_in n (lane rules log name).pushed ≡ true = ap (λ (l : Lane). is_in n l.pushed) (sym (stands.lanes name)) ∙ pushed in
        let q = in_numbers (λ i. is_entry_of (entry_at log i) name) (length log) n there in
        ap (λ (l : Lane). is_in n l.pending) (stands.lanes name)
        ∙ numbers_in (λ i. is_entry_of (entry_at log i) name && pending rules log i) (length log) n q.0 q.1 (ap (λ b. b && pending rules log n) q.2 ∙ w.3),
  )

  pub none_pending : (n : ℕ) → ((name : List ℕ) → is_in n (lane_of e.book.marks name).pushed ≡ false) → IsPending n → ⊥
  none_pending n none w =
      let name = w.1 in
      let there : is_in n (lane rules log name).pushed ≡ true = numbers_in (λ i. is_entry_of (entry_at log i) name) (length log) n w.0 (within n name w.2) w.2 in
      true≢false (sym there ∙ ap (λ (l : Lane). is_in n l.pushed) (sym (stands.lanes name)) ∙ none name)
