-- The least leaf that is not marked is the first behind those that signed.
use Rattle.std.proofs.Common.{◌≡◌, ◌+◌, ◌<◌, ◌≤◌, ℕ, Bool, true, false, List, length, get_or, inl, inr, refl, sym, ap, subst, ◌∙◌, arith}
use Rattle.std.specs.Prelude.{Option, Some, nat_lt, slice_set}
use Rattle.std.proofs.lemmas.Bool.{cases_eq, ltb-false, ltb-true}
use Rattle.std.proofs.lemmas.List.{get_or-set_other, get_or-set_same, length-set}
use Rattle.leaf_journal.specs.Signing.{AllMarked, Covers, IsLeast, IsMarked, Signing, marking}
use Rattle.leaf_journal.proofs.Once.{stays_marked}
use Rattle.demo.specs.Journals.{IsJournal}

module _ (signer : Signing) (seen : Option (List ℕ)) (used : ℕ) (is : IsJournal signer seen used) (left : used < 1024) where
  -- some leaf is not marked
  pub not_all : AllMarked signer.marks → ⊥
  not_all all = all used (let long = is.long in omega arith) (is.free used (omega arith))

  pub least_is : (q : ℕ) → IsLeast signer.marks q → q ≡ used
  least_is q least = by (nat_lt q used) (nat_lt used q) refl refl
    where
      by : (b c : Bool) → nat_lt q used ≡ b → nat_lt used q ≡ c → q ≡ used
      by true c less other = absurd (is.marked q (ltb-true q used less) least.free)
      by false true less other = absurd (least.least used (ltb-true used q other) (is.free used (omega arith)))
      by false false less other =
          let low : used ≤ q = ltb-false q used less in
          let high : q ≤ used = ltb-false used q other in
          omega arith

  -- and then one more is marked
  pub next_journal : (q : ℕ) (now : Option (List ℕ)) (next : Signing) → IsLeast signer.marks q → next ≡ marking signer q → ((file : List ℕ) → now ≡ Some file → Covers next file) → IsJournal next now (used + 1)
  next_journal q now next least same covers =
      subst (λ (s : Signing). IsJournal s now (used + 1)) (sym (same ∙ ap (marking signer) (least_is q least))) (record {
        lms = is.lms;
        one_level = is.one_level;
        long = length-set signer.marks used 1 ∙ is.long;
        within = omega arith;
        marked = marked;
        free = free;
        covers = λ file told. subst (λ (s : Signing). Covers s file) (same ∙ ap (marking signer) (least_is q least)) (covers file told);
      })
    where
      within : used < length signer.marks
      within = let long = is.long in omega arith

      marked : (k : ℕ) → k < used + 1 → IsMarked (slice_set signer.marks used 1) k
      marked k below = elim (cases_eq k used) [
        | inl here ↦ λ none. (let one : get_or (slice_set signer.marks used 1) k 0 ≡ 1 = ap (λ (j : ℕ). get_or (slice_set signer.marks used 1) j 0) here ∙ get_or-set_same signer.marks used 1 0 within in omega (arith, one, none))
        | inr other ↦ stays_marked signer.marks used k within (is.marked k (omega (arith, other, below)))
      ]

      free : (k : ℕ) → used + 1 ≤ k → get_or (slice_set signer.marks used 1) k 0 ≡ 0
      free k past = get_or-set_other signer.marks used k 1 0 (λ e. omega (arith, e, past)) ∙ is.free k (omega arith)
