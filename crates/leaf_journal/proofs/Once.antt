-- No leaf signs twice in a run of a key.
use Rattle.std.proofs.Common.{◌≡◌, ◌<◌, ℕ, List, [], ◌∷◌, length, inl, inr, sym, ◌∙◌, ap, subst, arith, get_or}
use Rattle.std.proofs.lemmas.List.{get_or-set_other, get_or-set_same, length-set}
use Rattle.std.proofs.lemmas.Bool.{cases_eq}
use Rattle.std.specs.Prelude.{slice_set}
use Rattle.leaf_journal.specs.Runs.{Event, IsAmong, IsKeyRun, LeavesOnce, Marks, marks_after, now_after, opened, signed, failed, released_in}
use Rattle.leaf_journal.specs.Signing.{IsMarked}

-- what is marked stays marked
pub stays_marked : (marks : List ℕ) (q k : ℕ) → q < length marks → IsMarked marks k → IsMarked (slice_set marks q 1) k
stays_marked marks q k within marked = elim (cases_eq k q) [
  | inl same ↦ λ none. (let e : get_or (slice_set marks q 1) k 0 ≡ 1 = ap (λ (j : ℕ). get_or (slice_set marks q 1) j 0) same ∙ get_or-set_same marks q 1 0 within in omega (arith, e, none))
  | inr other ↦ λ none. marked (sym (get_or-set_other marks q k 1 0 other) ∙ none)
]

module _ {S : Type 0} (U : S → ℕ → Type 0) where
  -- where a leaf may sign, each leaf in use is marked
  abbrev IsCovered : S → List ℕ → Type 0
  IsCovered now marks = 0 < length marks → (k : ℕ) → U now k → IsMarked marks k

  covered_on : (was now : S) (marks : List ℕ) (q : ℕ) → Marks U was now marks q → IsCovered was marks → IsCovered now (slice_set marks q 1)
  covered_on was now marks q step before some k used =
      let some_before : 0 < length marks = omega (arith, length-set marks q 1, some) in
      elim (step.covered k used) [
        | inl earlier ↦ stays_marked marks q k step.least.within (before some_before k earlier)
        | inr marked ↦ marked
      ]

  covered : (start : S) (events : List (Event S)) → IsKeyRun U start events → IsCovered (now_after start events) (marks_after events)
  covered start [] run some k used = absurd (omega (arith, some))
  covered start (opened s marks ∷ earlier) run some k used = run.0.covered k used
  covered start (signed s q ∷ earlier) run some k used = covered_on (now_after start earlier) s (marks_after earlier) q run.0.marking (covered start earlier run.1) some k used
  covered start (failed s q ∷ earlier) run some k used = covered_on (now_after start earlier) s (marks_after earlier) q run.0 (covered start earlier run.1) some k used

  -- what was released is in use
  stays_used : (start : S) (events : List (Event S)) → IsKeyRun U start events → (q : ℕ) → IsAmong q (released_in events) → U (now_after start events) q
  stays_used start [] run q among = absurd among
  stays_used start (opened s marks ∷ earlier) run q among = run.0.kept q (stays_used start earlier run.1 q among)
  stays_used start (signed s k ∷ earlier) run q (inl same) = subst (U s) (sym same) run.0.used
  stays_used start (signed s k ∷ earlier) run q (inr among) = run.0.marking.kept q (stays_used start earlier run.1 q among)
  stays_used start (failed s k ∷ earlier) run q among = run.0.kept q (stays_used start earlier run.1 q among)

  pub once : LeavesOnce U
  once start [] run = tt
  once start (opened s marks ∷ earlier) run = once start earlier run.1
  once start (failed s q ∷ earlier) run = once start earlier run.1
  once start (signed s q ∷ earlier) run =
      let least = run.0.marking.least in (
        (λ among. covered start earlier run.1 (omega (arith, least.within)) q (stays_used start earlier run.1 q among) least.free),
        once start earlier run.1,
      )
