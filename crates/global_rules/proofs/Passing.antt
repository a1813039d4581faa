-- Turns of ids that lead to no commit.
use Rattle.std.proofs.Common.{◌≡◌, ◌≤◌, ◌+◌, ◌-◌, ℕ, suc, zero, List, [], length, Some, None, get_or, sym, subst, arith, inl, inr}
use Rattle.std.specs.Prelude.{slice_get}
use Rattle.std.proofs.lemmas.Option.{slice_get-get_or}
use Rattle.std.proofs.lemmas.Bool.{cases_lt}
use Rattle.global_rules.specs.Commits.{NoCommits}
use Rattle.global_rules.specs.Order.{Parents}
use Rattle.global_rules.proofs.Turns.{IsAtTurn, passes}

-- one place more
pub more_none : (parents : Parents) (ids : List (List ℕ)) (from at : ℕ) → NoCommits parents ids from at → ((id : List ℕ) → slice_get ids at ≡ Some id → parents id ≡ None)
    → NoCommits parents ids from (at + 1)
more_none parents ids from at none here k id after before is = elim (cases_lt k at) [
  | inl less ↦ none k id after less is
  | inr past ↦ here id (subst (λ (n : ℕ). slice_get ids n ≡ Some id) (let e : k ≡ at = omega arith in e) is)
]

module _ (parents : Parents) (root from : List ℕ) where
  -- the turns of the ids up to a place that lead to no commit
  pub passes_to : (n at : ℕ) (ids : List (List ℕ)) (count : ℕ) → n + at ≤ length ids → NoCommits parents ids at (n + at) → IsAtTurn parents root from at ids count
      → IsAtTurn parents root from (n + at) ids count
  passes_to zero at ids count within none walk = subst (λ (m : ℕ). IsAtTurn parents root from m ids count) (let e : at ≡ zero + at = omega arith in e) walk
  passes_to (suc n) at ids count within none walk =
      let before = passes_to n at ids count (omega (arith, within)) (λ k id after less is. none k id after (omega (arith, less)) is) walk in
      let here : slice_get ids (n + at) ≡ Some (get_or ids (n + at) []) = slice_get-get_or ids (n + at) [] (omega (arith, within)) in
      let next = passes parents root from (n + at) ids count before (get_or ids (n + at) []) here (none (n + at) (get_or ids (n + at) []) (omega arith) (omega arith) here) in
      subst (λ (m : ℕ). IsAtTurn parents root from m ids count) (let e : n + at + 1 ≡ suc n + at = omega arith in e) next

  pub passed : (at to : ℕ) (ids : List (List ℕ)) (count : ℕ) → at ≤ to → to ≤ length ids → NoCommits parents ids at to → IsAtTurn parents root from at ids count
      → IsAtTurn parents root from to ids count
  passed at to ids count on within none walk =
      let e : to - at + at ≡ to = omega (arith, on) in
      subst (λ (m : ℕ). IsAtTurn parents root from m ids count) e
      (passes_to (to - at) at ids count (omega (arith, on, within)) (subst (λ (m : ℕ). NoCommits parents ids at m) (sym e) none) walk)
