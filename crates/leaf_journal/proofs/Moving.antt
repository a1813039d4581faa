-- How a run of calls of a disk goes on.
use Rattle.std.proofs.Common.{inl, inr, ⊎_elim, ℕ, List, arith}
use Rattle.edge_io.specs.Moments.{Elapses, LeavesOnly}

module _ {D : Type 0} (moment : D → ℕ) (left_since : D → ℕ → List ℕ → Type 0) where
  -- before the first call
  pub started : (old : D) (P : List ℕ → Type 0) → ((c : List ℕ) → left_since old (moment old) c → P c) → LeavesOnly moment left_since old old P
  started old P here = record { later = omega arith; each = here; before = λ t c le left. inl left }

  -- one call more, after which a crash leaves what has P
  pub goes_on : (old mid new : D) (P may_leave : List ℕ → Type 0) → LeavesOnly moment left_since old mid P → Elapses (moment mid) (moment new) (left_since mid) (left_since new) may_leave
      → ((c : List ℕ) → may_leave c → P c) → LeavesOnly moment left_since old new P
  goes_on old mid new P may_leave so_far time here = record {
    later = omega (arith, so_far.later, time.later);
    each = λ c left. ⊎_elim (so_far.each c) (here c) (time.nothing_else (moment old) c so_far.later left);
    before = λ t c le left. ⊎_elim (so_far.before t c le) (λ now. inr (here c now)) (time.nothing_else t c (omega (arith, le, so_far.later)) left);
  }

  -- a run of calls more, which leaves what has P
  pub then : (old mid new : D) (P : List ℕ → Type 0) → LeavesOnly moment left_since old mid P → LeavesOnly moment left_since mid new P → LeavesOnly moment left_since old new P
  then old mid new P first next = record {
    later = omega (arith, first.later, next.later);
    each = λ c left. ⊎_elim (first.each c) (λ here. here) (next.before (moment old) c first.later left);
    before = λ t c le left. ⊎_elim (first.before t c le) (λ here. inr here) (next.before t c (omega (arith, le, first.later)) left);
  }

  -- less is said of the same run
  pub weaker : (old new : D) (P Q : List ℕ → Type 0) → ((c : List ℕ) → P c → Q c) → LeavesOnly moment left_since old new P → LeavesOnly moment left_since old new Q
  weaker old new P Q from run = record {
    later = run.later;
    each = λ c left. from c (run.each c left);
    before = λ t c le left. ⊎_elim (λ past. inl past) (λ here. inr (from c here)) (run.before t c le left);
  }

module _ {D : Type 0} (moment : D → ℕ) (left_since : D → ℕ → List ℕ → Type 0) (may_leave : D → List ℕ → Type 0) where
  -- two calls that leave no more than there could be
  pub kept_twice : (old mid new : D) → ((c : List ℕ) → left_since old (moment old) c → may_leave old c)
      → Elapses (moment old) (moment mid) (left_since old) (left_since mid) (may_leave mid) → ((c : List ℕ) → may_leave mid c → may_leave old c)
      → Elapses (moment mid) (moment new) (left_since mid) (left_since new) (may_leave new) → ((c : List ℕ) → may_leave new c → may_leave mid c)
      → LeavesOnly moment left_since old new (may_leave old)
  kept_twice old mid new only first less next lesser =
      goes_on moment left_since old mid new (may_leave old) (may_leave new)
      (goes_on moment left_since old old mid (may_leave old) (may_leave mid) (started moment left_since old (may_leave old) only) first less)
      next (λ c may. less c (lesser c may))

  -- two runs of calls that leave no more than there could be
  pub kept_on : (old mid new : D) → LeavesOnly moment left_since old mid (may_leave old) → ((c : List ℕ) → may_leave mid c → may_leave old c)
      → LeavesOnly moment left_since mid new (may_leave mid) → LeavesOnly moment left_since old new (may_leave old)
  kept_on old mid new first less next = then moment left_since old mid new (may_leave old) first (weaker moment left_since mid new (may_leave mid) (may_leave old) less next)
