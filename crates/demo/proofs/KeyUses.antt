-- How often the keys of a demonstration sign.
use Rattle.std.proofs.Common.{◌+◌, ◌<◌, ◌≤◌, ◌%◌, ◌==◌, ℕ, suc, zero, Bool, true, false, cond, arith}
use Rattle.demo.specs.Histories.{uses_after}
use Rattle.demo.specs.Journals.{Uses, uses_of}

-- each at most so often
record Below (most : ℕ) (uses : Uses) : Type 0 where
  zeroth : uses.zeroth ≤ most
  first : uses.first ≤ most
  second : uses.second ≤ most

once_more : (zeroth first : Bool) (most : ℕ) (uses : Uses) → Below most uses
    → Below (suc most) (cond zeroth (record uses { zeroth = uses.zeroth + 1 }) (cond first (record uses { first = uses.first + 1 }) (record uses { second = uses.second + 1 })))
once_more true first most uses below = record { zeroth = omega arith; first = omega arith; second = omega arith }
once_more false true most uses below = record { zeroth = omega arith; first = omega arith; second = omega arith }
once_more false false most uses below = record { zeroth = omega arith; first = omega arith; second = omega arith }

all_below : (j : ℕ) → Below (suc (suc (suc j))) (uses_after j)
unfolding uses_after
all_below zero = record { zeroth = omega arith; first = omega arith; second = omega arith }
all_below (suc j) = once_more (suc j % 3 == 0) (suc j % 3 == 1) (suc (suc (suc j))) (uses_after j) (all_below j)

by_tests : (zeroth first : Bool) (most : ℕ) (uses : Uses) → Below most uses → cond zeroth uses.zeroth (cond first uses.first uses.second) ≤ most
by_tests true first most uses below = below.zeroth
by_tests false true most uses below = below.first
by_tests false false most uses below = below.second

-- there is a leaf left for each of 500 changes
pub has_leaf : (k j : ℕ) → j < 500 → uses_of k (uses_after j) < 1024
has_leaf k j few = let most = by_tests (k == 0) (k == 1) (suc (suc (suc j))) (uses_after j) (all_below j) in omega (arith, most)
