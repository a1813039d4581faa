-- When a fault may be answered: where the count of faults of the object that was called rose, and only there.
use Rattle.std.specs.Prelude.{ℕ, ◌≡◌, ◌+◌, ◌-◌, ◌^◌, ◌≤◌, min, Bool, true, if◌then◌else◌, Result, Ok, Err}

-- one more, or the same at the end of the counter's type
abbrev pub one_more : ℕ → ℕ
one_more count = min (count + 1) (2 ^ 64 - 1)

-- each error is a fault
abbrev pub each : {E : Type 0} → E → Bool
each error = true

-- the count after an answer: one more where its error is a fault of the object that counts, and else as before
abbrev pub count_after : {T E : Type 0} → (E → Bool) → ℕ → Result T E → ℕ
count_after is_fault before (Ok done) = before
count_after is_fault before (Err error) = (if is_fault error then one_more before else before)

-- one fault was counted exactly where the answer is one of the object that counts
pub record HasCause {T E : Type 0} (is_fault : E → Bool) (before now : ℕ) (result : Result T E) : Type 0 where
  pub later : before ≤ now
  pub is : now ≡ count_after is_fault before result
