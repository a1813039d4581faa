-- Why no entry was drafted.
use Rattle.std.specs.Prelude.{◌≡◌, ℕ, List, [], ◌∷◌, Option}
use Rattle.octets.specs.Content.{with_front}
use Rattle.log_appending.specs.declared.appending.AppendFault.{AppendFault}
use Rattle.log_appending.specs.declared.appending.AppendFault.TheVariants.{ClockFailed, Exhausted, DiskFailed}
use Rattle.log_appending.specs.declared.appending.AppendFault.TheVariants.{CommitFailed, Memory, MemoryAfter}

-- the clock failed and told nothing, or it told the seconds, and memory was wanting
abbrev pub WhyUndrafted : Option (List ℕ) → Option (List ℕ) → AppendFault → Type 0
WhyUndrafted left left_now ClockFailed = left_now ≡ left
WhyUndrafted left left_now Exhausted = ⊥
WhyUndrafted left left_now DiskFailed = ⊥
WhyUndrafted left left_now CommitFailed = ⊥
WhyUndrafted left left_now Memory = (seconds : ℕ) × (left ≡ with_front (seconds ∷ []) left_now)
WhyUndrafted left left_now MemoryAfter = ⊥
