-- Causes over calls that are made one after the other.
use Rattle.std.proofs.Common.{◌≡◌, ℕ, Bool, Result, subst}
use Rattle.octets.specs.Causes.{HasCause}

-- a call after others that counted no fault
pub after_quiet : {T E : Type 0} {is_fault : E → Bool} {before mid now : ℕ} (result : Result T E) → mid ≡ before → HasCause is_fault mid now result → HasCause is_fault before now result
after_quiet {is_fault = is_fault} {now = now} result quiet cause = subst (λ (count : ℕ). HasCause is_fault count now result) quiet cause
