-- A call counts one fault, or none.
use Rattle.std.proofs.Common.{◌≡◌, inl, inr, ℕ, Bool, true, false, cond, Ok, Err}
use Rattle.std.specs.Prelude.{◌⊎◌, Result}
use Rattle.octets.specs.Causes.{HasCause, one_more}

choose : (b : Bool) (before now : ℕ) → now ≡ cond b (one_more before) before → (now ≡ before) ⊎ (now ≡ one_more before)
choose true before now e = inr e
choose false before now e = inl e

pub counted : {T E : Type 0} (is_fault : E → Bool) (before now : ℕ) (result : Result T E) → HasCause is_fault before now result → (now ≡ before) ⊎ (now ≡ one_more before)
counted is_fault before now (Ok x) cause = inl cause.is
counted is_fault before now (Err fault) cause = choose (is_fault fault) before now cause.is
