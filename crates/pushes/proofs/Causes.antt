-- The count of faults after a call that answers a fault of a call below.
use Rattle.std.proofs.Common.{◌≡◌, ℕ, Bool, List, Result, Ok, Err, refl, sym, ap, ◌∙◌, arith}
use Rattle.std.specs.Prelude.{IfErr, ◌≤◌, if◌then◌else◌}
use Rattle.std.specs.Result.{IsErrAnd}
use Rattle.octets.specs.Causes.{HasCause, one_more}
use Rattle.octets.proofs.Causing.{after_quiet}
use Rattle.git_object.specs.Objects.{Pair}
use Rattle.keeper_api.specs.Faults.{keeper_failed}
use Rattle.keeper_api.specs.declared.keeper_faults.KeeperFault.{KeeperFault}
use Rattle.keeper_api.specs.declared.keeper_faults.KeeperFault.TheVariants as keeper_
use Rattle.rsl_chain.specs.Logs.{log_failed}
use Rattle.rsl_chain.specs.declared.log_faults.LogFault.{LogFault}
use Rattle.rsl_chain.specs.declared.log_faults.LogFault.TheVariants as log_
use Rattle.pushes.specs.Making.{StopsWriting, fault_of_keeper, fault_of_log, make_failed}
use Rattle.pushes.specs.declared.make_faults.MakeFault.{MakeFault}
use Rattle.pushes.specs.declared.make_faults.MakeFault.TheVariants.{Broken, Missing, TooLarge, KeeperFailed, Memory}

log_same : (fault : LogFault) → make_failed (fault_of_log fault) ≡ log_failed fault
log_same (log_.Broken named) = refl
log_same log_.Failed = refl
log_same log_.Memory = refl

keeper_same : (fault : KeeperFault) → make_failed (fault_of_keeper fault) ≡ keeper_failed fault
keeper_same keeper_.Failed = refl
keeper_same keeper_.Memory = refl

module _ {T : Type 0} {before mid now : ℕ} (result : Result T MakeFault) where
  -- one more is counted by both, or by none
  turned : (fault : MakeFault) (b : Bool) → IsErrAnd result (λ f. f ≡ fault) → make_failed fault ≡ b → mid ≡ before → mid ≤ now
      → now ≡ (if b then one_more mid else mid)
      → HasCause make_failed before now result
  turned fault b is same quiet later counted = after_quiet result quiet (by_result result is)
    where
      by_result : (answer : Result T MakeFault) → IsErrAnd answer (λ f. f ≡ fault) → HasCause make_failed mid now answer
      by_result (Ok done) e = absurd e
      by_result (Err other) e = record { later = later; is = counted ∙ ap (λ (c : Bool). if c then one_more mid else mid) (sym (ap make_failed e ∙ same)) }

  pub log_cause : {U : Type 0} (fault : LogFault) → IsErrAnd result (λ f. f ≡ fault_of_log fault) → mid ≡ before
      → HasCause {T = U} log_failed mid now (Err fault) → HasCause make_failed before now result
  log_cause fault is quiet cause = turned (fault_of_log fault) (log_failed fault) is (log_same fault) quiet cause.later cause.is

  pub keeper_cause : {U : Type 0} (fault : KeeperFault) → IsErrAnd result (λ f. f ≡ fault_of_keeper fault) → mid ≡ before
      → HasCause {T = U} keeper_failed mid now (Err fault) → HasCause make_failed before now result
  keeper_cause fault is quiet cause = turned (fault_of_keeper fault) (keeper_failed fault) is (keeper_same fault) quiet cause.later cause.is

-- writing counts none
pub text_cause : (objects : List Pair) (id : List ℕ) {before now : ℕ} (result : Result (List ℕ) MakeFault) → now ≡ before
    → IfErr result (StopsWriting objects id) → HasCause make_failed before now result
text_cause objects id (Ok text) quiet stops = record { later = omega (arith, quiet); is = quiet }
text_cause objects id (Err (Broken named)) quiet stops = record { later = omega (arith, quiet); is = quiet }
text_cause objects id (Err (Missing missing)) quiet stops = absurd stops
text_cause objects id (Err TooLarge) quiet stops = absurd stops
text_cause objects id (Err KeeperFailed) quiet stops = absurd stops
text_cause objects id (Err Memory) quiet stops = record { later = omega (arith, quiet); is = quiet }
