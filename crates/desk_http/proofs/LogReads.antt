-- What the reading of a store's log tells, whatever comes of it.
use Rattle.std.proofs.Common.{◌≡◌, ◌∙◌, refl, sym, Some}
use Rattle.std.specs.Prelude.{Result, Ok, Err}
use Rattle.octets.specs.Causes.{HasCause, count_after}
use Rattle.git_object.specs.Repository.{Repository}
use Rattle.keeper_api.specs.Undisturbed.{Undisturbed}
use Rattle.keeper_api.specs.declared.keepers.Keeper as keeper
use Rattle.rsl_chain.specs.Logs.{IsBrokenAs, log_failed}
use Rattle.rsl_chain.specs.declared.log_faults.LogFault.{LogFault}
use Rattle.rsl_chain.specs.declared.log_faults.LogFault.TheVariants.{Broken, Failed, Memory}
use Rattle.desk_turns.specs.States.{Desk, IsLoaded}
use Rattle.desk_http.specs.Opening.{HasLog, IsOfLog, IsOfOpening, IsOfWorkers, ReadsLog, Serves, StaysAt, fault_of, store_failed}
use Rattle.desk_http.specs.declared.faults.DeskFault.{DeskFault}
use Rattle.desk_http.specs.declared.faults.DeskFault.TheVariants as desk

abbrev pub refused : {T : Type 0} → DeskFault → Result T DeskFault
refused fault = Err fault

abbrev pub ended : DeskFault → Result (Unit {0}) DeskFault
ended fault = Err fault

abbrev pub all_served : Result (Unit {0}) DeskFault
all_served = Ok tt

pub opening_fault : (fault : LogFault) → IsOfOpening (fault_of fault)
opening_fault (Broken id) = tt
opening_fault Failed = tt
opening_fault Memory = tt

module _ {R : Type 0} (k : keeper.Ghosts R) (store loaded : R) where
  -- the log was loaded
  pub reads_loaded : {T : Type 0} (state : T) (beside : Desk) → Undisturbed k store loaded
      → HasCause {T = T} log_failed (k.faults store) (k.faults loaded) (Ok state) → IsLoaded (k.content loaded) beside
      → ReadsLog k store loaded (Ok state)
  reads_loaded state beside same cause is = record {
    same = same;
    counted = record { later = cause.later; is = cause.is };
    log = λ r told. (is.ids, is.log r told);
  }

  -- it was not
  pub reads_refused : {T : Type 0} (fault : LogFault) → Undisturbed k store loaded
      → HasCause {T = T} log_failed (k.faults store) (k.faults loaded) (Err fault)
      → ((r : Repository) → k.content loaded ≡ Some r → IsBrokenAs r fault) → ReadsLog k store loaded (refused {T = T} (fault_of fault))
  reads_refused (Broken id) same cause broken = record {
    same = same;
    counted = record { later = cause.later; is = cause.is };
    log = broken;
  }
  reads_refused Failed same cause broken = record {
    same = same;
    counted = record { later = cause.later; is = cause.is };
    log = broken;
  }
  reads_refused Memory same cause broken = record {
    same = same;
    counted = record { later = cause.later; is = cause.is };
    log = broken;
  }

  -- what was read of it, as another answer
  pub refused_as : {T U : Type 0} (fault : DeskFault) → ReadsLog k store loaded (refused {T = T} fault) → ReadsLog k {T = U} store loaded (Err fault)
  refused_as fault reads = record {
    same = reads.same;
    counted = record { later = reads.counted.later; is = reads.counted.is };
    log = reads.log;
  }

  unserved_at : (fault : DeskFault) → IsOfOpening fault → StaysAt loaded loaded fault
  unserved_at (desk.LogBroken id) opening = refl
  unserved_at desk.KeeperFailed opening = refl
  unserved_at desk.NoListener opening = refl
  unserved_at desk.DoorFailed opening = tt
  unserved_at desk.Memory opening = tt

  -- where no log was loaded, no more was done to the store
  pub unloaded : {T : Type 0} (fault : DeskFault) → IsOfOpening fault → ReadsLog k store loaded (refused {T = T} fault) → Serves k store loaded (ended fault)
  unloaded fault opening reads =
      record { loaded = loaded; reads = refused_as fault reads; unserved = unserved_at fault opening }

  module _ {T : Type 0} (state : T) (reads : ReadsLog k store loaded (Ok state)) where
    -- the log was loaded, and something else ended it, or nothing
    pub reads_on : {U : Type 0} (result : Result U DeskFault) → count_after store_failed (k.faults store) result ≡ k.faults store
        → ((r : Repository) → HasLog r → IsOfLog r result) → ReadsLog k store loaded result
    reads_on result quiet logs = record {
      same = reads.same;
      counted = record { later = reads.counted.later; is = reads.counted.is ∙ sym quiet };
      log = λ r told. logs r (reads.log r told);
    }

    pub unheard : Serves k store loaded (ended desk.NoListener)
    unheard = record { loaded = loaded; reads = reads_on (ended desk.NoListener) refl (λ r log. log); unserved = refl }

    pub without_workers : (new : R) (fault : DeskFault) → IsOfWorkers fault → Serves k store new (ended fault)
    without_workers new (desk.LogBroken id) staffing = absurd staffing
    without_workers new desk.KeeperFailed staffing = absurd staffing
    without_workers new desk.NoListener staffing = absurd staffing
    without_workers new desk.DoorFailed staffing =
        record { loaded = loaded; reads = reads_on (ended desk.DoorFailed) refl (λ r log. log); unserved = tt }
    without_workers new desk.Memory staffing =
        record { loaded = loaded; reads = reads_on (ended desk.Memory) refl (λ r log. tt); unserved = tt }

    pub served : (new : R) → Serves k store new all_served
    served new = record { loaded = loaded; reads = reads_on all_served refl (λ r log. log); unserved = tt }
