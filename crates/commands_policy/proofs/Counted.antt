-- The counts of faults after `policy-apply` are those of its ending.
use Rattle.std.proofs.Common.{ℕ}
use Rattle.std.specs.Prelude.{Result, Ok, Err}
use Rattle.std.proofs.Math.Nat.{le_refl}
use Rattle.octets.specs.Causes.{HasCause}
use Rattle.worlds.specs.Counts.{Faults, IsCounted}
use Rattle.log_appending.proofs.Counted as recording
use Rattle.log_appending.specs.declared.telling.RecordFault.{RecordFault}
use Rattle.commands_policy.specs.Applying.{clock_failed, disk_failed, keeper_failed, sink_failed}
use Rattle.commands_policy.specs.Outcomes.{apply_ending}
use Rattle.commands_policy.specs.declared.applying.ApplyFault.{ApplyFault}
use Rattle.commands_policy.specs.declared.applying.ApplyFault.TheVariants.{Unrecorded, Refused}

-- a step's outcome
abbrev untold : RecordFault → Result (Unit {0}) RecordFault
untold fault = Err fault

abbrev told : Result (Unit {0}) RecordFault
told = Ok tt

module _ (f : Faults) (s k d c : ℕ) where
  pub counted : (outcome : Result (Unit {0}) ApplyFault) → HasCause sink_failed f.sink s outcome → HasCause keeper_failed f.keeper k outcome → HasCause disk_failed f.disk d outcome → HasCause clock_failed f.clock c outcome → IsCounted (apply_ending outcome) f (record f { sink = s; keeper = k; disk = d; clock = c })
  counted (Ok done) sink keeper disk clock =
      recording.counted f s k d c told (record { later = sink.later; is = sink.is }) (record { later = keeper.later; is = keeper.is }) (record { later = disk.later; is = disk.is }) (record { later = clock.later; is = clock.is })
  counted (Err (Unrecorded fault)) sink keeper disk clock =
      recording.counted f s k d c (untold fault) (record { later = sink.later; is = sink.is }) (record { later = keeper.later; is = keeper.is }) (record { later = disk.later; is = disk.is }) (record { later = clock.later; is = clock.is })
  counted (Err (Refused why line)) sink keeper disk clock = record {
    is = λ i. record f { sink = sink.is i; keeper = keeper.is i; disk = disk.is i; clock = clock.is i };
    later = record { source = le_refl f.source; sink = sink.later; keeper = keeper.later; disk = disk.later; entropy = le_refl f.entropy; clock = clock.later; peer = le_refl f.peer };
  }
