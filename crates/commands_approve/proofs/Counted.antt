-- The counts of faults after `approve` are those of its ending.
use Rattle.std.proofs.Common.{ℕ}
use Rattle.std.specs.Prelude.{Result, Ok, Err}
use Rattle.std.proofs.Math.Nat.{le_refl}
use Rattle.octets.specs.Causes.{HasCause}
use Rattle.worlds.specs.Counts.{Faults, IsCounted, NoneFalls}
use Rattle.log_appending.proofs.Counted as recording
use Rattle.log_appending.specs.declared.telling.RecordFault.{RecordFault}
use Rattle.commands_approve.specs.Approving.{clock_failed, disk_failed, keeper_failed, sink_failed}
use Rattle.commands_approve.specs.Outcomes.{approve_ending}
use Rattle.commands_approve.specs.declared.approving.ApproveFault.{ApproveFault}
use Rattle.commands_approve.specs.declared.approving.ApproveFault.TheVariants.{Unrecorded, Unreadable, Full, TooLong}

-- an entry's outcome
abbrev untold : RecordFault → Result (Unit {0}) RecordFault
untold fault = Err fault

abbrev told : Result (Unit {0}) RecordFault
told = Ok tt

module _ (f : Faults) (s k d c : ℕ) where
  falls : (outcome : Result (Unit {0}) ApproveFault) → HasCause sink_failed f.sink s outcome → HasCause keeper_failed f.keeper k outcome → HasCause disk_failed f.disk d outcome → HasCause clock_failed f.clock c outcome → NoneFalls f (record f { sink = s; keeper = k; disk = d; clock = c })
  falls outcome sink keeper disk clock = record { source = le_refl f.source; sink = sink.later; keeper = keeper.later; disk = disk.later; entropy = le_refl f.entropy; clock = clock.later; peer = le_refl f.peer }

  pub counted : (outcome : Result (Unit {0}) ApproveFault) → HasCause sink_failed f.sink s outcome → HasCause keeper_failed f.keeper k outcome → HasCause disk_failed f.disk d outcome → HasCause clock_failed f.clock c outcome → IsCounted (approve_ending outcome) f (record f { sink = s; keeper = k; disk = d; clock = c })
  counted (Ok done) sink keeper disk clock =
      recording.counted f s k d c told (record { later = sink.later; is = sink.is }) (record { later = keeper.later; is = keeper.is }) (record { later = disk.later; is = disk.is }) (record { later = clock.later; is = clock.is })
  counted (Err (Unrecorded fault)) sink keeper disk clock =
      recording.counted f s k d c (untold fault) (record { later = sink.later; is = sink.is }) (record { later = keeper.later; is = keeper.is }) (record { later = disk.later; is = disk.is }) (record { later = clock.later; is = clock.is })
  counted (Err (Unreadable id)) sink keeper disk clock = record { is = λ i. record f { sink = sink.is i; keeper = keeper.is i; disk = disk.is i; clock = clock.is i }; later = falls (Err (Unreadable id)) sink keeper disk clock }
  counted (Err Full) sink keeper disk clock = record { is = λ i. record f { sink = sink.is i; keeper = keeper.is i; disk = disk.is i; clock = clock.is i }; later = falls (Err Full) sink keeper disk clock }
  counted (Err TooLong) sink keeper disk clock = record { is = λ i. record f { sink = sink.is i; keeper = keeper.is i; disk = disk.is i; clock = clock.is i }; later = falls (Err TooLong) sink keeper disk clock }
