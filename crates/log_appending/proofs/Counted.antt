-- The counts of faults after `record` are those of its ending.
use Rattle.std.proofs.Common.{ℕ}
use Rattle.std.specs.Prelude.{Result, Ok, Err}
use Rattle.std.proofs.Math.Nat.{le_refl}
use Rattle.octets.specs.Causes.{HasCause}
use Rattle.worlds.specs.Counts.{Faults, IsCounted, NoneFalls}
use Rattle.log_appending.specs.Outcomes.{record_ending}
use Rattle.log_appending.specs.Recording.{clock_failed, disk_failed, keeper_failed, sink_failed}
use Rattle.log_appending.specs.declared.appending.AppendFault.TheVariants as append
use Rattle.log_appending.specs.declared.opening.ReadingFault.TheVariants as reading
use Rattle.log_appending.specs.declared.telling.RecordFault.{RecordFault}
use Rattle.log_appending.specs.declared.telling.RecordFault.TheVariants.{Unread, BreakUntold, Unappended, SinkFailed}

module _ (f : Faults) (s k d c : ℕ) where
  falls : (outcome : Result (Unit {0}) RecordFault) → HasCause sink_failed f.sink s outcome → HasCause keeper_failed f.keeper k outcome → HasCause disk_failed f.disk d outcome → HasCause clock_failed f.clock c outcome → NoneFalls f (record f { sink = s; keeper = k; disk = d; clock = c })
  falls outcome sink keeper disk clock = record { source = le_refl f.source; sink = sink.later; keeper = keeper.later; disk = disk.later; entropy = le_refl f.entropy; clock = clock.later; peer = le_refl f.peer }

  pub counted : (outcome : Result (Unit {0}) RecordFault) → HasCause sink_failed f.sink s outcome → HasCause keeper_failed f.keeper k outcome → HasCause disk_failed f.disk d outcome → HasCause clock_failed f.clock c outcome → IsCounted (record_ending outcome) f (record f { sink = s; keeper = k; disk = d; clock = c })
  counted (Ok done) sink keeper disk clock = record { is = λ i. record f { sink = sink.is i; keeper = keeper.is i; disk = disk.is i; clock = clock.is i }; later = falls (Ok done) sink keeper disk clock }
  counted (Err (Unread reading.KeyFile)) sink keeper disk clock = record { is = λ i. record f { sink = sink.is i; keeper = keeper.is i; disk = disk.is i; clock = clock.is i }; later = falls (Err (Unread reading.KeyFile)) sink keeper disk clock }
  counted (Err (Unread reading.DiskFailed)) sink keeper disk clock = record { is = λ i. record f { sink = sink.is i; keeper = keeper.is i; disk = disk.is i; clock = clock.is i }; later = falls (Err (Unread reading.DiskFailed)) sink keeper disk clock }
  counted (Err (Unread (reading.LogBroken id))) sink keeper disk clock = record { is = λ i. record f { sink = sink.is i; keeper = keeper.is i; disk = disk.is i; clock = clock.is i }; later = falls (Err (Unread (reading.LogBroken id))) sink keeper disk clock }
  counted (Err (Unread reading.TooLarge)) sink keeper disk clock = record { is = λ i. record f { sink = sink.is i; keeper = keeper.is i; disk = disk.is i; clock = clock.is i }; later = falls (Err (Unread reading.TooLarge)) sink keeper disk clock }
  counted (Err (Unread reading.KeeperFailed)) sink keeper disk clock = record { is = λ i. record f { sink = sink.is i; keeper = keeper.is i; disk = disk.is i; clock = clock.is i }; later = falls (Err (Unread reading.KeeperFailed)) sink keeper disk clock }
  counted (Err (Unread reading.Memory)) sink keeper disk clock = record { is = λ i. record f { sink = sink.is i; keeper = keeper.is i; disk = disk.is i; clock = clock.is i }; later = falls (Err (Unread reading.Memory)) sink keeper disk clock }
  counted (Err (BreakUntold id)) sink keeper disk clock = record { is = λ i. record f { sink = sink.is i; keeper = keeper.is i; disk = disk.is i; clock = clock.is i }; later = falls (Err (BreakUntold id)) sink keeper disk clock }
  counted (Err (Unappended append.ClockFailed)) sink keeper disk clock = record { is = λ i. record f { sink = sink.is i; keeper = keeper.is i; disk = disk.is i; clock = clock.is i }; later = falls (Err (Unappended append.ClockFailed)) sink keeper disk clock }
  counted (Err (Unappended append.Exhausted)) sink keeper disk clock = record { is = λ i. record f { sink = sink.is i; keeper = keeper.is i; disk = disk.is i; clock = clock.is i }; later = falls (Err (Unappended append.Exhausted)) sink keeper disk clock }
  counted (Err (Unappended append.DiskFailed)) sink keeper disk clock = record { is = λ i. record f { sink = sink.is i; keeper = keeper.is i; disk = disk.is i; clock = clock.is i }; later = falls (Err (Unappended append.DiskFailed)) sink keeper disk clock }
  counted (Err (Unappended append.CommitFailed)) sink keeper disk clock = record { is = λ i. record f { sink = sink.is i; keeper = keeper.is i; disk = disk.is i; clock = clock.is i }; later = falls (Err (Unappended append.CommitFailed)) sink keeper disk clock }
  counted (Err (Unappended append.Memory)) sink keeper disk clock = record { is = λ i. record f { sink = sink.is i; keeper = keeper.is i; disk = disk.is i; clock = clock.is i }; later = falls (Err (Unappended append.Memory)) sink keeper disk clock }
  counted (Err (Unappended append.MemoryAfter)) sink keeper disk clock = record { is = λ i. record f { sink = sink.is i; keeper = keeper.is i; disk = disk.is i; clock = clock.is i }; later = falls (Err (Unappended append.MemoryAfter)) sink keeper disk clock }
  counted (Err SinkFailed) sink keeper disk clock = record { is = λ i. record f { sink = sink.is i; keeper = keeper.is i; disk = disk.is i; clock = clock.is i }; later = falls (Err SinkFailed) sink keeper disk clock }
