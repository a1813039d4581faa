-- The statuses by which a desk's end is told.
use Rattle.std.specs.Prelude.{ℕ, Result, Ok, Err}
use Rattle.worlds.specs.Endings.{refusal_status, status_of}
use Rattle.worlds.specs.declared.ending.Ending.TheVariants as ending
use Rattle.worlds.specs.declared.ending.Part.TheVariants as part
use Rattle.worlds.specs.declared.ending.Refusal.TheVariants as refusal
use Rattle.desk_http.specs.declared.faults.DeskFault.{DeskFault}
use Rattle.desk_http.specs.declared.faults.DeskFault.TheVariants.{LogBroken, KeeperFailed, NoListener}
use Rattle.desk_http.specs.declared.faults.DeskFault.TheVariants.{DoorFailed, Memory}

-- a log that breaks ends as it does for every command; a port that is not to be had, and a worker to whom no connection
-- comes, are faults of what comes in
abbrev pub fault_status : DeskFault → ℕ
fault_status (LogBroken id) = status_of ending.Broken
fault_status KeeperFailed = refusal_status (refusal.Fault part.Keeper)
fault_status NoListener = refusal_status (refusal.Fault part.Source)
fault_status DoorFailed = refusal_status (refusal.Fault part.Source)
fault_status Memory = refusal_status refusal.Memory

abbrev pub end_status : {T : Type 0} → Result T DeskFault → ℕ
end_status (Ok served) = status_of ending.Done
end_status (Err fault) = fault_status fault
