-- How serving ended where nobody was served.
use Rattle.std.proofs.Common.{◌≡◌, [], List, inl}
use Rattle.std.specs.Prelude.{Err}
use Rattle.desk_http.specs.declared.workers.Worker.{Worker}
use Rattle.desk_http.specs.Served.{EndsAs}
use Rattle.desk_http.specs.declared.faults.DeskFault.{DeskFault}
use Rattle.desk_http.specs.declared.faults.DeskFault.TheVariants.{LogBroken, KeeperFailed, NoListener, DoorFailed, Memory}

-- without workers it ends by any fault
pub nobody_served : {E : Type 0} (workers : List (Worker E)) (fault : DeskFault) → workers ≡ [] → EndsAs {T = Unit {0}} workers (Err fault)
nobody_served workers (LogBroken id) none = none
nobody_served workers KeeperFailed none = none
nobody_served workers NoListener none = none
nobody_served workers DoorFailed none = inl none
nobody_served workers Memory none = none
