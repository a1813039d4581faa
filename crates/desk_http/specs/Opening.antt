-- Why no desk is open over a store, or serves no more, and what that leaves of the store.
use Rattle.std.specs.Prelude.{◌≡◌, ℕ, Bool, true, false, List, Some, Result, Ok, Err}
use Rattle.octets.specs.Causes.{HasCause}
use Rattle.git_object.specs.Repository.{Repository}
use Rattle.keeper_api.specs.Undisturbed.{Undisturbed}
use Rattle.keeper_api.specs.declared.keepers.Keeper as keeper
use Rattle.rsl_chain.specs.Logs.{IsBreakOf, IsLogOf}
use Rattle.rsl_chain.specs.declared.log_faults.LogFault.{LogFault}
use Rattle.rsl_chain.specs.declared.log_faults.LogFault.TheVariants as log_fault
use Rattle.desk_http.specs.declared.faults.DeskFault.{DeskFault}
use Rattle.desk_http.specs.declared.faults.DeskFault.TheVariants.{LogBroken, KeeperFailed, NoListener, DoorFailed}
use Rattle.desk_http.specs.declared.faults.DeskFault.TheVariants.{Memory}

-- why no desk is open where no log was loaded
abbrev pub fault_of : LogFault → DeskFault
fault_of (log_fault.Broken id) = LogBroken id
fault_of log_fault.Failed = KeeperFailed
fault_of log_fault.Memory = Memory

-- the fault that the store counts while its log is read
abbrev pub store_failed : DeskFault → Bool
store_failed (LogBroken id) = false
store_failed KeeperFailed = true
store_failed NoListener = false
store_failed DoorFailed = false
store_failed Memory = false

-- a log of the repository, which does not break
abbrev pub HasLog : Repository → Type 0
HasLog r = (ids : List (List ℕ)) × IsLogOf r ids

-- what each fault says of the repository whose log was read
abbrev pub IsFaultAt : Repository → DeskFault → Type 0
IsFaultAt r (LogBroken id) = IsBreakOf r id
IsFaultAt r KeeperFailed = Unit {0}
IsFaultAt r NoListener = HasLog r
IsFaultAt r DoorFailed = HasLog r
IsFaultAt r Memory = Unit {0}

-- the log breaks where that is answered, and nowhere else a desk was open or was to be
abbrev pub IsOfLog : {T : Type 0} → Repository → Result T DeskFault → Type 0
IsOfLog r (Ok done) = HasLog r
IsOfLog r (Err fault) = IsFaultAt r fault

-- why no desk is open, whatever its port
abbrev pub IsOfOpening : DeskFault → Type 0
IsOfOpening (LogBroken id) = Unit {0}
IsOfOpening KeeperFailed = Unit {0}
IsOfOpening NoListener = ⊥
IsOfOpening DoorFailed = ⊥
IsOfOpening Memory = Unit {0}

-- why there are no workers at a listener
abbrev pub IsOfWorkers : DeskFault → Type 0
IsOfWorkers (LogBroken id) = ⊥
IsOfWorkers KeeperFailed = ⊥
IsOfWorkers NoListener = ⊥
IsOfWorkers DoorFailed = Unit {0}
IsOfWorkers Memory = Unit {0}

-- where the store has no log to serve, or the port no listener, the store stays as it is
abbrev pub StaysAt : {R : Type 0} → R → R → DeskFault → Type 0
StaysAt store new (LogBroken id) = new ≡ store
StaysAt store new KeeperFailed = new ≡ store
StaysAt store new NoListener = new ≡ store
StaysAt store new DoorFailed = Unit {0}
StaysAt store new Memory = Unit {0}

abbrev pub StaysUnserved : {R T : Type 0} → R → R → Result T DeskFault → Type 0
StaysUnserved store new (Ok done) = Unit {0}
StaysUnserved store new (Err fault) = StaysAt store new fault

module _ {R : Type 0} (keeper_of : keeper.Ghosts R) where
  -- The store's log was read, which left this store: the store counted a fault exactly where `KeeperFailed` is
  -- answered, and the log breaks exactly where `LogBroken` is, a fault and want of memory aside.
  pub record ReadsLog {T : Type 0} (store loaded : R) (result : Result T DeskFault) : Type 0 where
    pub same : Undisturbed keeper_of store loaded
    pub counted : HasCause store_failed (keeper_of.faults store) (keeper_of.faults loaded) result
    pub log : (r : Repository) → keeper_of.content loaded ≡ Some r → IsOfLog r result

  -- the store's log was read, and this came of it
  pub record ComesOfLog {T : Type 0} (store : R) (result : Result T DeskFault) : Type 0 where
    pub loaded : R
    pub reads : ReadsLog store loaded result

  -- the store's log was read, and where nobody could be served the store stays as that left it
  pub record Serves {T : Type 0} (store new : R) (result : Result T DeskFault) : Type 0 where
    pub loaded : R
    pub reads : ReadsLog store loaded result
    pub unserved : StaysUnserved loaded new result
