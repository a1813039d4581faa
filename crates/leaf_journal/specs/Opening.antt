-- Why a key file is not opened.
use Rattle.std.specs.Prelude.{ℕ, Bool, true, false, List}
use Rattle.leaf_journal.specs.declared.faults.LoadFault.{LoadFault}
use Rattle.leaf_journal.specs.declared.faults.LoadFault.TheVariants as load
use Rattle.leaf_journal.specs.Files.{IsNoKeyFile}
use Rattle.leaf_journal.specs.declared.open_keys.OpenFault.{OpenFault}
use Rattle.leaf_journal.specs.declared.open_keys.OpenFault.TheVariants.{KeyFile, DiskFailed, Memory}

-- what a refusal of the journal is here
abbrev pub opened_fault : LoadFault → OpenFault
opened_fault (load.WrongLength len) = KeyFile
opened_fault load.BadHeader = KeyFile
opened_fault load.Disk = DiskFailed
opened_fault load.Memory = Memory

-- the fault that the disk counts
abbrev pub open_failed : OpenFault → Bool
open_failed KeyFile = false
open_failed DiskFailed = true
open_failed Memory = false

-- what each refusal says of the file
abbrev pub WhyUnopened : OpenFault → List ℕ → Type 0
WhyUnopened KeyFile file = IsNoKeyFile file
WhyUnopened DiskFailed file = Unit {0}
WhyUnopened Memory file = Unit {0}
