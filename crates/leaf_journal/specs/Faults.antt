-- Which refusals are a fault that the disk counted.
use Rattle.std.specs.Prelude.{Bool, true, false}
use Rattle.leaf_journal.specs.declared.faults.CreateFault.{CreateFault}
use Rattle.leaf_journal.specs.declared.faults.CreateFault.TheVariants as create
use Rattle.leaf_journal.specs.declared.faults.LoadFault.{LoadFault}
use Rattle.leaf_journal.specs.declared.faults.LoadFault.TheVariants as load
use Rattle.leaf_journal.specs.declared.faults.SignFault.{SignFault}
use Rattle.leaf_journal.specs.declared.faults.SignFault.TheVariants as sign

abbrev pub create_failed : CreateFault → Bool
create_failed create.TooTall = false
create_failed (create.NotEmpty len) = false
create_failed create.Disk = true
create_failed create.Memory = false

abbrev pub load_failed : LoadFault → Bool
load_failed (load.WrongLength len) = false
load_failed load.BadHeader = false
load_failed load.Disk = true
load_failed load.Memory = false

abbrev pub sign_failed : SignFault → Bool
sign_failed sign.Exhausted = false
sign_failed sign.Disk = true
