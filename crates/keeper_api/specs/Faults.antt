-- The fault that a keeper counts.
use Rattle.std.specs.Prelude.{Bool, true, false}
use Rattle.keeper_api.specs.declared.keeper_faults.KeeperFault.{KeeperFault}
use Rattle.keeper_api.specs.declared.keeper_faults.KeeperFault.TheVariants.{Failed, Memory}

abbrev pub keeper_failed : KeeperFault → Bool
keeper_failed Failed = true
keeper_failed Memory = false
