-- Which answers leave the database open, where its disk is clean.
use Rattle.std.specs.Prelude.{Result, Ok, Err, ⊤}
use Rattle.keeper_api.specs.declared.keeper_faults.KeeperFault.{KeeperFault}
use Rattle.keeper_api.specs.declared.keeper_faults.KeeperFault.TheVariants.{Failed, Memory}

-- want of memory, and no failure
abbrev pub MayGoOn : KeeperFault → Type 0
MayGoOn Failed = ⊥
MayGoOn Memory = ⊤

abbrev pub IsAnswered : {T : Type 0} → Result T KeeperFault → Type 0
IsAnswered (Ok _) = ⊤
IsAnswered (Err fault) = MayGoOn fault
