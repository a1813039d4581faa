-- What an ending says of the counts of faults, and how the outcomes of one command become endings.
use Rattle.std.specs.Prelude.{◌≡◌, ◌≤◌, ℕ, Option, Some, None}
use Rattle.octets.specs.Causes.{one_more}
use Rattle.worlds.specs.Endings.{part_of}
use Rattle.worlds.specs.declared.ending.Ending.{Ending}
use Rattle.worlds.specs.declared.ending.Part.{Part}
use Rattle.worlds.specs.declared.ending.Part.TheVariants as part

-- how many faults each object outside has counted
pub record Faults : Type 0 where
  pub source : ℕ
  pub sink : ℕ
  pub keeper : ℕ
  pub disk : ℕ
  pub entropy : ℕ
  pub clock : ℕ
  pub peer : ℕ

-- one fault more of this object, and of no other
abbrev pub with_fault_of : Part → Faults → Faults
with_fault_of part.Source f = record f { source = one_more f.source }
with_fault_of part.Sink f = record f { sink = one_more f.sink }
with_fault_of part.Keeper f = record f { keeper = one_more f.keeper }
with_fault_of part.Disk f = record f { disk = one_more f.disk }
with_fault_of part.Entropy f = record f { entropy = one_more f.entropy }
with_fault_of part.Clock f = record f { clock = one_more f.clock }
with_fault_of part.Peer f = record f { peer = one_more f.peer }

-- one fault more of the object that failed, if one did
abbrev pub with_fault : Option Part → Faults → Faults
with_fault None f = f
with_fault (Some failed) f = with_fault_of failed f

-- no count falls
pub record NoneFalls (before after : Faults) : Type 0 where
  pub source : before.source ≤ after.source
  pub sink : before.sink ≤ after.sink
  pub keeper : before.keeper ≤ after.keeper
  pub disk : before.disk ≤ after.disk
  pub entropy : before.entropy ≤ after.entropy
  pub clock : before.clock ≤ after.clock
  pub peer : before.peer ≤ after.peer

-- the object that failed counted one fault, and no other object any
pub record IsCounted (ending : Ending) (before after : Faults) : Type 0 where
  pub is : after ≡ with_fault (part_of ending) before
  pub later : NoneFalls before after

-- in which outcome, that this is how the program ends then, and what the outcome means
pub record Ended {T : Type 0} (ending_of : T → Ending) (Means : T → Type 0) (ending : Ending) : Type 0 where
  pub outcome : T
  pub is : ending ≡ ending_of outcome
  pub means : Means outcome
