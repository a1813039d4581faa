-- What it means that a command ran to an ending.
use Rattle.std.specs.Prelude.{ℕ, List}
use Rattle.edge_io.specs.Moments.{LeavesOnly}
use Rattle.leaf_journal.specs.KeyFile.{KeepsUsed}
use Rattle.worlds.specs.Counts.{Ended, IsCounted}
use Rattle.worlds.specs.declared.ending.Ending.{Ending}
use Rattle.worlds.specs.Touching.{Touched, Touches}
use Rattle.worlds.specs.Worlds.{Types, Ways, World, faults_of}

module _ {types : Types} (ways : Ways types) where
  -- the object that failed counted one fault, and no other object any
  abbrev pub CountsFaults : World types → World types → Ending → Type 0
  CountsFaults before after ending = IsCounted ending (faults_of ways before) (faults_of ways after)

  -- a command ran to this ending: in an outcome that means this, it touched no other objects, and the counts are
  -- those of the ending
  pub record Runs {T : Type 0} (ending_of : T → Ending) (Means : T → Type 0) (touched : Touched)
      (before after : World types) (ending : Ending) : Type 0 where
    pub ended : Ended ending_of Means ending
    pub touches : Touches touched before after
    pub counted : CountsFaults before after ending

  -- a stop at any moment of it leaves a file of which this is so
  abbrev pub LeavesFile : (List ℕ → Type 0) → World types → World types → Type 0
  LeavesFile so before after = LeavesOnly ways.disk.moment ways.disk.left_since before.disk after.disk so

  -- at every moment of it a leaf that was used in all that a stop might leave stays so
  abbrev pub KeepsLeaves : World types → World types → Type 0
  KeepsLeaves before after = LeavesFile (KeepsUsed (ways.disk.may_leave before.disk)) before after
