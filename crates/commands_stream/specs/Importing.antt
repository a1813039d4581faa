-- What each outcome of `import` means.
use Rattle.std.specs.Prelude.{◌≡◌, ℕ, List, Option, Result, Ok, Err, codes}
use Rattle.octets.specs.Content.{GainsPart, with_end}
use Rattle.keeper_api.specs.declared.keepers.Keeper as keeper
use Rattle.clone_stream.specs.Taking.{TakesInto}
use Rattle.worlds.specs.declared.ending.Ending.{Ending}
use Rattle.worlds.specs.declared.ending.Ending.TheVariants.{Done, Refused}
use Rattle.worlds.specs.declared.ending.Part.TheVariants as part
use Rattle.worlds.specs.declared.ending.Refusal.TheVariants as refusal
use Rattle.commands_stream.specs.Taking.{DeclinesTaking, take_refusal}
use Rattle.commands_stream.specs.declared.importing.ImportFault.{ImportFault}
use Rattle.commands_stream.specs.declared.importing.ImportFault.TheVariants.{Untaken, SinkFailed}

-- how the program ends
abbrev pub import_ending : Result (Unit {0}) ImportFault → Ending
import_ending (Ok done) = Done
import_ending (Err (Untaken fault)) = Refused (take_refusal fault)
import_ending (Err SinkFailed) = Refused (refusal.Fault part.Sink)

-- what is printed where the stream was taken
abbrev pub imported_line : List ℕ
imported_line = codes "imported\n"

module _ {R : Type 0} (keeper_of : keeper.Ghosts R) (left left_now : Option (List ℕ)) (old new : R)
    (printed printed_now : Option (List ℕ)) where
  -- the stream was taken and that was printed; or nothing was printed, or the stream was taken and a front of the line
  -- was
  abbrev pub ImportEnds : Result (Unit {0}) ImportFault → Type 0
  ImportEnds (Ok done) = TakesInto keeper_of left left_now old new × (printed_now ≡ with_end printed imported_line)
  ImportEnds (Err (Untaken fault)) = DeclinesTaking keeper_of left left_now old new fault × (printed_now ≡ printed)
  ImportEnds (Err SinkFailed) = TakesInto keeper_of left left_now old new × GainsPart printed printed_now imported_line
