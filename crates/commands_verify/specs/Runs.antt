-- What `verify-ref` does to the objects outside, and what it comes to over what they hold.
use Rattle.std.specs.Prelude.{◌≡◌, ℕ, Bool, false, List, Option, Result}
use Rattle.worlds.specs.Counts.{Ended}
use Rattle.worlds.specs.declared.ending.Ending.{Ending}
use Rattle.worlds.specs.Running.{Runs}
use Rattle.worlds.specs.Telling.{Content, TellsEnding}
use Rattle.worlds.specs.Touching.{on_stream}
use Rattle.worlds.specs.Worlds.{Types, Ways, World}
use Rattle.commands_verify.specs.Contents.{VerifyComes}
use Rattle.commands_verify.specs.Verdicts.{RefVerdict}
use Rattle.commands_verify.specs.Verifying.{VerifyEnds, verify_ending}
use Rattle.commands_verify.specs.declared.verifying.VerifyFault.{VerifyFault}

module _ {types : Types} (ways : Ways types) (name : List ℕ) (root : Option (List (List ℕ))) (stdin : Bool) where
  -- what an outcome means
  abbrev pub VerifyMeans : World types → World types → Result RefVerdict VerifyFault → Type 0
  VerifyMeans before after =
      VerifyEnds name root stdin ways.keeper (ways.source.left before.source) (ways.source.left after.source)
      before.keeper after.keeper (ways.sink.contents before.sink) (ways.sink.contents after.sink)

  -- it ran to this ending, and the source is touched only where a stream is asked for
  abbrev pub VerifyRuns : World types → World types → Ending → Type 0
  VerifyRuns before after ending =
      Runs ways verify_ending (VerifyMeans before after) on_stream before after ending
      × (stdin ≡ false → after.source ≡ before.source)

-- what it comes to
abbrev pub VerifyAnswers : List ℕ → Option (List (List ℕ)) → Bool → Content → Ending → Type 0
VerifyAnswers name root stdin content = Ended verify_ending (VerifyComes name root stdin content.held content.bytes)

-- where the touched objects tell, what ended is what it comes to, or it stopped
pub record TellsOfWorld {types : Types} (ways : Ways types) : Type 0 where
  pub verify : (name : List ℕ) (root : Option (List (List ℕ))) (stdin : Bool)
      → TellsEnding ways on_stream (VerifyRuns ways name root stdin) (VerifyAnswers name root stdin)
