-- What each command does to the objects outside, and what it comes to over what they hold.
use Rattle.std.specs.Prelude.{ℕ, true, List, Result}
use Rattle.keeper_api.specs.Undisturbed.{Undisturbed}
use Rattle.worlds.specs.Counts.{Ended}
use Rattle.worlds.specs.declared.ending.Ending.{Ending}
use Rattle.evidence.specs.declared.findings.Finding.{Finding}
use Rattle.mirror.specs.declared.offers.Offer.{Offer}
use Rattle.worlds.specs.Running.{Runs}
use Rattle.worlds.specs.Telling.{Content, TellsEnding}
use Rattle.worlds.specs.Touching.{Touched, nothing, on_store, on_stream}
use Rattle.worlds.specs.Worlds.{Types, Ways, World}
use Rattle.commands_mirror.specs.Checking.{CheckEnds, check_ending}
use Rattle.commands_mirror.specs.Contents.{CheckComes, MakeComes, MirrorComes}
use Rattle.commands_mirror.specs.Making.{MakeEnds, make_ending}
use Rattle.commands_mirror.specs.Offering.{MirrorEnds, mirror_ending}
use Rattle.commands_mirror.specs.declared.checking_evidence.CheckFault.{CheckFault}
use Rattle.commands_mirror.specs.declared.making_evidence.MakeFault.{MakeFault}
use Rattle.commands_mirror.specs.declared.offering.OfferFault.{OfferFault}

-- what is read is answered
abbrev pub on_text : Touched
on_text = record nothing { source = true; sink = true }

module _ {types : Types} (ways : Ways types) where
  -- what an outcome of `mirror` means
  abbrev pub MirrorMeans : World types → World types → Result Offer OfferFault → Type 0
  MirrorMeans before after =
      MirrorEnds ways.keeper (ways.source.left before.source) (ways.source.left after.source) before.keeper
      after.keeper (ways.sink.contents before.sink) (ways.sink.contents after.sink)

  -- it ran to this ending
  abbrev pub MirrorRuns : World types → World types → Ending → Type 0
  MirrorRuns before after ending = Runs ways mirror_ending (MirrorMeans before after) on_stream before after ending

  -- what an outcome of `evidence-make` means
  abbrev pub MakeMeans : List ℕ → List ℕ → List ℕ → World types → World types → Result (Unit {0}) MakeFault → Type 0
  MakeMeans public left right before after =
      MakeEnds public left right (ways.keeper.content after.keeper) (ways.sink.contents before.sink)
      (ways.sink.contents after.sink)

  -- it ran to this ending, and the store is as it was
  abbrev pub MakeRuns : List ℕ → List ℕ → List ℕ → World types → World types → Ending → Type 0
  MakeRuns public left right before after ending =
      Runs ways make_ending (MakeMeans public left right before after) on_store before after ending
      × Undisturbed ways.keeper before.keeper after.keeper

  -- what an outcome of `evidence-check` means
  abbrev pub CheckMeans : World types → World types → Result Finding CheckFault → Type 0
  CheckMeans before after =
      CheckEnds (ways.source.left before.source) (ways.source.left after.source) (ways.sink.contents before.sink)
      (ways.sink.contents after.sink)

  -- it ran to this ending
  abbrev pub CheckRuns : World types → World types → Ending → Type 0
  CheckRuns before after ending = Runs ways check_ending (CheckMeans before after) on_text before after ending

-- what `mirror` comes to
abbrev pub MirrorAnswers : Content → Ending → Type 0
MirrorAnswers content = Ended mirror_ending (MirrorComes content.held content.bytes)

-- what `evidence-make` comes to
abbrev pub MakeAnswers : List ℕ → List ℕ → Content → Ending → Type 0
MakeAnswers left right content = Ended make_ending (MakeComes content.held left right)

-- what `evidence-check` comes to
abbrev pub CheckAnswers : Content → Ending → Type 0
CheckAnswers content = Ended check_ending (CheckComes content.bytes)

-- where the touched objects tell, what ended is what the command comes to, or it stopped
pub record TellsOfWorld {types : Types} (ways : Ways types) : Type 0 where
  pub mirror : TellsEnding ways on_stream (MirrorRuns ways) MirrorAnswers
  pub make : (public left right : List ℕ)
      → TellsEnding ways on_store (MakeRuns ways public left right) (MakeAnswers left right)
  pub check : TellsEnding ways on_text (CheckRuns ways) CheckAnswers
