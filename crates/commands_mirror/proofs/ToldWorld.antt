-- What an ending means where the objects that a command touches tell what they hold.
use Rattle.std.proofs.Common.{ℕ, List, subst}
use Rattle.std.specs.Prelude.{Option, Result}
use Rattle.git_object.specs.Repository.{Repository}
use Rattle.worlds.proofs.Lifted.{told_ending}
use Rattle.evidence.specs.declared.findings.Finding.{Finding}
use Rattle.mirror.specs.declared.offers.Offer.{Offer}
use Rattle.worlds.proofs.StillHeld.{still_held}
use Rattle.worlds.specs.Telling.{TellsEnding}
use Rattle.worlds.specs.Touching.{on_store, on_stream}
use Rattle.worlds.specs.Worlds.{Types, Ways}
use Rattle.commands_mirror.specs.Checking.{CheckEnds, check_ending}
use Rattle.commands_mirror.specs.Contents.{CheckComes, MakeComes, MirrorComes}
use Rattle.commands_mirror.specs.Laws.{TellsOfMirror}
use Rattle.commands_mirror.specs.Making.{MakeEnds, make_ending}
use Rattle.commands_mirror.specs.Offering.{MirrorEnds, mirror_ending}
use Rattle.commands_mirror.specs.Runs.{CheckAnswers, CheckMeans, CheckRuns, MakeAnswers, MakeMeans, MakeRuns, MirrorAnswers, MirrorMeans, MirrorRuns, TellsOfWorld, on_text}
use Rattle.commands_mirror.specs.declared.checking_evidence.CheckFault.{CheckFault}
use Rattle.commands_mirror.specs.declared.making_evidence.MakeFault.{MakeFault}
use Rattle.commands_mirror.specs.declared.offering.OfferFault.{OfferFault}

module _ {types : Types} (ways : Ways types) where
  mirrored : TellsOfMirror ways.keeper → TellsEnding ways on_stream (MirrorRuns ways) MirrorAnswers
  mirrored law before after content ending tells runs =
      told_ending mirror_ending (MirrorMeans ways before after) (MirrorComes content.held content.bytes)
      (λ (outcome : Result Offer OfferFault) means.
      law.mirror content.bytes (ways.source.left after.source) content.held tells.store.now before.keeper after.keeper
      (ways.sink.contents before.sink) (ways.sink.contents after.sink) outcome tells.store.held tells.store.holds
      (subst (λ (l : Option (List ℕ)). MirrorEnds ways.keeper l (ways.source.left after.source) before.keeper after.keeper
      (ways.sink.contents before.sink) (ways.sink.contents after.sink) outcome) tells.source means))
      ending runs.ended

  made : TellsOfMirror ways.keeper → (public left right : List ℕ) → TellsEnding ways on_store (MakeRuns ways public left right) (MakeAnswers left right)
  made law public left right before after content ending tells runs =
      let held = still_held ways before after content tells.store runs.1 in
      told_ending make_ending (MakeMeans ways public left right before after) (MakeComes content.held left right)
      (λ (outcome : Result (Unit {0}) MakeFault) means.
      law.make public left right content.held (ways.sink.contents before.sink) (ways.sink.contents after.sink) outcome
      (subst (λ (o : Option Repository). MakeEnds public left right o (ways.sink.contents before.sink) (ways.sink.contents after.sink) outcome) held means))
      ending runs.0.ended

  checked : TellsOfMirror ways.keeper → TellsEnding ways on_text (CheckRuns ways) CheckAnswers
  checked law before after content ending tells runs =
      told_ending check_ending (CheckMeans ways before after) (CheckComes content.bytes)
      (λ (outcome : Result Finding CheckFault) means.
      law.check content.bytes (ways.source.left after.source) (ways.sink.contents before.sink) (ways.sink.contents after.sink) outcome
      (subst (λ (l : Option (List ℕ)). CheckEnds l (ways.source.left after.source) (ways.sink.contents before.sink)
      (ways.sink.contents after.sink) outcome) tells.source means))
      ending runs.ended

  pub told : TellsOfMirror ways.keeper → TellsOfWorld ways
  told law = record { mirror = mirrored law; make = made law; check = checked law }
