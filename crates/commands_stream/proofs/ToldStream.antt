-- What an outcome means where the source and the store tell what they hold.
use Rattle.std.proofs.Common.{◌≡◌, ◌⊎◌, ◌++◌, inl, inr, ℕ, List, length, refl, sym, ap, ◌∙◌, subst, arith}
use Rattle.std.specs.Prelude.{Option, Some, None, Ok, Err, Bool, Result}
use Rattle.std.proofs.lemmas.List.{append-nil}
use Rattle.octets.specs.Content.{with_front}
use Rattle.edge_io.specs.Read.{IsAtEnd}
use Rattle.git_object.specs.Repository.{Repository, empty_repository}
use Rattle.keeper_api.specs.declared.keepers.Keeper as keeper
use Rattle.clone_stream.specs.Streams.{IsStreamText}
use Rattle.clone_stream.specs.Taking.{TakesInto, WasRead}
use Rattle.clone_stream.specs.declared.export_faults.ExportFault.{ExportFault}
use Rattle.clone_stream.specs.declared.export_faults.ExportFault.TheVariants as export
use Rattle.worlds.specs.Endings.{IsStop, IsStopped}
use Rattle.commands_stream.specs.Contents.{ExportComes, ImportComes, IsNotTaken, IsOpened, IsTaken, TakeComes}
use Rattle.commands_stream.specs.Exporting.{ExportEnds, export_ending}
use Rattle.commands_stream.specs.Importing.{ImportEnds, import_ending}
use Rattle.commands_stream.specs.Taking.{DeclinesTaking, Opens, RefusesStream, take_refusal}
use Rattle.commands_stream.specs.declared.importing.ImportFault.{ImportFault}
use Rattle.commands_stream.specs.declared.importing.ImportFault.TheVariants as import
use Rattle.commands_stream.specs.declared.taking.TakeFault.{TakeFault}
use Rattle.commands_stream.specs.declared.taking.TakeFault.TheVariants as take

same_some : {X : Type 0} (x y : X) (told : Option X) → told ≡ Some x → told ≡ Some y → x ≡ y
same_some x y told e f = cc

-- what was read of bytes that are told, to the end, is all of them
whole_read : (bytes front : List ℕ) (left : Option (List ℕ)) → Some bytes ≡ with_front front left → IsAtEnd left → bytes ≡ front
whole_read bytes front None e end = cc
whole_read bytes front (Some rest) e end =
    let is : bytes ≡ front ++ rest = cc in
    is ∙ ap (λ (r : List ℕ). front ++ r) end ∙ append-nil front

were_read : (bytes front : List ℕ) (left left_now : Option (List ℕ)) → left ≡ Some bytes → WasRead left left_now front → bytes ≡ front
were_read bytes front left left_now told read = whole_read bytes front left_now (sym told ∙ read.read) read.end

module _ {R : Type 0} (keeper_of : keeper.Ghosts R) (bytes : List ℕ) (left_now : Option (List ℕ)) (was now : Repository) (old new : R) (held : keeper_of.content old ≡ Some was) (holds : keeper_of.content new ≡ Some now) where
  -- a stream that is taken
  told_taken : TakesInto keeper_of (Some bytes) left_now old new → IsTaken was bytes now
  told_taken took =
      let takes = took.takes in
      let same = were_read bytes takes.bytes (Some bytes) left_now refl takes.was_read in
      let kept = takes.held now holds in
      let short = takes.was_read.short in
      record {
        empty = same_some was empty_repository (keeper_of.content old) held kept.0;
        short = let long = ap length same in omega arith;
        text = subst (IsStreamText now) (sym same) (subst (λ (r : Repository). IsStreamText r takes.bytes) (sym kept.1) takes.text);
      }

  -- a stream that is not taken
  told_refused : (number : ℕ) → RefusesStream keeper_of (Some bytes) left_now old new number → IsNotTaken was bytes number
  told_refused number (inl full) =
      let same = same_some was now (keeper_of.content old) held (full.1.same.content now holds) in
      inl (full.0, λ empty. full.1.full now holds (sym same ∙ empty))
  told_refused number (inr broken) =
      let same = same_some was now (keeper_of.content old) held (broken.same.content now holds) in
      inr (record { empty = same ∙ broken.empty now holds; fault = broken.fault; number_is = broken.number_is; decides = broken.decides bytes refl })

  pub told_declined : (fault : TakeFault) → DeclinesTaking keeper_of (Some bytes) left_now old new fault → TakeComes was bytes fault ⊎ IsStop (take_refusal fault)
  told_declined (take.Stream number) declines = inl (told_refused number declines)
  told_declined take.SourceFailed declines = inr tt
  told_declined take.KeeperFailed declines = inr tt
  told_declined take.Memory declines = inr tt

  -- a repository that is opened
  pub told_opened : (stdin : Bool) → Opens stdin keeper_of (Some bytes) left_now old new → IsOpened stdin was bytes now
  told_opened stdin (inl took) = inl (took.0, told_taken took.1)
  told_opened stdin (inr unread) = inr (unread.0, sym (same_some was now (keeper_of.content old) held (unread.2.content now holds)))

  module _ (printed printed_now : Option (List ℕ)) where
    import_told : (outcome : Result (Unit {0}) ImportFault) → ImportEnds keeper_of (Some bytes) left_now old new printed printed_now outcome → ImportComes was bytes outcome ⊎ IsStopped (import_ending outcome)
    import_told (Ok done) ends = inl (now, told_taken ends.0)
    import_told (Err (import.Untaken fault)) ends = told_declined fault ends.0
    import_told (Err import.SinkFailed) ends = inr tt

pub told_import : {R : Type 0} (keeper_of : keeper.Ghosts R) (bytes : List ℕ) (left_now : Option (List ℕ)) (was now : Repository) (old new : R) (printed printed_now : Option (List ℕ)) (outcome : Result (Unit {0}) ImportFault)
    → keeper_of.content old ≡ Some was → keeper_of.content new ≡ Some now
    → ImportEnds keeper_of (Some bytes) left_now old new printed printed_now outcome → ImportComes was bytes outcome ⊎ IsStopped (import_ending outcome)
told_import keeper_of bytes left_now was now old new printed printed_now outcome held holds ends = import_told keeper_of bytes left_now was now old new held holds printed printed_now outcome ends

pub told_export : (was : Repository) (printed printed_now : Option (List ℕ)) (outcome : Result (Unit {0}) ExportFault)
    → ExportEnds (Some was) printed printed_now outcome → ExportComes was outcome ⊎ IsStopped (export_ending outcome)
told_export was printed printed_now (Ok done) ends = inl (record { text = ends.text; is = ends.told was refl; short = ends.within })
told_export was printed printed_now (Err (export.Damaged id)) ends = inl (ends.front, ends.told was refl)
told_export was printed printed_now (Err (export.TooLarge limit)) ends = inl ((ends.told was refl).0, (ends.told was refl).1)
told_export was printed printed_now (Err export.KeeperFailed) ends = inr tt
told_export was printed printed_now (Err export.SinkFailed) ends = inr tt
told_export was printed printed_now (Err export.Memory) ends = inr tt
