-- What an outcome means where the source and the store tell what they hold.
use Rattle.std.proofs.Common.{◌≡◌, ◌⊎◌, ◌<◌, ◌+◌, ◌++◌, inl, inr, ℕ, List, length, refl, sym, ap, ◌∙◌, subst, arith}
use Rattle.std.specs.Prelude.{Option, Some, None, Ok, Err, Result}
use Rattle.std.proofs.lemmas.List.{append-nil, length-append}
use Rattle.octets.specs.Content.{with_front}
use Rattle.edge_io.specs.Read.{IsAtEnd}
use Rattle.git_object.specs.Repository.{Repository}
use Rattle.keeper_api.specs.declared.keepers.Keeper as keeper
use Rattle.rsl_chain.specs.Logs.{IsBreakOf, IsLogOf}
use Rattle.clone_stream.specs.Streams.{IsStreamText}
use Rattle.clone_stream.specs.Taking.{IsDecided, IsOfInput}
use Rattle.clone_stream.specs.Deciding.{Decides}
use Rattle.clone_stream.specs.declared.stream_faults.StreamFault.{StreamFault}
use Rattle.clone_stream.specs.declared.stream_faults.StreamFault.TheVariants as stream
use Rattle.worlds.specs.Endings.{IsStopped}
use Rattle.evidence.specs.Breaks.{IsBreak}
use Rattle.evidence.specs.Dossiers.{IsDossierText}
use Rattle.evidence.specs.declared.findings.Finding.{Finding}
use Rattle.mirror.specs.Mirrors.{Compares}
use Rattle.mirror.specs.Offers.{IsOffered}
use Rattle.mirror.specs.declared.mirror_faults.MirrorFault.{MirrorFault}
use Rattle.mirror.specs.declared.mirror_faults.MirrorFault.TheVariants.{Stream, BrokenKept, BrokenOffered, Failed, Memory}
use Rattle.mirror.specs.declared.offers.Offer.{Offer}
use Rattle.commands_mirror.specs.Checking.{CheckEnds, Gives, check_ending, largest_dossier}
use Rattle.commands_mirror.specs.Contents.{CheckComes, MakeComes, MirrorComes, OfferComes, Spells}
use Rattle.commands_mirror.specs.Making.{MakeEnds, make_ending}
use Rattle.commands_mirror.specs.Offering.{MirrorEnds, RefusesOffer, mirror_ending, refused_ending}
use Rattle.commands_mirror.specs.declared.checking_evidence.CheckFault.{CheckFault}
use Rattle.commands_mirror.specs.declared.checking_evidence.CheckFault.TheVariants as check
use Rattle.commands_mirror.specs.declared.making_evidence.MakeFault.{MakeFault}
use Rattle.commands_mirror.specs.declared.making_evidence.MakeFault.TheVariants as make
use Rattle.commands_mirror.specs.declared.offering.OfferFault.{OfferFault}
use Rattle.commands_mirror.specs.declared.offering.OfferFault.TheVariants.{Refused, SinkFailed}

same_some : {X : Type 0} (x y : X) (told : Option X) → told ≡ Some x → told ≡ Some y → x ≡ y
same_some x y told e f = cc

-- what was read of bytes that are told, to the end, is all of them
whole_read : (bytes front : List ℕ) (left : Option (List ℕ)) → Some bytes ≡ with_front front left → IsAtEnd left → bytes ≡ front
whole_read bytes front None e end = cc
whole_read bytes front (Some rest) e end =
    let is : bytes ≡ front ++ rest = cc in
    is ∙ ap (λ (r : List ℕ). front ++ r) end ∙ append-nil front

-- ---- `mirror`

module _ (bytes : List ℕ) (left_now : Option (List ℕ)) where
  told_offered : (offered : Repository) → IsOffered (Some bytes) left_now offered → Spells bytes offered
  told_offered offered is =
      let read = is.was_read in
      let same = whole_read bytes is.bytes left_now read.read read.end in
      let short = read.short in
      record {
        short = let long = ap length same in omega arith;
        text = subst (IsStreamText offered) (sym same) is.text;
      }

  told_stream : (fault : StreamFault) → IsOfInput fault → IsDecided bytes left_now fault → Decides bytes fault ⊎ IsStopped (refused_ending (Stream fault))
  told_stream (stream.BadLine at) real is = inl is
  told_stream (stream.IdDiffers id found) real is = inl is
  told_stream (stream.Order at) real is = inl is
  told_stream (stream.TooLarge limit) real is = inl is
  told_stream (stream.Truncated at) real is = inl is
  told_stream stream.SourceFailed real is = inr tt
  told_stream stream.KeeperFailed real is = inr tt
  told_stream stream.NotEmpty real is = absurd real
  told_stream stream.Memory real is = inr tt

module _ {R : Type 0} (keeper_of : keeper.Ghosts R) (bytes : List ℕ) (left_now : Option (List ℕ)) (was now : Repository) (old new : R)
    (held : keeper_of.content old ≡ Some was) (holds : keeper_of.content new ≡ Some now) where
  told_refused : (fault : MirrorFault) → RefusesOffer keeper_of (Some bytes) left_now old new fault → OfferComes was bytes fault ⊎ IsStopped (refused_ending fault)
  told_refused (Stream fault) is = told_stream bytes left_now fault is.refuses.0 (is.input bytes refl)
  told_refused (BrokenKept id) is =
      let refuses = is.refuses in
      let same = same_some was now (keeper_of.content old) held (refuses.same.content now holds) in
      let whole = is.input bytes refl in
      inl (record {
        offered = whole.repository;
        spells = told_offered bytes left_now whole.repository (record { bytes = whole.bytes; was_read = whole.was_read; text = whole.text });
        breaks = subst (λ (r : Repository). IsBreakOf r id) (sym same) (refuses.breaks now holds);
      })
  told_refused (BrokenOffered id) is =
      let refuses = is.refuses in
      let same = same_some was now (keeper_of.content old) held (refuses.same.content now holds) in
      inl (record {
        offered = refuses.offered;
        spells = told_offered bytes left_now refuses.offered refuses.is;
        stands = subst (λ (r : Repository). (ids : List (List ℕ)) × IsLogOf r ids) (sym same) (refuses.stands now holds);
        breaks = refuses.breaks;
      })
  told_refused Failed is = inr tt
  told_refused Memory is = inr tt

  mirror_told : (printed printed_now : Option (List ℕ)) (outcome : Result Offer OfferFault) → MirrorEnds keeper_of (Some bytes) left_now old new printed printed_now outcome
      → MirrorComes was bytes outcome ⊎ IsStopped (mirror_ending outcome)
  mirror_told printed printed_now (Ok offer) ends =
      let mirrors = ends.0 in
      let made = mirrors.held now holds in
      let same = same_some was made.0 (keeper_of.content old) held made.1 in
      inl (record {
        offered = mirrors.offered;
        spells = told_offered bytes left_now mirrors.offered mirrors.is;
        compares = subst (λ (r : Repository). Compares r mirrors.offered offer) (sym same) made.2.compares;
      })
  mirror_told printed printed_now (Err (Refused fault)) ends = told_refused fault ends.0
  mirror_told printed printed_now (Err SinkFailed) ends = inr tt

pub told_mirror : {R : Type 0} (keeper_of : keeper.Ghosts R) (bytes : List ℕ) (left_now : Option (List ℕ)) (was now : Repository) (old new : R) (printed printed_now : Option (List ℕ)) (outcome : Result Offer OfferFault)
    → keeper_of.content old ≡ Some was → keeper_of.content new ≡ Some now
    → MirrorEnds keeper_of (Some bytes) left_now old new printed printed_now outcome → MirrorComes was bytes outcome ⊎ IsStopped (mirror_ending outcome)
told_mirror keeper_of bytes left_now was now old new printed printed_now outcome held holds ends = mirror_told keeper_of bytes left_now was now old new held holds printed printed_now outcome ends

-- ---- `evidence-make`

pub told_make : (public left right : List ℕ) (was : Repository) (printed printed_now : Option (List ℕ)) (outcome : Result (Unit {0}) MakeFault)
    → MakeEnds public left right (Some was) printed printed_now outcome → MakeComes was left right outcome ⊎ IsStopped (make_ending outcome)
told_make public left right was printed printed_now (Ok done) ends =
    let made = ends.1 in
    inl ((made.first, made.kept.is_left.has was refl), (made.second, made.kept.is_right.has was refl))
told_make public left right was printed printed_now (Err (make.NoObject id)) ends = inl (ends.0 was refl)
told_make public left right was printed printed_now (Err make.KeeperFailed) ends = inr tt
told_make public left right was printed printed_now (Err make.SinkFailed) ends = inr tt
told_make public left right was printed printed_now (Err make.Memory) ends = inr tt

-- ---- `evidence-check`

module _ (bytes : List ℕ) (left_now : Option (List ℕ)) where
  given : (front : List ℕ) → Gives (Some bytes) left_now front → bytes ≡ front
  given front gives = whole_read bytes front left_now gives.read gives.end

  more_given : (front : List ℕ) (left : Option (List ℕ)) → Some bytes ≡ with_front front left → length front ≡ largest_dossier + 1 → largest_dossier < length bytes
  more_given front None e long = cc
  more_given front (Some rest) e long =
      let is : bytes ≡ front ++ rest = cc in
      let all = ap length is in
      let parts = length-append front rest in
      omega arith

  pub told_check : (printed printed_now : Option (List ℕ)) (outcome : Result Finding CheckFault) → CheckEnds (Some bytes) left_now printed printed_now outcome
      → CheckComes bytes outcome ⊎ IsStopped (check_ending outcome)
  told_check printed printed_now (Ok finding) ends =
      let shows = ends.0 in
      let gives = shows.gives in
      let same = given gives.bytes gives.gives in
      let short = gives.gives.short in
      inl (record {
        dossier = shows.dossier;
        short = let long = ap length same in omega arith;
        text = subst (IsDossierText shows.dossier) (sym same) gives.text;
        is = shows.is;
      })
  told_check printed printed_now (Err check.TooLong) ends = inl (more_given ends.0.bytes left_now ends.0.read ends.0.more)
  told_check printed printed_now (Err (check.Malformed at)) ends =
      let none = ends.0 in
      let same = given none.bytes none.gives in
      let short = none.gives.short in
      inl (let long = ap length same in omega arith, subst (λ (text : List ℕ). IsBreak text at) (sym same) none.breaks)
  told_check printed printed_now (Err check.SourceFailed) ends = inr tt
  told_check printed printed_now (Err check.SinkFailed) ends = inr tt
  told_check printed printed_now (Err check.Memory) ends = inr tt
