-- There is at most one outcome for the same words and content.
use Rattle.std.proofs.Common.{◌≡◌, inl, inr, ℕ, List, [], refl, sym, ap, ◌∙◌, subst, arith}
use Rattle.std.specs.Prelude.{Ok, Err, Result}
use Rattle.std.proofs.lemmas.List.{append-nil}
use Rattle.std.specs.FinMap.{get}
use Rattle.git_object.specs.Names.{log_name}
use Rattle.git_object.specs.Repository.{Repository}
use Rattle.rsl_chain.specs.Chain.{NeverBoth, OneBreak}
use Rattle.rsl_chain.specs.Logs.{IsBreakOf, heads_of}
use Rattle.clone_stream.specs.Laws.{OneRefusal}
use Rattle.clone_stream.specs.Streams.{IsStreamText, OneSpelling}
use Rattle.clone_stream.specs.declared.stream_faults.StreamFault.{StreamFault}
use Rattle.evidence.specs.Breaks.{OneDossier}
use Rattle.evidence.specs.Finding.{finding_of}
use Rattle.evidence.specs.declared.findings.Finding.{Finding}
use Rattle.mirror.specs.Laws.{OneMaking}
use Rattle.mirror.specs.Mirrors.{Compares}
use Rattle.mirror.specs.declared.mirror_faults.MirrorFault.{MirrorFault}
use Rattle.mirror.specs.declared.mirror_faults.MirrorFault.TheVariants.{Stream, BrokenKept, BrokenOffered, Failed, Memory}
use Rattle.mirror.specs.declared.offers.Offer.{Offer}
use Rattle.commands_mirror.specs.Contents.{CheckComes, IsAnswered, IsBrokenHere, IsBrokenThere, MakeComes, MirrorComes, OfferComes, Spells}
use Rattle.commands_mirror.specs.Making.{IsFirstMissing}
use Rattle.commands_mirror.specs.declared.checking_evidence.CheckFault.{CheckFault}
use Rattle.commands_mirror.specs.declared.checking_evidence.CheckFault.TheVariants as check
use Rattle.commands_mirror.specs.declared.making_evidence.MakeFault.{MakeFault}
use Rattle.commands_mirror.specs.declared.making_evidence.MakeFault.TheVariants as make
use Rattle.commands_mirror.specs.declared.offering.OfferFault.{OfferFault}
use Rattle.commands_mirror.specs.declared.offering.OfferFault.TheVariants.{Refused, SinkFailed}

-- ---- `mirror`

module _ (spelling : OneSpelling) (refusal : OneRefusal) (making : OneMaking) (one_break : OneBreak) (never_both : NeverBoth) (was : Repository) (bytes : List ℕ) where
  -- bytes spell one repository
  same_spelled : (r s : Repository) → Spells bytes r → Spells bytes s → r ≡ s
  same_spelled r s is other = (spelling r s bytes [] is.text (subst (IsStreamText s) (sym (append-nil bytes)) other.text)).1

  -- what is spelled is not refused
  not_both : {X : Type 0} (r : Repository) (fault : StreamFault) → Spells bytes r → OfferComes was bytes (Stream fault) → X
  not_both r fault is refused = absurd (refusal.apart bytes r fault is.text is.short refused)

  same_answer : (a b : Offer) → IsAnswered was bytes a → IsAnswered was bytes b → a ≡ b
  same_answer a b is other =
      let same = same_spelled is.offered other.offered is.spells other.spells in
      making.answer was other.offered a b (subst (λ (r : Repository). Compares was r a) same is.compares) other.compares

  answered_here : {X : Type 0} (offer : Offer) (id : List ℕ) → IsAnswered was bytes offer → IsBrokenHere was bytes id → X
  answered_here offer id is broken =
      absurd (never_both (heads_of was) (get was.refs log_name) is.compares.kept_ids id is.compares.kept_log broken.breaks)

  answered_there : {X : Type 0} (offer : Offer) (id : List ℕ) → IsAnswered was bytes offer → IsBrokenThere was bytes id → X
  answered_there offer id is broken =
      let same = same_spelled broken.offered is.offered broken.spells is.spells in
      absurd (never_both (heads_of is.offered) (get is.offered.refs log_name) is.compares.offered_ids id is.compares.offered_log
      (subst (λ (r : Repository). IsBreakOf r id) same broken.breaks))

  here_there : {X : Type 0} (id other : List ℕ) → IsBrokenHere was bytes id → IsBrokenThere was bytes other → X
  here_there id other here there =
      absurd (never_both (heads_of was) (get was.refs log_name) there.stands.0 id there.stands.1 here.breaks)

  same_here : (a b : List ℕ) → IsBrokenHere was bytes a → IsBrokenHere was bytes b → a ≡ b
  same_here a b is other = one_break (heads_of was) (get was.refs log_name) a b is.breaks other.breaks

  same_there : (a b : List ℕ) → IsBrokenThere was bytes a → IsBrokenThere was bytes b → a ≡ b
  same_there a b is other =
      let same = same_spelled is.offered other.offered is.spells other.spells in
      one_break (heads_of other.offered) (get other.offered.refs log_name) a b (subst (λ (r : Repository). IsBreakOf r a) same is.breaks) other.breaks

  same_refusal : (a b : MirrorFault) → OfferComes was bytes a → OfferComes was bytes b → a ≡ b
  same_refusal (Stream a) (Stream b) is other = ap Stream (refusal.one bytes a b is other)
  same_refusal (Stream a) (BrokenKept id) is other = not_both other.offered a other.spells is
  same_refusal (Stream a) (BrokenOffered id) is other = not_both other.offered a other.spells is
  same_refusal (BrokenKept id) (Stream b) is other = not_both is.offered b is.spells other
  same_refusal (BrokenKept a) (BrokenKept b) is other = ap BrokenKept (same_here a b is other)
  same_refusal (BrokenKept a) (BrokenOffered b) is other = here_there a b is other
  same_refusal (BrokenOffered id) (Stream b) is other = not_both is.offered b is.spells other
  same_refusal (BrokenOffered a) (BrokenKept b) is other = here_there b a other is
  same_refusal (BrokenOffered a) (BrokenOffered b) is other = ap BrokenOffered (same_there a b is other)
  same_refusal Failed b is other = absurd is
  same_refusal Memory b is other = absurd is
  same_refusal a Failed is other = absurd other
  same_refusal a Memory is other = absurd other

  answered_or_refused : {X : Type 0} (offer : Offer) (fault : MirrorFault) → IsAnswered was bytes offer → OfferComes was bytes fault → X
  answered_or_refused offer (Stream fault) is refused = not_both is.offered fault is.spells refused
  answered_or_refused offer (BrokenKept id) is refused = answered_here offer id is refused
  answered_or_refused offer (BrokenOffered id) is refused = answered_there offer id is refused
  answered_or_refused offer Failed is refused = absurd refused
  answered_or_refused offer Memory is refused = absurd refused

  one_mirror : (a b : Result Offer OfferFault) → MirrorComes was bytes a → MirrorComes was bytes b → a ≡ b
  one_mirror (Ok a) (Ok b) is other = ap (λ (o : Offer). Ok o) (same_answer a b is other)
  one_mirror (Ok a) (Err (Refused fault)) is other = answered_or_refused a fault is other
  one_mirror (Err (Refused fault)) (Ok b) is other = answered_or_refused b fault other is
  one_mirror (Err (Refused a)) (Err (Refused b)) is other = ap (λ (f : MirrorFault). Err (Refused f)) (same_refusal a b is other)
  one_mirror (Err SinkFailed) b is other = absurd is
  one_mirror a (Err SinkFailed) is other = absurd other

pub same_mirror : OneSpelling → OneRefusal → OneMaking → OneBreak → NeverBoth → (was : Repository) (bytes : List ℕ) (a b : Result Offer OfferFault)
    → MirrorComes was bytes a → MirrorComes was bytes b → a ≡ b
same_mirror spelling refusal making one_break never_both was bytes a b is other = one_mirror spelling refusal making one_break never_both was bytes a b is other

-- ---- `evidence-make`

same_missing : (was : Repository) (left right a b : List ℕ) → IsFirstMissing was left right a → IsFirstMissing was left right b → a ≡ b
same_missing was left right a b (inl is) (inl other) = is.0 ∙ sym other.0
same_missing was left right a b (inl is) (inr other) = absurd (is.1 other.1.0 other.1.1)
same_missing was left right a b (inr is) (inl other) = absurd (other.1 is.1.0 is.1.1)
same_missing was left right a b (inr is) (inr other) = is.0 ∙ sym other.0

there_or_missing : {X : Type 0} (was : Repository) (left right id : List ℕ) → MakeComes was left right (Ok tt) → IsFirstMissing was left right id → X
there_or_missing was left right id is (inl none) = absurd (none.1 is.0.0 is.0.1)
there_or_missing was left right id is (inr none) = absurd (none.2 is.1.0 is.1.1)

pub same_make : (was : Repository) (left right : List ℕ) (a b : Result (Unit {0}) MakeFault) → MakeComes was left right a → MakeComes was left right b → a ≡ b
same_make was left right (Ok done) (Ok also) is other = refl
same_make was left right (Ok done) (Err (make.NoObject id)) is other = there_or_missing was left right id is other
same_make was left right (Err (make.NoObject id)) (Ok done) is other = there_or_missing was left right id other is
same_make was left right (Err (make.NoObject a)) (Err (make.NoObject b)) is other = ap (λ (id : List ℕ). Err (make.NoObject id)) (same_missing was left right a b is other)
same_make was left right (Err make.KeeperFailed) b is other = absurd is
same_make was left right (Err make.SinkFailed) b is other = absurd is
same_make was left right (Err make.Memory) b is other = absurd is
same_make was left right a (Err make.KeeperFailed) is other = absurd other
same_make was left right a (Err make.SinkFailed) is other = absurd other
same_make was left right a (Err make.Memory) is other = absurd other

-- ---- `evidence-check`

module _ (one : OneDossier) (bytes : List ℕ) where
  one_check : (a b : Result Finding CheckFault) → CheckComes bytes a → CheckComes bytes b → a ≡ b
  one_check (Ok a) (Ok b) is other =
      ap (λ (f : Finding). Ok f) (is.is ∙ ap finding_of (one.one_dossier is.dossier other.dossier bytes is.text other.text) ∙ sym other.is)
  one_check (Ok a) (Err check.TooLong) is other = let few = is.short in absurd (omega arith)
  one_check (Ok a) (Err (check.Malformed at)) is other = absurd (one.apart bytes at (is.dossier, is.text) other.1)
  one_check (Err check.TooLong) (Ok b) is other = let few = other.short in absurd (omega arith)
  one_check (Err check.TooLong) (Err check.TooLong) is other = refl
  one_check (Err check.TooLong) (Err (check.Malformed at)) is other = let few = other.0 in absurd (omega arith)
  one_check (Err (check.Malformed at)) (Ok b) is other = absurd (one.apart bytes at (other.dossier, other.text) is.1)
  one_check (Err (check.Malformed at)) (Err check.TooLong) is other = let few = is.0 in absurd (omega arith)
  one_check (Err (check.Malformed m)) (Err (check.Malformed n)) is other = ap (λ (at : ℕ). Err (check.Malformed at)) (one.one_place bytes m n is.1 other.1)
  one_check (Err check.SourceFailed) b is other = absurd is
  one_check (Err check.SinkFailed) b is other = absurd is
  one_check (Err check.Memory) b is other = absurd is
  one_check a (Err check.SourceFailed) is other = absurd other
  one_check a (Err check.SinkFailed) is other = absurd other
  one_check a (Err check.Memory) is other = absurd other

pub same_check : OneDossier → (bytes : List ℕ) (a b : Result Finding CheckFault) → CheckComes bytes a → CheckComes bytes b → a ≡ b
same_check one bytes a b is other = one_check one bytes a b is other
