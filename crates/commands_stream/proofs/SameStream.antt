-- There is at most one outcome for the same words and content.
use Rattle.std.proofs.Common.{◌≡◌, inl, inr, ℕ, List, [], refl, sym, ap, ◌∙◌, subst}
use Rattle.std.specs.Prelude.{Ok, Err, Bool, IsTrue, false, Result}
use Rattle.std.proofs.lemmas.Bool.{false≢true}
use Rattle.std.proofs.lemmas.List.{append-nil}
use Rattle.git_object.specs.Repository.{Repository}
use Rattle.clone_stream.specs.ExportLaws.{OneExport}
use Rattle.clone_stream.specs.Faults.{fault_number}
use Rattle.clone_stream.specs.Laws.{OneRefusal}
use Rattle.clone_stream.specs.Streams.{IsStreamText, OneSpelling}
use Rattle.clone_stream.specs.declared.export_faults.ExportFault.{ExportFault}
use Rattle.clone_stream.specs.declared.export_faults.ExportFault.TheVariants as export
use Rattle.commands_stream.specs.Contents.{ExportComes, ImportComes, IsNotTaken, IsOpened, IsTaken, TakeComes}
use Rattle.commands_stream.specs.declared.importing.ImportFault.{ImportFault}
use Rattle.commands_stream.specs.declared.importing.ImportFault.TheVariants as import
use Rattle.commands_stream.specs.declared.taking.TakeFault.{TakeFault}
use Rattle.commands_stream.specs.declared.taking.TakeFault.TheVariants as take

-- a flag is not both given and missing
no_flag : {X : Type 0} (flag : Bool) → IsTrue flag → flag ≡ false → X
no_flag flag given missing = absurd (false≢true (sym missing ∙ given))

module _ (spelling : OneSpelling) (refusal : OneRefusal) (was : Repository) (bytes : List ℕ) where
  -- bytes spell one repository
  same_taken : (r s : Repository) → IsTaken was bytes r → IsTaken was bytes s → r ≡ s
  same_taken r s is other = (spelling r s bytes [] is.text (subst (IsStreamText s) (sym (append-nil bytes)) other.text)).1

  -- what is taken is not refused
  not_both : {X : Type 0} (r : Repository) (number : ℕ) → IsTaken was bytes r → IsNotTaken was bytes number → X
  not_both r number is (inl full) = absurd (full.1 is.empty)
  not_both r number is (inr broken) = absurd (refusal.apart bytes r broken.fault is.text is.short broken.decides)

  same_number : (m n : ℕ) → IsNotTaken was bytes m → IsNotTaken was bytes n → m ≡ n
  same_number m n (inl full) (inl also) = full.0 ∙ sym also.0
  same_number m n (inl full) (inr broken) = absurd (full.1 broken.empty)
  same_number m n (inr broken) (inl full) = absurd (full.1 broken.empty)
  same_number m n (inr broken) (inr also) = broken.number_is ∙ ap fault_number (refusal.one bytes broken.fault also.fault broken.decides also.decides) ∙ sym also.number_is

  pub same_opened : (stdin : Bool) (r s : Repository) → IsOpened stdin was bytes r → IsOpened stdin was bytes s → r ≡ s
  same_opened stdin r s (inl is) (inl other) = same_taken r s is.1 other.1
  same_opened stdin r s (inl is) (inr other) = no_flag stdin is.0 other.0
  same_opened stdin r s (inr is) (inl other) = no_flag stdin other.0 is.0
  same_opened stdin r s (inr is) (inr other) = is.1 ∙ sym other.1

  -- what taking a stream is refused for
  pub same_fault : (f g : TakeFault) → TakeComes was bytes f → TakeComes was bytes g → f ≡ g
  same_fault (take.Stream m) (take.Stream n) is other = ap take.Stream (same_number m n is other)
  same_fault take.SourceFailed g is other = absurd is
  same_fault take.KeeperFailed g is other = absurd is
  same_fault take.Memory g is other = absurd is
  same_fault f take.SourceFailed is other = absurd other
  same_fault f take.KeeperFailed is other = absurd other
  same_fault f take.Memory is other = absurd other

  taken_or_refused : {X : Type 0} (r : Repository) (fault : TakeFault) → IsTaken was bytes r → TakeComes was bytes fault → X
  taken_or_refused r (take.Stream number) is other = not_both r number is other
  taken_or_refused r take.SourceFailed is other = absurd other
  taken_or_refused r take.KeeperFailed is other = absurd other
  taken_or_refused r take.Memory is other = absurd other

  pub opened_or_declined : {X : Type 0} (stdin : Bool) (r : Repository) (fault : TakeFault) → IsOpened stdin was bytes r → IsTrue stdin → TakeComes was bytes fault → X
  opened_or_declined stdin r fault (inl is) given refused = taken_or_refused r fault is.1 refused
  opened_or_declined stdin r fault (inr is) given refused = no_flag stdin given is.0

  one_import : (a b : Result (Unit {0}) ImportFault) → ImportComes was bytes a → ImportComes was bytes b → a ≡ b
  one_import (Ok done) (Ok also) is other = refl
  one_import (Ok done) (Err (import.Untaken fault)) is other = taken_or_refused is.0 fault is.1 other
  one_import (Err (import.Untaken fault)) (Ok done) is other = taken_or_refused other.0 fault other.1 is
  one_import (Err (import.Untaken fault)) (Err (import.Untaken found)) is other = ap (λ (f : TakeFault). Err (import.Untaken f)) (same_fault fault found is other)
  one_import (Err import.SinkFailed) b is other = absurd is
  one_import a (Err import.SinkFailed) is other = absurd other

pub same_import : OneSpelling → OneRefusal → (was : Repository) (bytes : List ℕ) (a b : Result (Unit {0}) ImportFault) → ImportComes was bytes a → ImportComes was bytes b → a ≡ b
same_import spelling refusal was bytes a b is other = one_import spelling refusal was bytes a b is other

pub same_export : OneExport → (was : Repository) (a b : Result (Unit {0}) ExportFault) → ExportComes was a → ExportComes was b → a ≡ b
same_export exports was (Ok done) (Ok also) is other = refl
same_export exports was (Ok done) (Err (export.Damaged id)) is other = absurd (exports.text_or_damaged was is.text id other.0 is.is other.1)
same_export exports was (Ok done) (Err (export.TooLarge limit)) is other = absurd (exports.text_or_past was is.text is.is is.short other.1)
same_export exports was (Err (export.Damaged id)) (Ok done) is other = absurd (exports.text_or_damaged was other.text id is.0 other.is is.1)
same_export exports was (Err (export.Damaged id)) (Err (export.Damaged found)) is other = ap (λ (i : List ℕ). Err (export.Damaged i)) (exports.one_damaged was id found is.0 other.0 is.1 other.1)
same_export exports was (Err (export.Damaged id)) (Err (export.TooLarge limit)) is other = absurd (exports.damaged_or_past was id is.0 is.1 other.1)
same_export exports was (Err (export.TooLarge limit)) (Ok done) is other = absurd (exports.text_or_past was other.text other.is other.short is.1)
same_export exports was (Err (export.TooLarge limit)) (Err (export.Damaged found)) is other = absurd (exports.damaged_or_past was found other.0 other.1 is.1)
same_export exports was (Err (export.TooLarge limit)) (Err (export.TooLarge bound)) is other = ap (λ (n : ℕ). Err (export.TooLarge n)) (is.0 ∙ sym other.0)
same_export exports was (Err export.KeeperFailed) b is other = absurd is
same_export exports was (Err export.SinkFailed) b is other = absurd is
same_export exports was (Err export.Memory) b is other = absurd is
same_export exports was a (Err export.KeeperFailed) is other = absurd other
same_export exports was a (Err export.SinkFailed) is other = absurd other
same_export exports was a (Err export.Memory) is other = absurd other
