-- What the marks of an open key say of its file.
use Rattle.std.proofs.Common.{◌≡◌, ◌+◌, ◌^◌, ℕ, List, length, get_or, sym, ap, ◌∙◌, arith}
use Rattle.std.proofs.lemmas.List.{get_or-drop, length-drop}
use Rattle.lms_keys.specs.HssSecret.{height_of}
use Rattle.leaf_journal.specs.KeyFile.{start_in, start_of}
use Rattle.leaf_journal.proofs.Leaves.{byte_is}
use Rattle.leaf_journal.specs.Loading.{WhyNotLoaded}
use Rattle.leaf_journal.specs.Signing.{AllMarked, IsLeast, IsLoaded, Signing}
use Rattle.leaf_journal.specs.declared.faults.LoadFault.{LoadFault}
use Rattle.leaf_journal.specs.declared.faults.LoadFault.TheVariants.{WrongLength, BadHeader, Disk, Memory}
use Rattle.std.proofs.Common.{inl, inr}
use Rattle.leaf_journal.specs.Files.{IsLeastUnused, IsUsedUp}
use Rattle.leaf_journal.specs.Opening.{WhyUnopened, opened_fault}

-- a mark is the leaf's byte
mark_is : (file : List ℕ) (signing : Signing) → IsLoaded file signing → (q : ℕ) → get_or signing.marks q 0 ≡ get_or file (start_of signing.secret.below + q) 0
mark_is file signing loaded q = ap (λ (l : List ℕ). get_or l q 0) loaded.marked ∙ get_or-drop (start_of signing.secret.below) file q 0

marks_long : (file : List ℕ) (signing : Signing) → IsLoaded file signing → length signing.marks ≡ 2 ^ height_of signing.secret
marks_long file signing loaded = ap (λ (l : List ℕ). length l) loaded.marked ∙ omega (arith, length-drop (start_of signing.secret.below) file, loaded.is.size)

marked_by : (file : List ℕ) (signing : Signing) → IsLoaded file signing → (q : ℕ) → get_or file (start_in file + q) 0 ≡ 0 → get_or signing.marks q 0 ≡ 0
marked_by file signing loaded q none = mark_is file signing loaded q ∙ sym (byte_is file signing.secret q loaded.is) ∙ none

pub loaded_least : (file : List ℕ) (signing : Signing) (q : ℕ) → IsLoaded file signing → IsLeast signing.marks q → IsLeastUnused file signing.secret q
loaded_least file signing q loaded least = record {
  is = loaded.is;
  within = omega (arith, least.within, marks_long file signing loaded);
  free = sym (mark_is file signing loaded q) ∙ least.free;
  least = λ k below none. least.least k below (marked_by file signing loaded k none);
}

pub loaded_used_up : (file : List ℕ) (signing : Signing) → IsLoaded file signing → AllMarked signing.marks → IsUsedUp file signing.secret
loaded_used_up file signing loaded all = record {
  is = loaded.is;
  used = λ q low none. all q (omega (arith, low, marks_long file signing loaded)) (marked_by file signing loaded q none);
}

-- why a file is not loaded is why it is not opened
pub not_opened : (fault : LoadFault) (file : List ℕ) → WhyNotLoaded fault file → WhyUnopened (opened_fault fault) file
not_opened (WrongLength len) file why = elim why.1 [ inl short ↦ inl short | inr other ↦ inr (inr other) ]
not_opened BadHeader file why = inr (inl why)
not_opened Disk file why = tt
not_opened Memory file why = tt
