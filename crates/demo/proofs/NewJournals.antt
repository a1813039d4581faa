-- A key file that was made for a key and then loaded is one of that key, and no leaf of it is used.
use Rattle.std.proofs.Common.{◌≡◌, ◌+◌, ◌^◌, ℕ, List, length, get_or, drop, refl, sym, ap, subst, ◌∙◌, arith}
use Rattle.std.specs.Prelude.{Option, Some, None}
use Rattle.std.proofs.lemmas.List.{get_or-drop, length-drop}
use Rattle.lmots.specs.declared.ots_type.OtsType.TheVariants.{W4}
use Rattle.lms_keys.specs.declared.lms_type.LmsType.TheVariants.{H10}
use Rattle.lms_keys.specs.HssSecret.{Secret}
use Rattle.leaf_journal.specs.KeyFile.{IsNewKeyFile, start_of}
use Rattle.leaf_journal.specs.Signing.{Covers, IsLoaded, Signing}
use Rattle.leaf_journal.proofs.Fronts.{one_key}
use Rattle.demo.specs.Journals.{IsJournal}

module _ (i seed : List ℕ) where
  -- the key that is made of these
  abbrev pub made_key : Secret
  made_key = record { top = record { lms = H10; ots = W4; i = i; seed = seed }; below = None }

  module _ (file : List ℕ) (signer : Signing) (made : IsNewKeyFile made_key file) (loads : IsLoaded file signer) where
    pub loaded_key : signer.secret ≡ made_key
    loaded_key = one_key file signer.secret made_key loads.is made.is

    marks_are : signer.marks ≡ drop 64 file
    marks_are = loads.marked ∙ ap (λ (s : Secret). drop (start_of s.below) file) loaded_key

    long : length signer.marks ≡ 1024
    long = let size : length file ≡ 64 + 2 ^ 10 = made.is.size in ap length marks_are ∙ length-drop 64 file ∙ omega (arith, size)

    pub new_journal : Covers signer file → IsJournal signer (Some file) 0
    new_journal covers = record {
      lms = ap (λ (s : Secret). s.top.lms) loaded_key;
      one_level = ap (λ (s : Secret). s.below) loaded_key;
      long = long;
      within = omega arith;
      marked = λ q less. absurd (omega (arith, less));
      free = λ q low. ap (λ (marks : List ℕ). get_or marks q 0) marks_are ∙ get_or-drop 64 file q 0 ∙ made.unused q;
      covers = λ other told. subst (Covers signer) (same_file other told) covers;
    }
      where
        same_file : (other : List ℕ) → ◌≡◌ {A = Option (List ℕ)} (Some file) (Some other) → file ≡ other
        same_file other told = cc
