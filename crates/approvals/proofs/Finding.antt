-- What is found at each step on the way to an approval.
use Rattle.std.proofs.Common.{◌≡◌, ℕ, Bool, true, false, List, Option, Some, None, refl, sym, ap, ◌∙◌}
use Rattle.std.specs.Prelude.{option_and_then, if◌then◌else◌}
use Rattle.std.specs.Result.{result_ok}
use Rattle.git_object.specs.Repository.{Repository}
use Rattle.dsse_envelope.specs.Envelopes.{reading}
use Rattle.dsse_envelope.specs.declared.envelope.Envelope.{Envelope}
use Rattle.root_metadata.specs.Shapes.{only_if}
use Rattle.tree_paths.specs.Blobs.{blob_at}
use Rattle.tree_paths.specs.Readings.{Told}
use Rattle.tree_paths.specs.Repositories.{readings_of}
use Rattle.tree_paths.specs.States.{PathValue}
use Rattle.tree_paths.proofs.Existence.{are_readings}
use Rattle.approvals.specs.Approvals.{approval_path, is_approval}
use Rattle.approvals.specs.Lookups.{approval_at, approval_of, entry_in, file_bytes, file_in, is_file}

-- what is told has its readings
pub told_by : {content : Option Repository} (r : Repository) → content ≡ Some r → Told content (readings_of r)
told_by r told = record { repository = r; told = told; are = are_readings r }

-- ---- a file

module _ (r : Repository) (target path : List ℕ) where
  pub no_entry : None ≡ entry_in (readings_of r) target path → None ≡ file_in r target path
  unfolding file_in
  no_entry is = ap (option_and_then (file_bytes r)) is

  pub other_entry : (value : PathValue) → Some value ≡ entry_in (readings_of r) target path → is_file value.0 ≡ false → None ≡ file_in r target path
  unfolding file_in
  other_entry value is other = ap (λ (b : Bool). if b then blob_at r value.1 else None) (sym other) ∙ ap (option_and_then (file_bytes r)) is

  pub file_entry : (value : PathValue) (found : Option (List ℕ)) → Some value ≡ entry_in (readings_of r) target path → is_file value.0 ≡ true → found ≡ blob_at r value.1
      → found ≡ file_in r target path
  unfolding file_in
  file_entry value found is file bytes =
      bytes ∙ ap (λ (b : Bool). if b then blob_at r value.1 else None) (sym file) ∙ ap (option_and_then (file_bytes r)) is

-- ---- an envelope

module _ (name from tree bytes : List ℕ) where
  abbrev this : Envelope → Option Envelope
  this envelope = only_if (is_approval name from tree envelope) envelope

  pub no_envelope : None ≡ result_ok (reading bytes) → None ≡ approval_of name from tree bytes
  unfolding approval_of
  no_envelope is = ap (option_and_then this) is

  pub other_envelope : (envelope : Envelope) → Some envelope ≡ result_ok (reading bytes) → is_approval name from tree envelope ≡ false → None ≡ approval_of name from tree bytes
  unfolding approval_of
  other_envelope envelope is other = ap (λ (b : Bool). only_if b envelope) (sym other) ∙ ap (option_and_then this) is

  pub this_envelope : (envelope : Envelope) → Some envelope ≡ result_ok (reading bytes) → is_approval name from tree envelope ≡ true → Some envelope ≡ approval_of name from tree bytes
  unfolding approval_of
  this_envelope envelope is approves = ap (λ (b : Bool). only_if b envelope) (sym approves) ∙ ap (option_and_then this) is

-- ---- an approval

module _ (r : Repository) (target name from tree : List ℕ) where
  pub no_file : None ≡ file_in r target (approval_path name from tree) → None ≡ approval_at r target name from tree
  unfolding approval_at
  no_file is = ap (option_and_then (approval_of name from tree)) is

  pub file_there : (bytes : List ℕ) (found : Option Envelope) → Some bytes ≡ file_in r target (approval_path name from tree) → found ≡ approval_of name from tree bytes
      → found ≡ approval_at r target name from tree
  unfolding approval_at
  file_there bytes found is of = of ∙ ap (option_and_then (approval_of name from tree)) is
