-- A step that cannot be written is why the whole cannot.
use Rattle.std.proofs.Common.{◌≡◌, ap}
use Rattle.std.specs.Prelude.{IsErrOf, Result, Err}
use Rattle.metadata_writing.specs.declared.faults.WriteFault.{WriteFault}
use Rattle.metadata_writing.specs.declared.faults.WriteFault.TheVariants.{Unwritable}

same_fault : {T : Type 0} (f g : WriteFault) → ◌≡◌ {A = Result T WriteFault} (Err f) (Err g) → f ≡ g
same_fault f g e = cc

pub moved : {S T : Type 0} (fault : WriteFault) → IsErrOf {T = T} (Err fault) Unwritable → IsErrOf {T = S} (Err fault) Unwritable
moved fault is = ap Err (same_fault fault Unwritable is)
