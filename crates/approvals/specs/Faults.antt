-- Why an approval is not put into the attestations.
use Rattle.std.specs.Prelude.{Bool, true, false, ℕ, List}
use Rattle.approvals.specs.declared.attest_faults.AttestFault.{AttestFault}
use Rattle.approvals.specs.declared.attest_faults.AttestFault.TheVariants.{Failed, Memory, Unreadable}

-- the fault that a keeper counts
abbrev pub attest_failed : AttestFault → Bool
attest_failed Failed = true
attest_failed (Unreadable id) = false
attest_failed Memory = false

-- the object that is named, if one is
abbrev pub IfUnreadable : AttestFault → (List ℕ → Type 0) → Type 0
IfUnreadable Failed P = Unit {0}
IfUnreadable (Unreadable id) P = P id
IfUnreadable Memory P = Unit {0}
