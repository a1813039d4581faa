-- Counts of faults over the steps of the commands on evidence.
use Rattle.std.proofs.Common.{◌≡◌, ◌≤◌, ℕ, List, refl, sym, ap, ◌∙◌}
use Rattle.std.specs.Prelude.{Option, Some, None, Ok, Err}
use Rattle.octets.specs.Causes.{HasCause}
use Rattle.git_object.specs.Objects.{Pair}
use Rattle.git_object.specs.Repository.{Repository}
use Rattle.worlds.proofs.Counting.{keeper_failed, keeper_quiet}
use Rattle.worlds.specs.Counts.{Faults, IsCounted, with_fault}
use Rattle.worlds.specs.Endings.{part_of}
use Rattle.worlds.specs.declared.ending.Ending.{Ending}
use Rattle.evidence.specs.declared.dossiers.Dossier.{Dossier}
use Rattle.std.proofs.Math.Nat.{le_refl}
use Rattle.octets.specs.Causes.{one_more}
use Rattle.worlds.specs.declared.ending.Ending.TheVariants.{Refused}
use Rattle.worlds.specs.declared.ending.Part.TheVariants as part
use Rattle.worlds.specs.declared.ending.Refusal.TheVariants as refusal
use Rattle.commands_mirror.specs.Checking.{ReadEnds, check_ending, check_failed, found_ending}
use Rattle.commands_mirror.specs.Making.{BodiesEnd, make_ending, make_failed}
use Rattle.commands_mirror.specs.declared.checking_evidence.CheckFault.{CheckFault}
use Rattle.commands_mirror.specs.declared.checking_evidence.CheckFault.TheVariants as check
use Rattle.commands_mirror.specs.declared.making_evidence.MakeFault.{MakeFault}
use Rattle.commands_mirror.specs.declared.making_evidence.MakeFault.TheVariants as make

-- no object was loaded
pub unmade_counted : (held : Option Repository) (left right : List ℕ) (f : Faults) (now : ℕ) (fault : MakeFault) → BodiesEnd held left right (Err fault)
    → HasCause {T = Pair × Pair} make_failed f.keeper now (Err fault) → IsCounted (make_ending (Err fault)) f (record f { keeper = now })
unmade_counted held left right f now (make.NoObject id) ends cause = keeper_quiet _ f now refl cause.later cause.is
unmade_counted held left right f now make.KeeperFailed ends cause = keeper_failed f now cause.later cause.is
unmade_counted held left right f now make.SinkFailed ends cause = absurd ends
unmade_counted held left right f now make.Memory ends cause = keeper_quiet _ f now refl cause.later cause.is

-- a step of the source
source_quiet : (ending : Ending) (f : Faults) (now : ℕ) → part_of ending ≡ None → f.source ≤ now → now ≡ f.source → IsCounted ending f (record f { source = now })
source_quiet ending f now none later same = record {
  is = (λ i. record f { source = same i }) ∙ ap (λ (p : _). with_fault p f) (sym none);
  later = record { source = later; sink = le_refl f.sink; keeper = le_refl f.keeper; disk = le_refl f.disk; entropy = le_refl f.entropy; clock = le_refl f.clock; peer = le_refl f.peer };
}

source_failed : (f : Faults) (now : ℕ) → f.source ≤ now → now ≡ one_more f.source → IsCounted (Refused (refusal.Fault part.Source)) f (record f { source = now })
source_failed f now later more = record {
  is = λ i. record f { source = more i };
  later = record { source = later; sink = le_refl f.sink; keeper = le_refl f.keeper; disk = le_refl f.disk; entropy = le_refl f.entropy; clock = le_refl f.clock; peer = le_refl f.peer };
}

-- no dossier was read
pub unread_counted : (left left_now : Option (List ℕ)) (f : Faults) (now : ℕ) (fault : CheckFault) → ReadEnds left left_now (Err fault)
    → HasCause {T = Dossier} check_failed f.source now (Err fault) → IsCounted (check_ending (Err fault)) f (record f { source = now })
unread_counted left left_now f now check.TooLong ends cause = source_quiet _ f now refl cause.later cause.is
unread_counted left left_now f now (check.Malformed at) ends cause = source_quiet _ f now refl cause.later cause.is
unread_counted left left_now f now check.SourceFailed ends cause = source_failed f now cause.later cause.is
unread_counted left left_now f now check.SinkFailed ends cause = absurd ends
unread_counted left left_now f now check.Memory ends cause = source_quiet _ f now refl cause.later cause.is

-- a dossier was read
pub read_counted : (ending : Ending) (f : Faults) (now : ℕ) (dossier : Dossier) → part_of ending ≡ None → HasCause check_failed f.source now (Ok dossier) → IsCounted ending f (record f { source = now })
read_counted ending f now dossier none cause = source_quiet ending f now none cause.later cause.is

-- what is found is no fault
pub found_quiet : (fork reuse : Option ℕ) → part_of (found_ending fork reuse) ≡ None
found_quiet None None = refl
found_quiet (Some number) reuse = refl
found_quiet None (Some leaf) = refl
