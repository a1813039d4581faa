-- What each outcome of `evidence-check` means.
use Rattle.std.specs.Prelude.{◌≡◌, ◌≤◌, ℕ, Bool, true, false, List, Option, Some, None, Result, Ok, Err, length}
use Rattle.octets.specs.Content.{GainsPart, with_end, with_front}
use Rattle.edge_io.specs.Read.{HasMore, IsAtEnd}
use Rattle.worlds.specs.declared.ending.Ending.{Ending}
use Rattle.worlds.specs.declared.ending.Ending.TheVariants.{Done, Differs, Refused}
use Rattle.worlds.specs.declared.ending.Part.TheVariants as part
use Rattle.worlds.specs.declared.ending.Refusal.TheVariants as refusal
use Rattle.evidence.specs.Breaks.{IsBreak}
use Rattle.evidence.specs.Dossiers.{IsDossierText}
use Rattle.evidence.specs.Finding.{finding_of}
use Rattle.evidence.specs.declared.dossiers.Dossier.{Dossier}
use Rattle.evidence.specs.declared.findings.Finding.{Finding}
use Rattle.commands_mirror.specs.Lines.{finding_lines}
use Rattle.commands_mirror.specs.declared.checking_evidence.CheckFault.{CheckFault}
use Rattle.commands_mirror.specs.declared.checking_evidence.CheckFault.TheVariants.{TooLong, Malformed, SourceFailed}
use Rattle.commands_mirror.specs.declared.checking_evidence.CheckFault.TheVariants.{SinkFailed, Memory}

-- ---- how the program ends
abbrev pub found_ending : Option ℕ → Option ℕ → Ending
found_ending None None = Differs
found_ending (Some number) reuse = Done
found_ending None (Some leaf) = Done

abbrev pub check_ending : Result Finding CheckFault → Ending
check_ending (Ok finding) = found_ending finding.fork finding.reuse
check_ending (Err TooLong) = Refused refusal.Input
check_ending (Err (Malformed at)) = Refused refusal.Input
check_ending (Err SourceFailed) = Refused (refusal.Fault part.Source)
check_ending (Err SinkFailed) = Refused (refusal.Fault part.Sink)
check_ending (Err Memory) = Refused refusal.Memory

-- the fault that the source counts
abbrev pub check_failed : CheckFault → Bool
check_failed TooLong = false
check_failed (Malformed at) = false
check_failed SourceFailed = true
check_failed SinkFailed = false
check_failed Memory = false

-- ---- what is read
-- the most bytes of a dossier that is read: 64 MiB
abbrev pub largest_dossier : ℕ
largest_dossier = 67108864

-- the source was read to its end, and gave these bytes, which are few enough
pub record Gives (left left_now : Option (List ℕ)) (bytes : List ℕ) : Type 0 where
  pub read : left ≡ with_front bytes left_now
  pub end : IsAtEnd left_now
  pub short : length bytes ≤ largest_dossier

-- these are the text of this dossier
pub record GivesDossier (left left_now : Option (List ℕ)) (dossier : Dossier) : Type 0 where
  pub bytes : List ℕ
  pub gives : Gives left left_now bytes
  pub text : IsDossierText dossier bytes

-- they are no dossier's, and first wrong at this place
pub record GivesNone (left left_now : Option (List ℕ)) (at : ℕ) : Type 0 where
  pub bytes : List ℕ
  pub gives : Gives left left_now bytes
  pub breaks : IsBreak bytes at

abbrev pub RefusesRead : Option (List ℕ) → Option (List ℕ) → CheckFault → Type 0
RefusesRead left left_now TooLong = HasMore largest_dossier left left_now
RefusesRead left left_now (Malformed at) = GivesNone left left_now at
RefusesRead left left_now SourceFailed = Unit {0}
RefusesRead left left_now SinkFailed = ⊥
RefusesRead left left_now Memory = Unit {0}

abbrev pub ReadEnds : Option (List ℕ) → Option (List ℕ) → Result Dossier CheckFault → Type 0
ReadEnds left left_now (Ok dossier) = GivesDossier left left_now dossier
ReadEnds left left_now (Err fault) = RefusesRead left left_now fault

-- ---- what each outcome means
-- the source gave a dossier that shows this
pub record Shows (left left_now : Option (List ℕ)) (finding : Finding) : Type 0 where
  pub dossier : Dossier
  pub gives : GivesDossier left left_now dossier
  pub is : finding ≡ finding_of dossier

-- that was printed; or nothing was read and nothing printed; or a front of the lines was printed
abbrev pub CheckEnds : Option (List ℕ) → Option (List ℕ) → Option (List ℕ) → Option (List ℕ)
    → Result Finding CheckFault → Type 0
CheckEnds left left_now printed printed_now (Ok finding) =
    Shows left left_now finding × (printed_now ≡ with_end printed (finding_lines finding))
CheckEnds left left_now printed printed_now (Err TooLong) =
    HasMore largest_dossier left left_now × (printed_now ≡ printed)
CheckEnds left left_now printed printed_now (Err (Malformed at)) =
    GivesNone left left_now at × (printed_now ≡ printed)
CheckEnds left left_now printed printed_now (Err SourceFailed) = printed_now ≡ printed
CheckEnds left left_now printed printed_now (Err SinkFailed) =
    (finding : Finding) × Shows left left_now finding × GainsPart printed printed_now (finding_lines finding)
CheckEnds left left_now printed printed_now (Err Memory) = printed_now ≡ printed
