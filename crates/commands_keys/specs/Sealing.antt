-- What each outcome of `seal` means, and how the program ends then.
use Rattle.std.specs.Prelude.{◌≡◌, ℕ, Bool, false, List, Option, Result, Ok, Err}
use Rattle.octets.specs.Content.{GainsPart, with_end}
use Rattle.edge_io.specs.declared.disks.Disk as disk
use Rattle.leaf_journal.specs.declared.open_keys.OpenFault.TheVariants as open_fault
use Rattle.dsse_envelope.specs.declared.envelope.Envelope.{Envelope}
use Rattle.worlds.specs.declared.ending.Ending.{Ending}
use Rattle.worlds.specs.declared.ending.Ending.TheVariants.{Done, Refused}
use Rattle.worlds.specs.declared.ending.Part.TheVariants as part
use Rattle.worlds.specs.declared.ending.Refusal.TheVariants as refusal
use Rattle.commands_keys.specs.EnvelopeSigning as signing
use Rattle.commands_keys.specs.EnvelopeSigning.{RefusesSigning, Seals}
use Rattle.commands_keys.specs.Inputs as inputs
use Rattle.commands_keys.specs.Inputs.{RefusesInput, Takes}
use Rattle.commands_keys.specs.declared.signing_envelopes.SigningFault.{SigningFault}
use Rattle.commands_keys.specs.declared.signing_envelopes.SigningFault.TheVariants.{Unopened, Full, Exhausted}
use Rattle.commands_keys.specs.declared.signing_envelopes.SigningFault.TheVariants.{DiskFailed, Memory, MemoryAfter}
use Rattle.commands_keys.specs.declared.inputs.InputFault.{InputFault}
use Rattle.commands_keys.specs.declared.inputs.InputFault.TheVariants as input
use Rattle.commands_keys.specs.declared.sealing.SealFault.{SealFault}
use Rattle.commands_keys.specs.declared.sealing.SealFault.TheVariants.{Untaken, Unsigned, SinkFailed}

-- ---- how the program ends
abbrev pub input_ending : InputFault → Ending
input_ending input.TooLong = Refused refusal.Input
input_ending (input.NoEnvelope fault) = Refused refusal.Input
input_ending input.SourceFailed = Refused (refusal.Fault part.Source)
input_ending input.Memory = Refused refusal.Memory

abbrev pub signing_ending : SigningFault → Ending
signing_ending (Unopened open_fault.KeyFile) = Refused refusal.KeyFile
signing_ending (Unopened open_fault.DiskFailed) = Refused (refusal.Fault part.Disk)
signing_ending (Unopened open_fault.Memory) = Refused refusal.Memory
signing_ending Full = Refused refusal.Input
signing_ending Exhausted = Refused refusal.Exhausted
signing_ending DiskFailed = Refused (refusal.Fault part.Disk)
signing_ending Memory = Refused refusal.Memory
signing_ending MemoryAfter = Refused refusal.Memory

abbrev pub seal_ending : Result (Unit {0}) SealFault → Ending
seal_ending (Ok done) = Done
seal_ending (Err (Untaken fault)) = input_ending fault
seal_ending (Err (Unsigned fault)) = signing_ending fault
seal_ending (Err SinkFailed) = Refused (refusal.Fault part.Sink)

-- ---- which refusals are a fault of the source, of the disk
abbrev pub source_failed : SealFault → Bool
source_failed (Untaken fault) = inputs.source_failed fault
source_failed (Unsigned fault) = false
source_failed SinkFailed = false

abbrev pub disk_failed : SealFault → Bool
disk_failed (Untaken fault) = false
disk_failed (Unsigned fault) = signing.disk_failed fault
disk_failed SinkFailed = false

-- ---- what it means
module _ {D : Type 0} (disk_of : disk.Ghosts D) (add : Bool) (left left_now : Option (List ℕ)) (old new : D) where
  -- what the source gave was signed
  pub record SealsGiven (line : List ℕ) : Type 0 where
    pub envelope : Envelope
    pub takes : Takes add left left_now envelope
    pub seals : Seals disk_of envelope old new line

  -- what the source gave was not signed
  pub record RefusesGiven (fault : SigningFault) : Type 0 where
    pub envelope : Envelope
    pub takes : Takes add left left_now envelope
    pub refuses : RefusesSigning disk_of envelope old new fault

  -- before anything is printed
  abbrev pub SealedEnds : Result (List ℕ) SealFault → Type 0
  SealedEnds (Ok line) = SealsGiven line
  SealedEnds (Err (Untaken fault)) = RefusesInput add left left_now fault × (new ≡ old)
  SealedEnds (Err (Unsigned fault)) = RefusesGiven fault
  SealedEnds (Err SinkFailed) = ⊥

  -- the envelope was signed and printed; or nothing was taken, and the disk is the same; or nothing was signed; or a
  -- front of the line went out
  abbrev pub SealEnds : Option (List ℕ) → Option (List ℕ) → Result (Unit {0}) SealFault → Type 0
  SealEnds printed printed_now (Ok done) = (line : List ℕ) × SealsGiven line × (printed_now ≡ with_end printed line)
  SealEnds printed printed_now (Err (Untaken fault)) = RefusesInput add left left_now fault × (new ≡ old)
      × (printed_now ≡ printed)
  SealEnds printed printed_now (Err (Unsigned fault)) = RefusesGiven fault × (printed_now ≡ printed)
  SealEnds printed printed_now (Err SinkFailed) = (line : List ℕ) × SealsGiven line × GainsPart printed printed_now line
