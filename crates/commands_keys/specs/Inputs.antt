-- What is sealed: what the source gives.
use Rattle.std.specs.Prelude.{◌≡◌, ◌≤◌, ℕ, Bool, true, false, List, [], length, Option, Result, Ok, Err, codes}
use Rattle.octets.specs.Content.{with_front}
use Rattle.edge_io.specs.Read.{HasMore, HasRead, IsAtEnd}
use Rattle.dsse_envelope.specs.Envelopes.{reading}
use Rattle.dsse_envelope.specs.declared.envelope.Envelope.{Envelope}
use Rattle.commands_keys.specs.declared.inputs.InputFault.{InputFault}
use Rattle.commands_keys.specs.declared.inputs.InputFault.TheVariants.{TooLong, NoEnvelope, SourceFailed, Memory}

-- a payload of a policy's metadata that nobody has signed
abbrev pub unsigned : List ℕ → Envelope
unsigned payload = record { payload_type = codes "application/vnd.gittuf+json"; payload = payload; signatures = [] }

-- what is sealed where the source gave these bytes: the envelope that they are, or else a new one around them
abbrev pub IsGiven : Bool → List ℕ → Envelope → Type 0
IsGiven false bytes e = e ≡ unsigned bytes
IsGiven true bytes e = reading bytes ≡ Ok e

-- why the bytes give nothing to seal
abbrev pub WhyNotGiven : Bool → List ℕ → InputFault → Type 0
WhyNotGiven add bytes TooLong = ⊥
WhyNotGiven add bytes (NoEnvelope fault) = (add ≡ true) × (reading bytes ≡ Err fault)
WhyNotGiven add bytes SourceFailed = ⊥
WhyNotGiven add bytes Memory = Unit {0}

-- the fault that the source counts
abbrev pub source_failed : InputFault → Bool
source_failed TooLong = false
source_failed (NoEnvelope fault) = false
source_failed SourceFailed = true
source_failed Memory = false

-- the source was read to its end, and gave at most 1 MiB
pub record Gives (left left_now : Option (List ℕ)) (bytes : List ℕ) : Type 0 where
  pub read : left ≡ with_front bytes left_now
  pub end : IsAtEnd left_now
  pub short : length bytes ≤ 1048576

module _ (add : Bool) (left left_now : Option (List ℕ)) where
  pub record Takes (e : Envelope) : Type 0 where
    pub bytes : List ℕ
    pub gives : Gives left left_now bytes
    pub given : IsGiven add bytes e

  pub record TakesNone (fault : InputFault) : Type 0 where
    pub bytes : List ℕ
    pub gives : Gives left left_now bytes
    pub why : WhyNotGiven add bytes fault

  -- why nothing was taken, and how much of the source is gone
  abbrev pub RefusesInput : InputFault → Type 0
  RefusesInput TooLong = HasMore 1048576 left left_now
  RefusesInput (NoEnvelope fault) = TakesNone (NoEnvelope fault)
  RefusesInput SourceFailed = HasRead 1048576 left left_now
  RefusesInput Memory = HasRead 1048576 left left_now

  abbrev pub InputEnds : Result Envelope InputFault → Type 0
  InputEnds (Ok e) = Takes e
  InputEnds (Err fault) = RefusesInput fault
