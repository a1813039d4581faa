-- What each command comes to where source and disk tell what they hold: one outcome, faults and memory aside.
use Rattle.std.specs.Prelude.{◌≡◌, ◌≢◌, ◌<◌, ◌≤◌, ℕ, Bool, true, false, List, [], length, Result, Ok, Err}
use Rattle.lms_keys.specs.HssSecret.{Secret}
use Rattle.leaf_journal.specs.KeyFile.{IsKeyFile}
use Rattle.leaf_journal.specs.Files.{IsLeastUnused, IsNoKeyFile, IsUsedUp}
use Rattle.leaf_journal.specs.declared.open_keys.OpenFault.TheVariants as open_fault
use Rattle.dsse_envelope.specs.Envelopes.{reading}
use Rattle.dsse_envelope.specs.Sealing.{has_room}
use Rattle.dsse_envelope.specs.declared.envelope.Envelope.{Envelope}
use Rattle.commands_keys.specs.Seals.{id_text}
use Rattle.commands_keys.specs.Inputs.{IsGiven}
use Rattle.commands_keys.specs.declared.signing_envelopes.SigningFault.{SigningFault}
use Rattle.commands_keys.specs.declared.signing_envelopes.SigningFault.TheVariants as signing
use Rattle.commands_keys.specs.declared.inputs.InputFault.{InputFault}
use Rattle.commands_keys.specs.declared.inputs.InputFault.TheVariants as input
use Rattle.commands_keys.specs.declared.making_keys.KeyGenFault.{KeyGenFault}
use Rattle.commands_keys.specs.declared.making_keys.KeyGenFault.TheVariants.{NotEmpty, EntropyFailed, DiskFailed}
use Rattle.commands_keys.specs.declared.making_keys.KeyGenFault.TheVariants.{SinkFailed, Memory}
use Rattle.commands_keys.specs.declared.sealing.SealFault.{SealFault}
use Rattle.commands_keys.specs.declared.sealing.SealFault.TheVariants as seal

-- what `key-gen` comes to
abbrev pub KeyGenComes : List ℕ → Result (Unit {0}) KeyGenFault → Type 0
KeyGenComes file (Ok done) = file ≡ []
KeyGenComes file (Err NotEmpty) = file ≢ []
KeyGenComes file (Err EntropyFailed) = ⊥
KeyGenComes file (Err DiskFailed) = ⊥
KeyGenComes file (Err SinkFailed) = ⊥
KeyGenComes file (Err Memory) = ⊥

module _ (add : Bool) (bytes file : List ℕ) where
  -- there is something to seal, of at most 1 MiB
  pub record HasInput : Type 0 where
    pub envelope : Envelope
    pub short : length bytes ≤ 1048576
    pub given : IsGiven add bytes envelope

  -- and the file is one of a key with an unused leaf, whose signature has a place
  pub record MaySeal : Type 0 where
    pub input : HasInput
    pub secret : Secret
    pub leaf : ℕ
    pub unused : IsLeastUnused file secret leaf
    pub place : has_room (id_text secret) input.envelope.signatures ≡ true

  -- or of a key of which each leaf is used
  pub record MaySpend : Type 0 where
    pub input : HasInput
    pub secret : Secret
    pub used_up : IsUsedUp file secret
    pub place : has_room (id_text secret) input.envelope.signatures ≡ true

  -- or of a key whose signature has no place
  pub record IsFull : Type 0 where
    pub input : HasInput
    pub secret : Secret
    pub is : IsKeyFile file secret
    pub none : has_room (id_text secret) input.envelope.signatures ≡ false

  -- or of no key
  pub record HasNoKey : Type 0 where
    pub input : HasInput
    pub none : IsNoKeyFile file

  abbrev pub InputComes : InputFault → Type 0
  InputComes input.TooLong = 1048576 < length bytes
  InputComes (input.NoEnvelope fault) = (length bytes ≤ 1048576) × (add ≡ true) × (reading bytes ≡ Err fault)
  InputComes input.SourceFailed = ⊥
  InputComes input.Memory = ⊥

  abbrev pub SigningComes : SigningFault → Type 0
  SigningComes (signing.Unopened open_fault.KeyFile) = HasNoKey
  SigningComes (signing.Unopened open_fault.DiskFailed) = ⊥
  SigningComes (signing.Unopened open_fault.Memory) = ⊥
  SigningComes signing.Full = IsFull
  SigningComes signing.Exhausted = MaySpend
  SigningComes signing.DiskFailed = ⊥
  SigningComes signing.Memory = ⊥
  SigningComes signing.MemoryAfter = ⊥

  -- what `seal` comes to
  abbrev pub SealComes : Result (Unit {0}) SealFault → Type 0
  SealComes (Ok done) = MaySeal
  SealComes (Err (seal.Untaken fault)) = InputComes fault
  SealComes (Err (seal.Unsigned fault)) = SigningComes fault
  SealComes (Err seal.SinkFailed) = ⊥
