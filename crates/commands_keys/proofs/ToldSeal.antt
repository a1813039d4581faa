-- What `seal` comes to where source and disk tell what they hold.
use Rattle.std.proofs.Common.{◌≡◌, ◌⊎◌, ◌<◌, ◌≤◌, ◌+◌, ◌++◌, ℕ, Bool, List, length, inl, inr, refl, subst, sym, ap, ◌∙◌, arith}
use Rattle.std.specs.Prelude.{Option, Some, None, Result, Ok, Err}
use Rattle.std.proofs.lemmas.List.{append-nil, length-append}
use Rattle.octets.specs.Content.{with_front}
use Rattle.edge_io.specs.declared.disks.Disk as disk
use Rattle.edge_io.specs.Read.{IsAtEnd}
use Rattle.worlds.specs.Endings.{IsStopped}
use Rattle.leaf_journal.specs.Files.{IsLeastUnused, IsNoKeyFile, IsUsedUp}
use Rattle.leaf_journal.specs.declared.open_keys.OpenFault.TheVariants as open_fault
use Rattle.leaf_journal.specs.KeyFile.{IsKeyFile}
use Rattle.dsse_envelope.specs.Envelopes.{reading}
use Rattle.dsse_envelope.specs.declared.envelope.Envelope.{Envelope}
use Rattle.commands_keys.specs.Contents.{HasInput, SealComes}
use Rattle.commands_keys.specs.EnvelopeSigning.{Holds}
use Rattle.commands_keys.specs.Inputs.{Gives, IsGiven, Takes}
use Rattle.commands_keys.specs.Sealing.{SealEnds, seal_ending}
use Rattle.commands_keys.specs.declared.signing_envelopes.SigningFault.TheVariants as signing
use Rattle.commands_keys.specs.declared.inputs.InputFault.TheVariants as input
use Rattle.commands_keys.specs.declared.sealing.SealFault.{SealFault}
use Rattle.commands_keys.specs.declared.sealing.SealFault.TheVariants.{Untaken, Unsigned, SinkFailed}

same_some : {X : Type 0} (x y : X) (told : Option X) → told ≡ Some x → told ≡ Some y → x ≡ y
same_some x y told e f = cc

no_some : {X : Type 0} (x : X) → Some x ≡ None → ⊥
no_some x e = cc

-- all that was there was taken
taken : (bytes read : List ℕ) (left : Option (List ℕ)) → Some bytes ≡ with_front read left → IsAtEnd left → read ≡ bytes
taken bytes read None is end = absurd (no_some bytes is)
taken bytes read (Some rest) is end = sym (append-nil read) ∙ ap (λ (r : List ℕ). read ++ r) (sym end) ∙ sym (same_some bytes (read ++ rest) (Some bytes) refl is)

more : (bytes read : List ℕ) (left : Option (List ℕ)) → Some bytes ≡ with_front read left → length read ≡ 1048576 + 1 → 1048576 < length bytes
more bytes read None is long = absurd (no_some bytes is)
more bytes read (Some rest) is long =
    let whole : length bytes ≡ length (read ++ rest) = ap length (same_some bytes (read ++ rest) (Some bytes) refl is) in
    omega (arith, whole, long, length-append read rest)

module _ {D : Type 0} (disk_of : disk.Ghosts D) (add : Bool) (left_now : Option (List ℕ)) (bytes file now : List ℕ) (old new : D)
    (held : disk_of.seen old ≡ Some file) (holds : disk_of.seen new ≡ Some now) where
  short : (read : List ℕ) → Gives (Some bytes) left_now read → length bytes ≤ 1048576
  short read gives = subst (λ (l : List ℕ). length l ≤ 1048576) (taken bytes read left_now gives.read gives.end) gives.short

  has_input : (e : Envelope) → Takes add (Some bytes) left_now e → HasInput add bytes file
  has_input e takes = record {
    envelope = e;
    short = short takes.bytes takes.gives;
    given = subst (λ (l : List ℕ). IsGiven add l e) (taken bytes takes.bytes left_now takes.gives.read takes.gives.end) takes.given;
  }

  -- the file that was found is the one that was there
  found : (e : Envelope) (P : List ℕ → Type 0) → Holds disk_of e old new P → P file
  found e P is = subst P (same_some now file (disk_of.seen old) (is.kept.same now holds) held) (is.holds now holds)

  told : (printed printed_now : Option (List ℕ)) (outcome : Result (Unit {0}) SealFault)
      → SealEnds disk_of add (Some bytes) left_now old new printed printed_now outcome → SealComes add bytes file outcome ⊎ IsStopped (seal_ending outcome)
  unfolding has_input
  told printed printed_now (Ok done) means =
      let given = means.1 in
      let signs = given.seals.signs in
      let was = signs.signs.file now holds in
      inl (record {
        input = has_input given.envelope given.takes;
        secret = given.seals.secret;
        leaf = signs.signs.leaf;
        unused = subst (λ (f : List ℕ). IsLeastUnused f given.seals.secret signs.signs.leaf) (same_some was.0 file (disk_of.seen old) was.1 held) was.2;
        place = signs.place;
      })
  told printed printed_now (Err (Untaken input.TooLong)) means = inl (more bytes means.0.bytes left_now means.0.read means.0.more)
  told printed printed_now (Err (Untaken (input.NoEnvelope fault))) means =
      let none = means.0 in
      inl (
        short none.bytes none.gives,
        none.why.0,
        subst (λ (l : List ℕ). reading l ≡ Err fault) (taken bytes none.bytes left_now none.gives.read none.gives.end) none.why.1,
      )
  told printed printed_now (Err (Untaken input.SourceFailed)) means = inr tt
  told printed printed_now (Err (Untaken input.Memory)) means = inr tt
  told printed printed_now (Err (Unsigned (signing.Unopened open_fault.KeyFile))) means =
      let given = means.0 in
      inl (record { input = has_input given.envelope given.takes; none = found given.envelope IsNoKeyFile given.refuses })
  told printed printed_now (Err (Unsigned (signing.Unopened open_fault.DiskFailed))) means = inr tt
  told printed printed_now (Err (Unsigned (signing.Unopened open_fault.Memory))) means = inr tt
  told printed printed_now (Err (Unsigned signing.Full)) means =
      let given = means.0 in
      let full = given.refuses in
      inl (record {
        input = has_input given.envelope given.takes;
        secret = full.secret;
        is = found given.envelope (λ (f : List ℕ). IsKeyFile f full.secret) full.file;
        none = full.none;
      })
  told printed printed_now (Err (Unsigned signing.Exhausted)) means =
      let given = means.0 in
      let spent = given.refuses in
      inl (record {
        input = has_input given.envelope given.takes;
        secret = spent.secret;
        used_up = found given.envelope (λ (f : List ℕ). IsUsedUp f spent.secret) spent.file;
        place = spent.place;
      })
  told printed printed_now (Err (Unsigned signing.DiskFailed)) means = inr tt
  told printed printed_now (Err (Unsigned signing.Memory)) means = inr tt
  told printed printed_now (Err (Unsigned signing.MemoryAfter)) means = inr tt
  told printed printed_now (Err SinkFailed) means = inr tt

pub seal_told : {D : Type 0} (disk_of : disk.Ghosts D) (add : Bool) (left_now : Option (List ℕ)) (bytes file now : List ℕ) (old new : D) (printed printed_now : Option (List ℕ)) (outcome : Result (Unit {0}) SealFault)
    → disk_of.seen old ≡ Some file → disk_of.seen new ≡ Some now
    → SealEnds disk_of add (Some bytes) left_now old new printed printed_now outcome → SealComes add bytes file outcome ⊎ IsStopped (seal_ending outcome)
seal_told disk_of add left_now bytes file now old new printed printed_now outcome held holds means = told disk_of add left_now bytes file now old new held holds printed printed_now outcome means
