-- `seal` comes to one outcome at most.
use Rattle.std.proofs.Common.{arith, ◌≡◌, ◌<◌, ◌≤◌, ℕ, Bool, true, false, List, length, refl, sym, ap, ◌∙◌, subst}
use Rattle.std.specs.Prelude.{Result, Ok, Err}
use Rattle.std.proofs.lemmas.Bool.{false≢true}
use Rattle.dsse_envelope.specs.Envelopes.{reading}
use Rattle.dsse_envelope.specs.Sealing.{has_room}
use Rattle.dsse_envelope.specs.declared.envelope.Envelope.{Envelope}
use Rattle.dsse_envelope.specs.declared.envelope.EnvelopeFault.{EnvelopeFault}
use Rattle.lms_keys.specs.HssSecret.{Secret}
use Rattle.leaf_journal.specs.declared.open_keys.OpenFault.TheVariants as open_fault
use Rattle.leaf_journal.proofs.OneKeyFile.{not_both, not_spent, one_key}
use Rattle.commands_keys.specs.Contents.{SealComes}
use Rattle.commands_keys.specs.Seals.{id_text}
use Rattle.commands_keys.specs.Inputs.{IsGiven}
use Rattle.commands_keys.specs.declared.signing_envelopes.SigningFault.TheVariants as signing
use Rattle.commands_keys.specs.declared.inputs.InputFault.TheVariants as input
use Rattle.commands_keys.specs.declared.sealing.SealFault.{SealFault}
use Rattle.commands_keys.specs.declared.sealing.SealFault.TheVariants.{Untaken, Unsigned, SinkFailed}

too_long : (n : ℕ) → n ≤ 1048576 → 1048576 < n → ⊥
too_long n short long = omega arith

read_twice : {E F : Type 0} (read : Result E F) (e f : E) → read ≡ Ok e → read ≡ Ok f → e ≡ f
read_twice read e f is other = cc

refused_twice : {E F : Type 0} (read : Result E F) (e f : F) → read ≡ Err e → read ≡ Err f → e ≡ f
refused_twice read e f is other = cc

not_read : {E F : Type 0} (read : Result E F) (e : E) (f : F) → read ≡ Ok e → read ≡ Err f → ⊥
not_read read e f is other = cc

same_error : (bytes : List ℕ) (f g : EnvelopeFault) → reading bytes ≡ Err f → reading bytes ≡ Err g → f ≡ g
same_error bytes f g is other = refused_twice (reading bytes) f g is other

one_given : (add : Bool) (bytes : List ℕ) (e f : Envelope) → IsGiven add bytes e → IsGiven add bytes f → e ≡ f
one_given true bytes e f is other = read_twice (reading bytes) e f is other
one_given false bytes e f is other = is ∙ sym other

not_given : (add : Bool) (bytes : List ℕ) (e : Envelope) (f : EnvelopeFault) → IsGiven add bytes e → add ≡ true → reading bytes ≡ Err f → ⊥
not_given true bytes e f is added none = not_read (reading bytes) e f is none
not_given false bytes e f is added none = false≢true added

not_placed : (s t : Secret) (e f : Envelope) → s ≡ t → e ≡ f → has_room (id_text s) e.signatures ≡ true → has_room (id_text t) f.signatures ≡ false → ⊥
not_placed s t e f one same room none =
    let key : has_room (id_text t) e.signatures ≡ true = subst (λ (u : Secret). has_room (id_text u) e.signatures ≡ true) one room in
    let both : has_room (id_text t) f.signatures ≡ true = subst (λ (g : Envelope). has_room (id_text t) g.signatures ≡ true) same key in
    false≢true (sym none ∙ both)

module _ (add : Bool) (bytes file : List ℕ) where
  pub same_seal : (a b : Result (Unit {0}) SealFault) → SealComes add bytes file a → SealComes add bytes file b → a ≡ b
  same_seal (Ok done) (Ok also) is other = refl
  same_seal (Ok done) (Err (Untaken input.TooLong)) is other = absurd (too_long (length bytes) is.input.short other)
  same_seal (Ok done) (Err (Untaken (input.NoEnvelope g))) is other = absurd (not_given add bytes is.input.envelope g is.input.given other.1 other.2)
  same_seal (Ok done) (Err (Unsigned (signing.Unopened open_fault.KeyFile))) is other = absurd (not_both file other.none is.secret is.unused.is)
  same_seal (Ok done) (Err (Unsigned signing.Full)) is other = absurd (not_placed is.secret other.secret is.input.envelope other.input.envelope (one_key file is.secret other.secret is.unused.is other.is) (one_given add bytes is.input.envelope other.input.envelope is.input.given other.input.given) is.place other.none)
  same_seal (Ok done) (Err (Unsigned signing.Exhausted)) is other = absurd (not_spent file other.secret is.secret is.leaf other.used_up is.unused)
  same_seal (Err (Untaken input.TooLong)) (Ok also) is other = absurd (too_long (length bytes) other.input.short is)
  same_seal (Err (Untaken input.TooLong)) (Err (Untaken input.TooLong)) is other = refl
  same_seal (Err (Untaken input.TooLong)) (Err (Untaken (input.NoEnvelope g))) is other = absurd (too_long (length bytes) other.0 is)
  same_seal (Err (Untaken input.TooLong)) (Err (Unsigned (signing.Unopened open_fault.KeyFile))) is other = absurd (too_long (length bytes) other.input.short is)
  same_seal (Err (Untaken input.TooLong)) (Err (Unsigned signing.Full)) is other = absurd (too_long (length bytes) other.input.short is)
  same_seal (Err (Untaken input.TooLong)) (Err (Unsigned signing.Exhausted)) is other = absurd (too_long (length bytes) other.input.short is)
  same_seal (Err (Untaken (input.NoEnvelope f))) (Ok also) is other = absurd (not_given add bytes other.input.envelope f other.input.given is.1 is.2)
  same_seal (Err (Untaken (input.NoEnvelope f))) (Err (Untaken input.TooLong)) is other = absurd (too_long (length bytes) is.0 other)
  same_seal (Err (Untaken (input.NoEnvelope f))) (Err (Untaken (input.NoEnvelope g))) is other = ap (λ (h : EnvelopeFault). Err (Untaken (input.NoEnvelope h))) (same_error bytes f g is.2 other.2)
  same_seal (Err (Untaken (input.NoEnvelope f))) (Err (Unsigned (signing.Unopened open_fault.KeyFile))) is other = absurd (not_given add bytes other.input.envelope f other.input.given is.1 is.2)
  same_seal (Err (Untaken (input.NoEnvelope f))) (Err (Unsigned signing.Full)) is other = absurd (not_given add bytes other.input.envelope f other.input.given is.1 is.2)
  same_seal (Err (Untaken (input.NoEnvelope f))) (Err (Unsigned signing.Exhausted)) is other = absurd (not_given add bytes other.input.envelope f other.input.given is.1 is.2)
  same_seal (Err (Unsigned (signing.Unopened open_fault.KeyFile))) (Ok also) is other = absurd (not_both file is.none other.secret other.unused.is)
  same_seal (Err (Unsigned (signing.Unopened open_fault.KeyFile))) (Err (Untaken input.TooLong)) is other = absurd (too_long (length bytes) is.input.short other)
  same_seal (Err (Unsigned (signing.Unopened open_fault.KeyFile))) (Err (Untaken (input.NoEnvelope g))) is other = absurd (not_given add bytes is.input.envelope g is.input.given other.1 other.2)
  same_seal (Err (Unsigned (signing.Unopened open_fault.KeyFile))) (Err (Unsigned (signing.Unopened open_fault.KeyFile))) is other = refl
  same_seal (Err (Unsigned (signing.Unopened open_fault.KeyFile))) (Err (Unsigned signing.Full)) is other = absurd (not_both file is.none other.secret other.is)
  same_seal (Err (Unsigned (signing.Unopened open_fault.KeyFile))) (Err (Unsigned signing.Exhausted)) is other = absurd (not_both file is.none other.secret other.used_up.is)
  same_seal (Err (Unsigned signing.Full)) (Ok also) is other = absurd (not_placed other.secret is.secret other.input.envelope is.input.envelope (one_key file other.secret is.secret other.unused.is is.is) (one_given add bytes other.input.envelope is.input.envelope other.input.given is.input.given) other.place is.none)
  same_seal (Err (Unsigned signing.Full)) (Err (Untaken input.TooLong)) is other = absurd (too_long (length bytes) is.input.short other)
  same_seal (Err (Unsigned signing.Full)) (Err (Untaken (input.NoEnvelope g))) is other = absurd (not_given add bytes is.input.envelope g is.input.given other.1 other.2)
  same_seal (Err (Unsigned signing.Full)) (Err (Unsigned (signing.Unopened open_fault.KeyFile))) is other = absurd (not_both file other.none is.secret is.is)
  same_seal (Err (Unsigned signing.Full)) (Err (Unsigned signing.Full)) is other = refl
  same_seal (Err (Unsigned signing.Full)) (Err (Unsigned signing.Exhausted)) is other = absurd (not_placed other.secret is.secret other.input.envelope is.input.envelope (one_key file other.secret is.secret other.used_up.is is.is) (one_given add bytes other.input.envelope is.input.envelope other.input.given is.input.given) other.place is.none)
  same_seal (Err (Unsigned signing.Exhausted)) (Ok also) is other = absurd (not_spent file is.secret other.secret other.leaf is.used_up other.unused)
  same_seal (Err (Unsigned signing.Exhausted)) (Err (Untaken input.TooLong)) is other = absurd (too_long (length bytes) is.input.short other)
  same_seal (Err (Unsigned signing.Exhausted)) (Err (Untaken (input.NoEnvelope g))) is other = absurd (not_given add bytes is.input.envelope g is.input.given other.1 other.2)
  same_seal (Err (Unsigned signing.Exhausted)) (Err (Unsigned (signing.Unopened open_fault.KeyFile))) is other = absurd (not_both file other.none is.secret is.used_up.is)
  same_seal (Err (Unsigned signing.Exhausted)) (Err (Unsigned signing.Full)) is other = absurd (not_placed is.secret other.secret is.input.envelope other.input.envelope (one_key file is.secret other.secret is.used_up.is other.is) (one_given add bytes is.input.envelope other.input.envelope is.input.given other.input.given) is.place other.none)
  same_seal (Err (Unsigned signing.Exhausted)) (Err (Unsigned signing.Exhausted)) is other = refl
  same_seal (Err (Untaken input.SourceFailed)) b is other = absurd is
  same_seal (Err (Untaken input.Memory)) b is other = absurd is
  same_seal (Err (Unsigned (signing.Unopened open_fault.DiskFailed))) b is other = absurd is
  same_seal (Err (Unsigned (signing.Unopened open_fault.Memory))) b is other = absurd is
  same_seal (Err (Unsigned signing.DiskFailed)) b is other = absurd is
  same_seal (Err (Unsigned signing.Memory)) b is other = absurd is
  same_seal (Err (Unsigned signing.MemoryAfter)) b is other = absurd is
  same_seal (Err SinkFailed) b is other = absurd is
  same_seal a (Err (Untaken input.SourceFailed)) is other = absurd other
  same_seal a (Err (Untaken input.Memory)) is other = absurd other
  same_seal a (Err (Unsigned (signing.Unopened open_fault.DiskFailed))) is other = absurd other
  same_seal a (Err (Unsigned (signing.Unopened open_fault.Memory))) is other = absurd other
  same_seal a (Err (Unsigned signing.DiskFailed)) is other = absurd other
  same_seal a (Err (Unsigned signing.Memory)) is other = absurd other
  same_seal a (Err (Unsigned signing.MemoryAfter)) is other = absurd other
  same_seal a (Err SinkFailed) is other = absurd other
