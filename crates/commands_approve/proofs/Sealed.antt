-- An approval with a key's signature in it.
use Rattle.std.proofs.Common.{◌≡◌, ◌∙◌, ℕ, List, length, ap, subst}
use Rattle.std.specs.Prelude.{Ok}
use Rattle.hex.specs.Hex.{IsBytes}
use Rattle.lms_keys.specs.HssSecret.{Secret, signature_len}
use Rattle.object_making.specs.Texts.{author_of}
use Rattle.dsse_envelope.specs.Envelopes.{reading}
use Rattle.dsse_envelope.specs.Sealing.{sealed}
use Rattle.dsse_envelope.specs.Written.{IsWritable, text_of}
use Rattle.dsse_envelope.specs.declared.envelope.Envelope.{Envelope}
use Rattle.approvals.specs.Attesting.{IsChange, approval_pair}
use Rattle.approvals.specs.declared.attesting.Attested.{Attested}
use Rattle.commands_keys.specs.Seals.{signature_of}
use Rattle.commands_approve.specs.Storing.{Attests, sealed_by}
use Rattle.commands_approve.specs.Wanted.{IsPrepared}
use Rattle.commands_approve.specs.declared.preparing.Prepared.{Prepared}

pub attests_by : (prepared : Prepared) (sig author bytes : List ℕ) (envelope : Envelope) (a : Attested) → envelope ≡ sealed (signature_of prepared.keyid sig) prepared.envelope → IsWritable envelope
    → IsChange (approval_pair envelope) bytes a → bytes ≡ author → reading (text_of envelope) ≡ Ok envelope → IsBytes sig
    → (name : List ℕ) (secret : Secret) (seconds : ℕ) → IsPrepared secret name prepared → length sig ≡ signature_len secret → author ≡ author_of seconds
    → Attests name prepared.ends prepared.envelope secret seconds sig a
attests_by prepared sig author bytes envelope a is writable change same reads fits name secret seconds ready long at =
    let it : envelope ≡ sealed_by secret sig prepared.envelope = is ∙ ap (λ (k : List ℕ). sealed (signature_of k sig) prepared.envelope) ready.keyid_is in
    record {
      change = subst (λ (t : List ℕ). IsChange (approval_pair (sealed_by secret sig prepared.envelope)) t a) (same ∙ at) (subst (λ (e : Envelope). IsChange (approval_pair e) bytes a) it change);
      attestable = record { approves = ready.approves; writable = subst IsWritable it writable; small = ready.room.fits sig long fits };
      reads_back = subst (λ (e : Envelope). reading (text_of e) ≡ Ok e) it reads;
    }
