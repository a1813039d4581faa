-- Opening a key file, and then signing an envelope with it.
use Rattle.std.proofs.Common.{◌≡◌, ℕ, false, List, sym, subst}
use Rattle.std.specs.Prelude.{Some}
use Rattle.edge_io.specs.Disk.{IsKept}
use Rattle.edge_io.specs.declared.disks.Disk as disk
use Rattle.lms_keys.specs.HssSecret.{Secret}
use Rattle.leaf_journal.proofs.Steps.{signs_from, tears_from}
use Rattle.leaf_journal.specs.Files.{IsUsedUp}
use Rattle.leaf_journal.specs.Using.{FindsNone}
use Rattle.dsse_envelope.specs.Sealing.{has_room}
use Rattle.dsse_envelope.specs.declared.envelope.Envelope.{Envelope}
use Rattle.dsse_envelope.specs.declared.envelope.Signature.{Signature}
use Rattle.commands_keys.specs.Seals.{signed_text}
use Rattle.commands_keys.specs.EnvelopeSigning.{Holds, RefusesSigning, Seals, Signs}
use Rattle.commands_keys.specs.declared.signing_envelopes.SigningFault.{SigningFault}
use Rattle.commands_keys.specs.declared.signing_envelopes.SigningFault.TheVariants.{Unopened, Full, Exhausted, DiskFailed, Memory as NoMemory, MemoryAfter}

pub no_place : (text keyid : List ℕ) (among signatures : List Signature) → text ≡ keyid → among ≡ signatures → has_room text among ≡ false → has_room keyid signatures ≡ false
no_place text keyid among signatures same these none = cc

module _ {D : Type 0} (disk_of : disk.Ghosts D) (e : Envelope) where
  -- each leaf is used, and the disk is the same
  pub spent : (old new : D) (secret : Secret) → FindsNone disk_of secret old new → Holds disk_of e old new (λ file. IsUsedUp file secret)
  spent old new secret none = record {
    kept = subst (λ (d : D). IsKept (disk_of.seen old) (disk_of.seen d) (disk_of.may_leave old) (disk_of.may_leave d)) (sym none.same) (record { same = λ now told. told; no_more = λ c may. may });
    holds = λ file told. none.used_up file (subst (λ (d : D). disk_of.seen d ≡ Some file) none.same told);
  }

  module _ (old mid new : D) (kept : IsKept (disk_of.seen old) (disk_of.seen mid) (disk_of.may_leave old) (disk_of.may_leave mid)) where
    signs_since : (secret : Secret) (signature : List ℕ) → Signs disk_of e mid new secret signature → Signs disk_of e old new secret signature
    signs_since secret signature signs = record { place = signs.place; signs = signs_from disk_of old mid new secret (signed_text e) signature kept.same signs.signs }

    twice : IsKept (disk_of.seen mid) (disk_of.seen new) (disk_of.may_leave mid) (disk_of.may_leave new) → IsKept (disk_of.seen old) (disk_of.seen new) (disk_of.may_leave old) (disk_of.may_leave new)
    twice next = record { same = λ now told. kept.same now (next.same now told); no_more = λ c may. kept.no_more c (next.no_more c may) }

    holds_since : (P : List ℕ → Type 0) → Holds disk_of e mid new P → Holds disk_of e old new P
    holds_since P is = record { kept = twice is.kept; holds = is.holds }

    pub sealed_since : (line : List ℕ) → Seals disk_of e mid new line → Seals disk_of e old new line
    sealed_since line seals = record {
      secret = seals.secret;
      signature = seals.signature;
      signs = signs_since seals.secret seals.signature seals.signs;
      line_is = seals.line_is;
      reads_back = seals.reads_back;
    }

    pub refused_since : (fault : SigningFault) → RefusesSigning disk_of e mid new fault → RefusesSigning disk_of e old new fault
    refused_since (Unopened fault) is = holds_since _ is
    refused_since Full is = record { secret = is.secret; none = is.none; file = holds_since _ is.file }
    refused_since Exhausted is = record { secret = is.secret; place = is.place; file = holds_since _ is.file }
    refused_since DiskFailed is = record { secret = is.secret; place = is.place; tears = tears_from disk_of old mid new is.secret kept.same is.tears }
    refused_since NoMemory is = twice is
    refused_since MemoryAfter is = record { secret = is.secret; signature = is.signature; signs = signs_since is.secret is.signature is.signs }
