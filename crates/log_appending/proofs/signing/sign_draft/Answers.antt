use Rattle.std.proofs.Common.{◌≡◌, ◌∙◌, ℕ, List, ap, subst}
use Rattle.sha2.specs.Sha256.{sha256}
use Rattle.lms_keys.specs.HssSecret.{Secret, public_bytes}
use Rattle.leaf_journal.specs.Using.{SignsWith}
use Rattle.rsl_chain.specs.Drafts.{IsReadWith, signed_text_of}
use Rattle.rsl_chain.specs.declared.words.SignatureLine.{SignatureLine}
use Rattle.log_appending.proofs.Written.{reads_as, signature_some, text_is}
use Rattle.log_appending.specs.Entries.{signed_by}
use Rattle.log_appending.proofs.signing.sign_draft.Goals as goal

-- a signature's line by its parts
line_is : (secret : Secret) (signer signature bytes : List ℕ) → signer ≡ sha256 (public_bytes secret) → bytes ≡ signature
    → ◌≡◌ {A = SignatureLine} (record { signer = signer; signature = bytes }) (signed_by secret signature)
line_is secret signer signature bytes by same = cc

pub returns-in-Ok-join_signature-clause-ends : goal.returns-in-Ok-join_signature-clause-ends
returns-in-Ok-join_signature-clause-ends g c =
    let secret : Secret = c.args.key.signer.secret in
    let signature : List ℕ = c.in-Ok-use_leaf.signature in
    let unsigned : List ℕ = c.in-Ok.unsigned in
    let signer : c.key_id-signer.result ≡ sha256 (public_bytes secret) =
    c.key_id-signer.ensures ∙ ap sha256 c.public_bytes.ensures in
    let line = line_is secret c.key_id-signer.result signature c.as_slice-3.result.now signer c.as_slice-3.ensures in
    let first : c.as_slice.result.now ≡ unsigned = c.as_slice.ensures in
    let second : c.as_slice-2.result.now ≡ unsigned = c.as_slice-2.ensures in
    let text : List ℕ = c.in-Ok-join_signature.text in
    let joined : text ≡ signed_text_of unsigned (signed_by secret signature) =
    c.in-Ok-join_signature.ensures.text ∙ ap (λ (t : List ℕ). signed_text_of t (record { signer = c.key_id-signer.result; signature = c.as_slice-3.result.now })) second
    ∙ ap (signed_text_of unsigned) line in
    let signs : SignsWith g.D.Disk secret unsigned c.args.disk.now c.use_leaf.new.disk signature =
    subst (λ (t : List ℕ). SignsWith g.D.Disk secret t c.args.disk.now c.use_leaf.new.disk signature) first c.in-Ok-use_leaf.ensures.ends in
    let reads : IsReadWith unsigned (signed_by secret signature) text =
    subst (λ (s : SignatureLine). IsReadWith unsigned s text) line
    (subst (λ (t : List ℕ). IsReadWith t (record { signer = c.key_id-signer.result; signature = c.as_slice-3.result.now }) text) second c.in-Ok-join_signature.ensures.reads_back) in
    record {
      signature = signature;
      signs = subst (λ (t : List ℕ). SignsWith g.D.Disk secret t c.args.disk.now c.use_leaf.new.disk signature) c.in-Ok.ensures.text signs;
      text_is = text_is c.args.draft.now secret signature unsigned text c.in-Ok.ensures.text joined;
      reads = reads_as c.args.draft.now secret signature unsigned text c.requires.draft c.in-Ok.ensures.valid c.in-Ok.ensures.text (signature_some secret unsigned signs.leaf signature signs.signs) reads;
    }
