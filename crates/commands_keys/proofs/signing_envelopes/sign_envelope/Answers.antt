use Rattle.std.proofs.Common.{◌∙◌, sym}
use Rattle.leaf_journal.proofs.Steps.{moments, opened}
use Rattle.commands_keys.proofs.SealedFrom.{no_place, refused_since, sealed_since}
use Rattle.commands_keys.specs.Seals.{id_text}
use Rattle.commands_keys.proofs.signing_envelopes.sign_envelope.Goals as goal

pub returns-in_default-clause-any_moment : goal.returns-in_default-clause-any_moment
returns-in_default-clause-any_moment g c = opened g.D.Disk c.args.disk.now c.open_key.new.disk c.in-Ok.ensures.any_moment

pub returns-then-not-has_place-clause-any_moment : goal.returns-then-not-has_place-clause-any_moment
returns-then-not-has_place-clause-any_moment g c = opened g.D.Disk c.args.disk.now c.open_key.new.disk c.in-Ok.ensures.any_moment

pub returns-then-not-has_place-clause-ends : goal.returns-then-not-has_place-clause-ends
returns-then-not-has_place-clause-ends g c = record {
  secret = c.in-Ok.key.signer.secret;
  none = no_place c.as_slice.result.now (id_text c.in-Ok.key.signer.secret) c.as_slice-2.result.now c.args.envelope.signatures (c.as_slice.ensures ∙ c.in-Ok-id_text.ensures.text) c.as_slice-2.ensures (sym c.if-not-has_place.ensures);
  file = record { kept = c.in-Ok.ensures.kept; holds = λ file told. (c.in-Ok.ensures.loaded file told).is };
}

pub returns-in-Ok-sign_with-clause-ends : goal.returns-in-Ok-sign_with-clause-ends
returns-in-Ok-sign_with-clause-ends g c = sealed_since g.D.Disk c.args.envelope c.args.disk.now c.open_key.new.disk c.sign_with.new.disk c.in-Ok.ensures.kept c.in-Ok-sign_with.line c.in-Ok-sign_with.ensures.ends

pub returns-in-Ok-sign_with-clause-any_moment : goal.returns-in-Ok-sign_with-clause-any_moment
returns-in-Ok-sign_with-clause-any_moment g c =
    moments g.D.Disk c.args.disk.now c.open_key.new.disk c.sign_with.new.disk c.in-Ok.ensures.any_moment c.in-Ok.ensures.kept.no_more c.in-Ok-sign_with.ensures.any_moment

pub returns-in-Err-sign_with-clause-ends : goal.returns-in-Err-sign_with-clause-ends
returns-in-Err-sign_with-clause-ends g c = refused_since g.D.Disk c.args.envelope c.args.disk.now c.open_key.new.disk c.sign_with.new.disk c.in-Ok.ensures.kept c.in-Err-sign_with.fault c.in-Err-sign_with.ensures.ends

pub returns-in-Err-sign_with-clause-any_moment : goal.returns-in-Err-sign_with-clause-any_moment
returns-in-Err-sign_with-clause-any_moment g c =
    moments g.D.Disk c.args.disk.now c.open_key.new.disk c.sign_with.new.disk c.in-Ok.ensures.any_moment c.in-Ok.ensures.kept.no_more c.in-Err-sign_with.ensures.any_moment
