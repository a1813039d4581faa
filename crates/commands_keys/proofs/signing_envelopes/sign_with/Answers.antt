use Rattle.std.proofs.Common.{◌≡◌, true, List, ℕ, subst}
use Rattle.std.specs.Prelude.{Err}
use Rattle.leaf_journal.specs.Using.{UseEnds}
use Rattle.leaf_journal.specs.declared.faults.SignFault.{SignFault}
use Rattle.dsse_envelope.specs.Sealing.{has_room}
use Rattle.commands_keys.proofs.SealedFrom.{spent}
use Rattle.commands_keys.proofs.signing_envelopes.sign_with.Goals as goal

pub returns-in-Err-Exhausted-clause-ends : goal.returns-in-Err-Exhausted-clause-ends
returns-in-Err-Exhausted-clause-ends g c = record {
  secret = c.args.key.signer.secret;
  place = subst (λ (k : List ℕ). has_room k c.args.envelope.signatures ≡ true) c.requires.id c.requires.place;
  file = spent g.D.Disk c.args.envelope c.args.disk.now c.use_leaf.new.disk c.args.key.signer.secret
      (subst (λ (f : SignFault). UseEnds g.D.Disk c.args.key.signer.secret c.as_slice.result.now c.args.disk.now c.use_leaf.new.disk (Err f)) c.in-Err-Exhausted.field-0-is c.in-Err-Exhausted.ensures.ends);
}

pub returns-in-Err-Disk-clause-ends : goal.returns-in-Err-Disk-clause-ends
returns-in-Err-Disk-clause-ends g c = record {
  secret = c.args.key.signer.secret;
  place = subst (λ (k : List ℕ). has_room k c.args.envelope.signatures ≡ true) c.requires.id c.requires.place;
  tears =
      subst (λ (f : SignFault). UseEnds g.D.Disk c.args.key.signer.secret c.as_slice.result.now c.args.disk.now c.use_leaf.new.disk (Err f)) c.in-Err-Disk.field-0-is c.in-Err-Disk.ensures.ends;
}
