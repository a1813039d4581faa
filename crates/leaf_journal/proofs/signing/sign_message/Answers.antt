use Rattle.std.proofs.Common.{Err, subst, ◌∙◌}
use Rattle.leaf_journal.specs.declared.faults.SignFault.{SignFault}
use Rattle.leaf_journal.specs.Using.{UseEnds}
use Rattle.leaf_journal.proofs.Steps.{finds_none, moments, opened, signs_from, tears_from}
use Rattle.leaf_journal.proofs.signing.sign_message.Goals as goal

pub returns-in-Ok-use_leaf-clause-ends : goal.returns-in-Ok-use_leaf-clause-ends
returns-in-Ok-use_leaf-clause-ends g c =
    (c.in-Ok.key.signer.secret, (c.in-Ok-from_slice.ensures ∙ c.public_bytes.ensures), signs_from g.D.Disk _ c.open_key.new.disk _ _ _ _ c.in-Ok.ensures.kept.same c.in-Ok-use_leaf.ensures.ends)

pub returns-in-Ok-use_leaf-clause-any_moment : goal.returns-in-Ok-use_leaf-clause-any_moment
returns-in-Ok-use_leaf-clause-any_moment g c = moments g.D.Disk _ c.open_key.new.disk _ c.in-Ok.ensures.any_moment c.in-Ok.ensures.kept.no_more c.in-Ok-use_leaf.ensures.any_moment

pub returns-in-Err-Exhausted-clause-ends : goal.returns-in-Err-Exhausted-clause-ends
returns-in-Err-Exhausted-clause-ends g c = finds_none g.D.Disk c.args.message.now _ c.open_key.new.disk c.use_leaf.new.disk c.in-Ok.key.signer.secret c.in-Ok.ensures.kept
    (subst (λ (f : SignFault). UseEnds g.D.Disk c.in-Ok.key.signer.secret c.args.message.now c.open_key.new.disk c.use_leaf.new.disk (Err f)) c.in-Err-Exhausted.field-0-is c.in-Err-Exhausted.ensures.ends)

pub returns-in-Err-Exhausted-clause-any_moment : goal.returns-in-Err-Exhausted-clause-any_moment
returns-in-Err-Exhausted-clause-any_moment g c = moments g.D.Disk _ c.open_key.new.disk _ c.in-Ok.ensures.any_moment c.in-Ok.ensures.kept.no_more c.in-Err-Exhausted.ensures.any_moment

pub returns-in_default-clause-any_moment : goal.returns-in_default-clause-any_moment
returns-in_default-clause-any_moment g c = opened g.D.Disk c.args.disk.now c.open_key.new.disk c.in-Ok.ensures.any_moment

pub returns-clause-ends : goal.returns-clause-ends
returns-clause-ends g c = (
  c.in-Ok.key.signer.secret,
  tears_from g.D.Disk _ c.open_key.new.disk c.use_leaf.new.disk _ c.in-Ok.ensures.kept.same
      (subst (λ (f : SignFault). UseEnds g.D.Disk c.in-Ok.key.signer.secret c.args.message.now c.open_key.new.disk c.use_leaf.new.disk (Err f)) c.in-Err-Disk.field-0-is c.in-Err-Disk.ensures.ends),
)

pub returns-clause-any_moment : goal.returns-clause-any_moment
returns-clause-any_moment g c = moments g.D.Disk _ c.open_key.new.disk _ c.in-Ok.ensures.any_moment c.in-Ok.ensures.kept.no_more c.in-Err-Disk.ensures.any_moment
