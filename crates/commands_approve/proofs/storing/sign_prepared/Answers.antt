use Rattle.std.proofs.Common.{◌∙◌, List, ℕ, subst}
use Rattle.leaf_journal.specs.Using.{SignsWith}
use Rattle.commands_approve.proofs.storing.sign_prepared.Goals as goal

pub returns-in-Ok-seal_change-clause-ends : goal.returns-in-Ok-seal_change-clause-ends
returns-in-Ok-seal_change-clause-ends g c = record {
  signature = c.in-Ok-use_leaf.sig;
  signs = subst (λ (text : List ℕ). SignsWith g.D.Disk c.args.key.signer.secret text c.args.disk.now c.use_leaf.new.disk c.in-Ok-use_leaf.sig) (c.as_slice.ensures ∙ c.in-Ok-signed_text.ensures) c.in-Ok-use_leaf.ensures.ends;
  attests = c.in-Ok-seal_change.ensures.attests c.args.name.now c.args.key.signer.secret c.args.seconds c.requires.prepared c.in-Ok-use_leaf.ensures.long c.in-Ok.ensures;
  at = c.in-Ok-seal_change.ensures.at c.args.name.now c.args.key.signer.secret c.args.seconds c.requires.prepared c.in-Ok.ensures;
}
