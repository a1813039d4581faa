use Rattle.approvals.proofs.Sited.{has_change}
use Rattle.approvals.specs.Attesting.{approval_pair}
use Rattle.approvals.proofs.attesting.attest_at.Goals as goal

pub returns-clause-change : goal.returns-clause-change
returns-clause-change c = record {
  parent = c.args.site.now.parent;
  has = has_change (approval_pair c.args.envelope.now) c.in_ok-blob.blob c.in_ok-object.object c.args.author.now c.args.site.now.parent c.in_ok-root.root c.id-commit.result c.new-objects.result c.push.new.self c.put_blob.new.objects
      c.push-2.new.self c.in_ok-refs.refs c.in_ok-blob.ensures.object c.in_ok-object.ensures c.new-objects.ensures c.in_ok-push.ensures.added c.in_ok-root.ensures.added c.in_ok-push-2.ensures.added c.id-commit.ensures c.in_ok-refs.ensures;
}
