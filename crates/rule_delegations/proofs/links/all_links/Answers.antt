use Rattle.std.proofs.Common.{◌∙◌}
use Rattle.rule_delegations.proofs.Linking.{links_more}
use Rattle.rule_delegations.proofs.links.all_links.Goals as goal

pub loop-file-preserved : goal.loop-file-preserved
loop-file-preserved c =
    c.in_ok-push.ensures.added ∙ links_more c.args.files.now c.in_ok-places.places c.loop-file.file-index c.file-item.result c.loop-file.below c.in_ok-links_in.field-0
    c.in_ok-places.ensures c.loop-file-test.true c.file-item.is c.loop-file.invariant (rw c.as_slice.ensures at c.in_ok-links_in.ensures)
