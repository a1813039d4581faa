use Rattle.approvals.proofs.Alike.{never_in_way}
use Rattle.approvals.proofs.Puts.{in_way_at}
use Rattle.approvals.proofs.sites.put_blob.Goals as goal

pub unreachable-requires : goal.unreachable-requires
unreachable-requires c =
    never_in_way c.args.site.now.path c.args.site.now.levels c.requires.fit c.args.blob.now c.as_bytes.ensures.valid c.as_slice-2.result.now c.as_slice-2.ensures c.as_slice.result.now c.as_slice.ensures c.in-InWay.field-0
    (in_way_at c.in_ok-root.field-0 _ c.args.objects.now c.put_levels.new.objects c.in-InWay.field-0 c.in-InWay.is c.in_ok-root.ensures.placed)
