use Rattle.std.proofs.Common.{◌≡◌, length, map, take}
use Rattle.object_lanes.specs.Groups.{unnamed_id}
use Rattle.clone_stream.specs.Grouped.{GoesOn, Stand}
use Rattle.clone_stream.proofs.grouped.take_each.Given as goal

abbrev pub invariant-objects : goal.invariant-objects
invariant-objects l = record {
  goes_on : GoesOn l.fn.objects l.objects l.refs l.fn.reader l.reader;
  stand : Stand l.claims l.bodies.items l.reader.buffered;
  own : take (length l.bodies.items) l.ids ≡ map unnamed_id l.bodies.items;
}

abbrev pub decreases-objects : goal.decreases-objects
decreases-objects l = length l.claims
