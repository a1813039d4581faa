use Rattle.std.specs.Prelude.{map}
use Rattle.git_object.specs.Objects.{pair_id}
use Rattle.clone_stream.specs.Reading.{last_of}
use Rattle.pushes.specs.Fronts.{EndsObjects}
use Rattle.std.specs.Arc.{arc_value}
use Rattle.std.specs.List.{flat_map}
use Rattle.clone_stream.specs.Streams.{object_record}
use Rattle.pushes.proofs.Ends.{further}
use Rattle.pushes.proofs.Fronts.{all_objects, one_more}
use Rattle.pushes.proofs.object_lines.read_objects.Goals as goal

pub returns-in_default-clause-found : goal.returns-in_default-clause-found
returns-in_default-clause-found c =
    let ends : EndsObjects (last_of (map pair_id c.objects.objects)) c.objects.rest.now = rw (c.in_default.is, c.as_slice.ensures) at
    c.in_ok-object.ensures.none in
    all_objects c.args.text.now c.objects.objects c.objects.rest.now c.objects.invariant ends

pub objects-preserved : goal.objects-preserved
objects-preserved c =
    rw c.in_ok-push.ensures.added
    (one_more c.args.text.now c.objects.objects c.objects.rest.now c.in-Some.object c.in-Some.more.now c.objects.invariant
    (rw c.in-Some.is at c.in_ok-object.ensures.found) (rw c.in-Some.is at c.in_ok-object.ensures.own)
    (rw (c.in-Some.is, c.as_slice.ensures) at c.in_ok-object.ensures.comes))

pub next_object-requires : goal.next_object-requires
next_object-requires c =
    further (arc_value c.args.whole.now) c.args.text.now (flat_map object_record c.objects.invariant.0) c.objects.rest.now c.requires c.objects.invariant.1.front
