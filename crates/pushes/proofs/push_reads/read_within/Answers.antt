use Rattle.std.proofs.Common.{◌≡◌, [], length, rules, sym}
use Rattle.std.specs.Prelude.{codes}
use Rattle.std.specs.Arc.{arc_value}
use Rattle.pushes.proofs.Ends.{further}
use Rattle.pushes.proofs.Finding.{are_rising}
use Rattle.pushes.proofs.Whole.{push_found}
use Rattle.pushes.specs.Refusals.{HasEntry}
use Rattle.pushes.proofs.push_reads.read_within.Goals as goal

pub returns-clause-found : goal.returns-clause-found
returns-clause-found c =
    let has : HasEntry c.in_ok-objects.objects c.in_ok-objects.rest.now c.in-Some-2.entry c.in-Some-2.after.now = rw (c.in-Some-2.is, c.as_slice.ensures) at
    c.in_ok-entry.ensures.found in
    let none : length c.in-Some-strip_front.tail.now ≡ 0 = search rules in
    push_found c.args.body.now c.in-Some.text.now c.in_ok-objects.objects c.in_ok-objects.rest.now c.in-Some-2.entry c.in-Some-2.after.now
    c.in-Some-strip_front.tail.now
    c.requires.small c.in-Some.ensures.found c.in_ok-objects.ensures.found has c.in-Some-strip_front.ensures.found none

pub read_entry-requires : goal.read_entry-requires
read_entry-requires c =
    rw c.as_slice.ensures (are_rising c.in_ok-objects.ensures.found.es c.in_ok-objects.objects c.in_ok-objects.ensures.found.front.own)

pub read_objects-requires : goal.read_objects-requires
read_objects-requires c = further (arc_value c.args.whole.now) c.args.body.now (codes "gittuf-push 1\n") c.in-Some.text.now ([], sym c.requires.same) c.in-Some.ensures.found
