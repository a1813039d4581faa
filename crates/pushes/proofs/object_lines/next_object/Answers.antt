use Rattle.std.proofs.Common.{◌≡◌, ◌≤◌, sym, ◌∙◌}
use Rattle.std.specs.Prelude.{decimal, map}
use Rattle.std.proofs.lemmas.Bool.{false≢true}
use Rattle.git_object.specs.Objects.{pair_id}
use Rattle.git_object.specs.Repository.{largest_body}
use Rattle.clone_stream.specs.Reading.{last_of}
use Rattle.pushes.proofs.Ends.{behind_line}
use Rattle.clone_stream.specs.Streams.{object_line}
use Rattle.std.specs.Arc.{arc_value}
use Rattle.pushes.proofs.ObjectLines.{ends_late, ends_no_body, ends_no_head, ends_no_number, if_none}
use Rattle.pushes.proofs.object_lines.next_object.Goals as goal

pub returns-in_default-clause-none : goal.returns-in_default-clause-none
returns-in_default-clause-none c = ends_no_head (last_of (map pair_id c.args.objects.now)) c.args.text.now c.in_default.ensures.none

pub returns-in_default-2-clause-none : goal.returns-in_default-2-clause-none
returns-in_default-2-clause-none c = ends_no_number _ c.args.text.now c.in-Some.head.0 c.in-Some.head.1 c.in-Some.head.2.now c.in-Some.head.3.now
    (record { whole = c.in-Some.ensures.found; is_line = c.in-Some.ensures.is_line; is_id = c.in-Some.ensures.valid })
    (rw c.in_default-2.is at c.in_ok-size.ensures.none)

pub returns-then-not-follows_object-clause-none : goal.returns-then-not-follows_object-clause-none
returns-then-not-follows_object-clause-none c =
    let size : (c.in-Some.head.2.now ≡ decimal c.in-Some-2.size) × (c.in-Some-2.size ≤ largest_body) = rw c.in-Some-2.is at c.in_ok-size.ensures.found in
    ends_late _ c.args.text.now c.in-Some.head.0 c.in-Some.head.1 c.in-Some.head.2.now c.in-Some.head.3.now
    (record { whole = c.in-Some.ensures.found; is_line = c.in-Some.ensures.is_line; is_id = c.in-Some.ensures.valid }) c.in-Some-2.size size.0 size.1
    (λ comes. false≢true (sym c.if-not-follows_object.true ∙ c.follows_object.ensures.1 comes))

pub returns-clause-none : goal.returns-clause-none
returns-clause-none c =
    let size : (c.in-Some.head.2.now ≡ decimal c.in-Some-2.size) × (c.in-Some-2.size ≤ largest_body) = rw c.in-Some-2.is at c.in_ok-size.ensures.found in
    if_none c.in_ok-object_of.field-0 c.in_ok-object_of.ensures.none
    (λ none. ends_no_body _ c.args.text.now c.in-Some.head.0 c.in-Some.head.1 c.in-Some.head.2.now c.in-Some.head.3.now
    (record { whole = c.in-Some.ensures.found; is_line = c.in-Some.ensures.is_line; is_id = c.in-Some.ensures.valid }) c.in-Some-2.size size.0 size.1 none)

pub object_of-requires-clause-ends : goal.object_of-requires-clause-ends
object_of-requires-clause-ends c =
    behind_line (arc_value c.args.whole.now) c.args.text.now (object_line c.in-Some.head.0 c.in-Some.head.1 c.in-Some.head.2.now) c.in-Some.head.3.now c.requires
    c.in-Some.ensures.found
