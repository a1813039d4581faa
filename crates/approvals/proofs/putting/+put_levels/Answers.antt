use Rattle.std.proofs.Common.{◌<◌, ◌∷◌, ◌∙◌, arith, length, length-append, rules, refl, sym, ap, subst}
use Rattle.git_object.specs.Names.{components}
use Rattle.git_object.specs.Trees.{AreWellFormed, IsEntryName}
use Rattle.tree_paths.proofs.PathNames.{one_more_part}
use Rattle.approvals.specs.Levels.{put_levels}
use Rattle.approvals.proofs.Puts.{first_named, in_way_at, last_named, made_at}
use Rattle.approvals.proofs.Surveyed.{formed_first, found_by, last_at, levels_below, no_first, placed_at, refused_at}
use Rattle.approvals.proofs.putting.+put_levels.Goals as goal

pub unreachable-requires : goal.unreachable-requires
unreachable-requires t c = no_first c.args.path.now c.args.levels.now c.in_default.ensures.cases c.requires.levels

pub put_last-requires-clause-formed : goal.put_last-requires-clause-formed
put_last-requires-clause-formed t c =
    subst AreWellFormed (sym c.as_slice-entries.ensures) (formed_first c.args.path.now c.in-Some.level.now c.in-Some.below.now c.args.levels.now c.in-Some.ensures.cases.0 c.requires.levels)

pub put_last-requires-clause-named : goal.put_last-requires-clause-named
put_last-requires-clause-named t c = last_named c.args.path.now c.in_default-split_at_slash.ensures.none c.requires.named

pub returns-in_default-split_at_slash-clause-placed : goal.returns-in_default-split_at_slash-clause-placed
returns-in_default-split_at_slash-clause-placed t c =
    last_at c.args.blob.now c.args.path.now c.in-Some.level.now c.in-Some.below.now c.args.levels.now c.in-Some.ensures.cases.0 c.as_slice-entries.result.now c.as_slice-entries.ensures
    c.in_ok-placed.placed c.args.objects.now c.put_last.new.objects c.in_default-split_at_slash.ensures.none c.in_ok-placed.ensures.placed

pub returns-in-Err-clause-placed : goal.returns-in-Err-clause-placed
returns-in-Err-clause-placed t c =
    refused_at c.args.blob.now c.args.path.now c.in-Some.level.now c.in-Some.below.now c.args.levels.now c.in-Some.ensures.cases.0 c.as_slice-entries.result.now c.as_slice-entries.ensures
    c.in-Some-split_at_slash.name.now c.in-Some-split_at_slash.rest.now c.in-Some-split_at_slash.ensures.found c.in-Some-split_at_slash.ensures.first c.in-Err.id
    (c.in-Err.ensures.other (λ dir. put_levels c.args.blob.now (components c.in-Some-split_at_slash.rest.now) c.in-Some.below.now))

pub put_levels-requires : goal.put_levels-requires
put_levels-requires t c =
    let few = c.requires.few in
    let more = one_more_part c.args.path.now c.in-Some-split_at_slash.name.now c.in-Some-split_at_slash.rest.now c.in-Some-split_at_slash.ensures.found c.in-Some-split_at_slash.ensures.first in
    let names = (first_named c.args.path.now c.in-Some-split_at_slash.name.now c.in-Some-split_at_slash.rest.now c.in-Some-split_at_slash.ensures.found c.in-Some-split_at_slash.ensures.first c.requires.named).1 in
    let below = levels_below c.args.path.now c.in-Some-split_at_slash.name.now c.in-Some-split_at_slash.rest.now c.in-Some.level.now c.in-Some.below.now c.args.levels.now
    c.in-Some-split_at_slash.ensures.found c.in-Some-split_at_slash.ensures.first c.in-Some.ensures.cases.0 c.requires.levels in
    let whole = ap length c.in-Some-split_at_slash.ensures.found in
    let parts = length-append c.in-Some-split_at_slash.name.now (47 ∷ c.in-Some-split_at_slash.rest.now) in
    let shorter : length c.in-Some-split_at_slash.rest.now < length c.args.path.now = omega (arith, whole, parts) in
    (first_of (search rules, omega (arith, shorter)), (names, (omega (arith, few, more), below)))

pub returns-in-InWay-clause-placed : goal.returns-in-InWay-clause-placed
returns-in-InWay-clause-placed t c =
    refused_at c.args.blob.now c.args.path.now c.in-Some.level.now c.in-Some.below.now c.args.levels.now c.in-Some.ensures.cases.0 c.as_slice-entries.result.now c.as_slice-entries.ensures
    c.in-Some-split_at_slash.name.now c.in-Some-split_at_slash.rest.now c.in-Some-split_at_slash.ensures.found c.in-Some-split_at_slash.ensures.first c.in-InWay.id
    (found_by c.dir_named.result (put_levels c.args.blob.now (components c.in-Some-split_at_slash.rest.now) c.in-Some.below.now) _ c.in_default-dir_named.not-Err c.dir_named.ensures.found
    ∙ in_way_at c.in_ok-id.field-0 (put_levels c.args.blob.now (components c.in-Some-split_at_slash.rest.now) c.in-Some.below.now) c.args.objects.now c.put_levels.new.objects c.in-InWay.id c.in-InWay.is c.in_ok-id.ensures.placed)

pub put_tree-requires-clause-formed : goal.put_tree-requires-clause-formed
put_tree-requires-clause-formed t c =
    subst AreWellFormed (sym c.as_slice-entries.ensures) (formed_first c.args.path.now c.in-Some.level.now c.in-Some.below.now c.args.levels.now c.in-Some.ensures.cases.0 c.requires.levels)

pub put_tree-requires-clause-named : goal.put_tree-requires-clause-named
put_tree-requires-clause-named t c =
    subst IsEntryName (sym c.in_ok-from_slice.ensures)
    (first_named c.args.path.now c.in-Some-split_at_slash.name.now c.in-Some-split_at_slash.rest.now c.in-Some-split_at_slash.ensures.found c.in-Some-split_at_slash.ensures.first c.requires.named).0

pub returns-clause-placed : goal.returns-clause-placed
returns-clause-placed t c =
    let made = made_at c.in_ok-id.field-0 (put_levels c.args.blob.now (components c.in-Some-split_at_slash.rest.now) c.in-Some.below.now) c.args.objects.now c.put_levels.new.objects c.in-Made.id c.in-Made.is c.in_ok-id.ensures.placed in
    placed_at c.args.blob.now c.args.path.now c.in-Some.level.now c.in-Some.below.now c.args.levels.now c.in-Some.ensures.cases.0 c.as_slice-entries.result.now c.as_slice-entries.ensures
    c.in-Some-split_at_slash.name.now c.in-Some-split_at_slash.rest.now c.in-Some-split_at_slash.ensures.found c.in-Some-split_at_slash.ensures.first c.in-Made.id c.in_ok-from_slice.field-0 c.as_slice-entries.result.now
    c.in_ok-placed-2.placed c.args.objects.now c.put_levels.new.objects c.put_tree.new.objects c.in_ok-from_slice.ensures refl
    (found_by c.dir_named.result (put_levels c.args.blob.now (components c.in-Some-split_at_slash.rest.now) c.in-Some.below.now) _ c.in_default-dir_named.not-Err c.dir_named.ensures.found) made
    (c.in_ok-placed-2.ensures.placed c.args.objects.now made.made made.added)
