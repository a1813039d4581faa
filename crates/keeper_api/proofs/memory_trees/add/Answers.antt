use Rattle.std.proofs.Common.{ap, ◌∙◌}
use Rattle.std.specs.BTreeSet.{contains}
use Rattle.octets.specs.BytesMap.{by_bytes, map_of}
use Rattle.keeper_api.specs.Changes.{with_objects, with_refs}
use Rattle.keeper_api.specs.Trees.{with_entries}
use Rattle.keeper_api.proofs.Inserting.{with_objects_entries}
use Rattle.keeper_api.proofs.Planning.{planned}
use Rattle.keeper_api.proofs.Trees.{exact_bytes}
use Rattle.keeper_api.proofs.memory_trees.add.Goals as goal

pub insert_all-requires : goal.insert_all-requires
insert_all-requires c = exact_bytes

pub insert_all-requires-2 : goal.insert_all-requires-2
insert_all-requires-2 c = exact_bytes

pub restore-requires : goal.restore-requires
restore-requires c = exact_bytes

pub returns-in-Ok-clause-objects : goal.returns-in-Ok-clause-objects
returns-in-Ok-clause-objects c =
    c.in_ok-undo.ensures.ok
    ∙ ap (λ es. with_entries es (map_of c.args.objects.now)) c.in_ok-entries.ensures
    ∙ with_objects_entries c.as_slice.result.now (map_of c.args.objects.now)
    ∙ ap (λ pairs. with_objects pairs (map_of c.args.objects.now)) c.as_slice.ensures

pub returns-in-Ok-clause-refs : goal.returns-in-Ok-clause-refs
returns-in-Ok-clause-refs c =
    planned c.args.refs.now c.insert_all-2.new.map c.remove_all.new.map c.as_slice-2.result.now c.in_ok-plan.plan.sets.items (contains by_bytes c.in_ok-plan.plan.gone)
    c.in-Ok.ensures.ok c.remove_all.ensures c.in_ok-plan.ensures
    ∙ ap (λ changes. with_refs changes (map_of c.args.refs.now)) c.as_slice-2.ensures
