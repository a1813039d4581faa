use Rattle.std.proofs.Common.{ap, ◌∙◌}
use Rattle.std.specs.BTreeSet.{contains}
use Rattle.octets.specs.BytesMap.{by_bytes}
use Rattle.keeper_api.specs.Changes.{with_refs}
use Rattle.keeper_api.proofs.Planning.{planned}
use Rattle.keeper_api.proofs.Trees.{exact_bytes}
use Rattle.octets.specs.BytesMap.{map_of}
use Rattle.keeper_api.proofs.memory_trees.fill.Goals as goal

pub insert_all-requires : goal.insert_all-requires
insert_all-requires c = exact_bytes

pub returns-in-Ok-clause-refs : goal.returns-in-Ok-clause-refs
returns-in-Ok-clause-refs c =
    planned c.args.refs.now c.insert_all.new.map c.remove_all.new.map c.as_slice-2.result.now c.in_ok-plan.plan.sets.items (contains by_bytes c.in_ok-plan.plan.gone)
    c.in-Ok.ensures.ok c.remove_all.ensures c.in_ok-plan.ensures
    ∙ ap (λ changes. with_refs changes (map_of c.args.refs.now)) c.as_slice-2.ensures
