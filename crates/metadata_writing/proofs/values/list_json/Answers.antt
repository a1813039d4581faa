use Rattle.json_fields.proofs.Written.{values_more}
use Rattle.std.proofs.Common.{ap, map, ◌∙◌}
use Rattle.std.proofs.lemmas.List.{take_all}
use Rattle.serde_json.specs.Data.{array}
use Rattle.serde_json.specs.View.{items_of}
use Rattle.metadata_writing.proofs.values.list_json.Goals as goal

pub items-preserved : goal.items-preserved
items-preserved g c =
    values_more g.T.ToJson.written c.items.values.items c.push.new.values.items c.in-Ok.value c.args.items.now c.items.item-index c.item-item.result c.items-test.true c.item-item.is c.in-Ok.ensures.written c.in_ok-push.ensures
    c.items.invariant

pub returns-clause-written : goal.returns-clause-written
returns-clause-written g c =
    let e = take_all c.items.item-index c.args.items.now c.items-test.false in
    c.from.ensures ∙ ap (λ ds. array (items_of ds)) (c.items.invariant ∙ ap (map g.T.ToJson.written) e)
