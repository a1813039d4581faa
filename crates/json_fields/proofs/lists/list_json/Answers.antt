use Rattle.json_fields.proofs.Written.{values_more}
use Rattle.std.proofs.Common.{ap, map, ◌∙◌}
use Rattle.std.proofs.lemmas.List.{take_all}
use Rattle.serde_json.specs.Data.{array}
use Rattle.serde_json.specs.View.{items_of}
use Rattle.json_fields.proofs.lists.list_json.Goals as goal

pub items-preserved : goal.items-preserved
items-preserved g c =
    values_more g.T.ToJson.data_of c.items.values.items c.push.new.values.items c.in-Ok.value c.args.items.now c.items.item-index c.item-item.result c.items-test.true c.item-item.is c.in-Ok.ensures c.in_ok-push.ensures
    c.items.invariant

pub returns : goal.returns
returns g c =
    let e = take_all c.items.item-index c.args.items.now c.items-test.false in
    c.from.ensures ∙ ap (λ ds. array (items_of ds)) (c.items.invariant ∙ ap (map g.T.ToJson.data_of) e)
