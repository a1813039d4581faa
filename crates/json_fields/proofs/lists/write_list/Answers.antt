use Rattle.std.proofs.Common.{◌++◌, ◌∷◌, [], append_assoc, ap, false, ◌∙◌}
use Rattle.std.proofs.lemmas.Result.{on_ok_weaker}
use Rattle.serde_json.specs.Written.{compact_text}
use Rattle.json_fields.specs.Values.{list_data}
use Rattle.json_fields.proofs.Listing.{no_more, one_more, rest_text}
use Rattle.json_fields.proofs.lists.write_list.Goals as goal

pub items-init : goal.items-init
items-init g c =
    let rest = rest_text g.T.ToJson.data_of false c.args.items.now in
    ap (λ text. text ++ rest) c.in_ok-push.ensures.added ∙ append_assoc c.args.text.now (91 ∷ []) rest

pub items-preserved : goal.items-preserved
items-preserved g c =
    one_more g.T.ToJson.data_of c.args.items.now c.items.item-index c.item-item.result c.items.later c.items.text c.write_comma.new.text c.write_json.new.text
    (c.args.text.now ++ compact_text (list_data g.T.ToJson.data_of c.args.items.now)) c.items-test.true c.item-item.is c.in_ok-write_comma.ensures c.in_ok-write_json.ensures c.items.invariant

pub returns : goal.returns
returns g c =
    on_ok_weaker c.push-2.result
    (λ e. e ∙ no_more g.T.ToJson.data_of c.args.items.now c.items.item-index c.items.later c.items.text (c.args.text.now ++ compact_text (list_data g.T.ToJson.data_of c.args.items.now)) c.items-test.false c.items.invariant)
    c.push-2.ensures.added
