use Rattle.std.proofs.Common.{◌≡◌, map, take}
use Rattle.serde_json.specs.View.{view}
use Rattle.json_fields.proofs.lists.list_json.Given as goal

abbrev pub invariant-items : goal.invariant-items
invariant-items g l = map view l.values.items ≡ map g.T.ToJson.data_of (take l.item-index l.items)
