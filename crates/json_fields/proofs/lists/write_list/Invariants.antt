use Rattle.std.proofs.Common.{◌≡◌, ◌++◌, drop}
use Rattle.serde_json.specs.Written.{compact_text}
use Rattle.json_fields.specs.Values.{list_data}
use Rattle.json_fields.proofs.Listing.{rest_text}
use Rattle.json_fields.proofs.lists.write_list.Given as goal

abbrev pub invariant-items : goal.invariant-items
invariant-items g l = l.text ++ rest_text g.T.ToJson.data_of l.later (drop l.item-index l.items) ≡ l.fn.text ++ compact_text (list_data g.T.ToJson.data_of l.items)
