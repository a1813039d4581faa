-- What stands in the payload of an approval.
use Rattle.std.specs.Prelude.{ℕ, ◌&&◌, Bool, false, List, Option, Some, None, codes}
use Rattle.std.specs.Option.{option_map}
use Rattle.hex.specs.Hex.{encode_lower}
use Rattle.serde_json.specs.Data.{Data}
use Rattle.json_fields.specs.Json.{json_of, text_at}
use Rattle.approvals.specs.Approvals.{is_text}
use Rattle.known_signers.specs.declared.payloads.Fields.{Fields}

abbrev pub fields_of : Data → Fields
fields_of d = record {
  kind = text_at (codes "type") d;
  name = text_at (codes "targetRef") d;
  from = text_at (codes "fromRevisionID") d;
  tree = text_at (codes "targetTreeID") d;
}

-- the texts of its four fields, where it is JSON
abbrev pub fields_in : List ℕ → Option Fields
fields_in payload = option_map fields_of (json_of payload)

-- they let a reference go from a target to a tree
abbrev pub let_go : List ℕ → List ℕ → List ℕ → Option Fields → Bool
let_go name from tree None = false
let_go name from tree (Some fields) =
    is_text (codes "approval") fields.kind
    && (is_text name fields.name
    && (is_text (encode_lower from) fields.from
    && is_text (encode_lower tree) fields.tree))
