-- What an approval says: it lets a reference go from a target to a tree.
use Rattle.std.specs.Prelude.{ℕ, List, codes}
use Rattle.hex.specs.Hex.{encode_lower}
use Rattle.serde_json.specs.Data.{Data, object, string, member, no_members}
use Rattle.serde_json.specs.Written.{compact_text}

abbrev pub payload_data : List ℕ → List ℕ → List ℕ → Data
payload_data name from tree =
    object (member (codes "fromRevisionID") (string (encode_lower from))
    (member (codes "targetRef") (string name)
    (member (codes "targetTreeID") (string (encode_lower tree))
    (member (codes "type") (string (codes "approval")) no_members))))

-- the text that is signed: nothing stands between its tokens, and the fields stand in the order of their bytes
abbrev pub payload_text : List ℕ → List ℕ → List ℕ → List ℕ
payload_text name from tree = compact_text (payload_data name from tree)
