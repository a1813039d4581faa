-- Which envelope is an approval: one of the policies' type whose payload lets a reference go from a target to a tree.
use Rattle.std.specs.Prelude.{ℕ, ◌≡◌, ◌++◌, ◌∷◌, ◌&&◌, Bool, true, false, List, Option, Some, None, codes}
use Rattle.std.specs.Str.{bytes_eq}
use Rattle.hex.specs.Hex.{encode_lower}
use Rattle.serde_json.specs.Data.{Data}
use Rattle.json_fields.specs.Json.{json_of, text_at}
use Rattle.dsse_envelope.specs.declared.envelope.Envelope.{Envelope}

-- the type of the envelopes of policies and approvals
abbrev pub approval_type : List ℕ
approval_type = codes "application/vnd.gittuf+json"

-- it is there, and is this text
abbrev pub is_text : List ℕ → Option (List ℕ) → Bool
is_text text None = false
is_text text (Some found) = bytes_eq found text

-- the four fields of an approval; there may be others
abbrev pub has_fields : List ℕ → List ℕ → List ℕ → Data → Bool
has_fields name from tree d =
    is_text (codes "approval") (text_at (codes "type") d)
    && (is_text name (text_at (codes "targetRef") d)
    && (is_text (encode_lower from) (text_at (codes "fromRevisionID") d)
    && is_text (encode_lower tree) (text_at (codes "targetTreeID") d)))

abbrev pub lets_go : List ℕ → List ℕ → List ℕ → Option Data → Bool
lets_go name from tree None = false
lets_go name from tree (Some d) = has_fields name from tree d

-- the envelope is an approval for this reference, from this target to this tree
abbrev pub is_approval : List ℕ → List ℕ → List ℕ → Envelope → Bool
is_approval name from tree envelope = bytes_eq envelope.payload_type approval_type && lets_go name from tree
    (json_of envelope.payload)

-- where an approval stands in the tree of the attestations
abbrev pub approval_path : List ℕ → List ℕ → List ℕ → List ℕ
approval_path name from tree = codes "reference-authorizations/"
    ++ (name ++ 47 ∷ (encode_lower from ++ 45 ∷ encode_lower tree))
