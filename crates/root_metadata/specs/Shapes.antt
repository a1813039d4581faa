-- Metadata as it is written, in JSON: its keys, persons and roles, before anything is judged.
use Rattle.std.specs.Prelude.{ℕ, ◌==◌, ◌||◌, ◌^◌, ◌∷◌, Bool, false, List, [], Option, Some, None, codes, is_some}
use Rattle.std.specs.Prelude.{nat_le, nat_lt, option_and_then, if◌then◌else◌}
use Rattle.std.specs.BTreeSet.{insert_key}
use Rattle.std.specs.List.{list_all}
use Rattle.std.specs.Option.{option_map}
use Rattle.std.specs.Str.{bytes_eq}
use Rattle.octets.specs.BytesMap.{by_bytes}
use Rattle.serde_json.specs.Data.{Data}
use Rattle.serde_json.specs.Find.{as_number, as_str, as_u64, get}
use Rattle.json_fields.specs.Hexadecimal.{hex_bytes, key_id_of}
use Rattle.json_fields.specs.Json.{each_at, number_at, text_at}
use Rattle.root_metadata.specs.declared.persons.Person.{Person}
use Rattle.root_metadata.specs.declared.raw.RawKey.{RawKey}
use Rattle.root_metadata.specs.declared.raw.RawRole.{RawRole}
use Rattle.root_metadata.specs.declared.raw.Roster.{Roster}

-- the items, with each of the others at its place in the order of bytes
abbrev pub into_set : List (List ℕ) → List (List ℕ) → List (List ℕ)
into_set found [] = found
into_set found (x ∷ xs) = into_set (insert_key by_bytes found x) xs

-- the items as a set
abbrev pub set_of : List (List ℕ) → List (List ℕ)
set_of xs = into_set [] xs

abbrev pub only_if : {T : Type 0} → Bool → T → Option T
only_if {T} holds x = (if holds then Some x else None)

-- the id of a key under a key
abbrev pub key_id_at : List ℕ → Data → Option (List ℕ)
key_id_at key d = option_and_then key_id_of (get key d)

-- a key: its id, the kind that it says, and the text of its public bytes
abbrev pub key_of : Data → Option RawKey
key_of d =
    option_and_then (λ id. option_and_then
    (λ keytype. option_map (λ public. record { id = id; keytype = keytype; public = public })
    (text_at (codes "public") d)) (text_at (codes "keytype") d)) (key_id_at (codes "keyid") d)

-- a person: a name, and the listed ids of keys as a set
abbrev pub person_of : Data → Option Person
person_of d =
    option_and_then (λ name. option_map (λ ids. record { name = name; keyids = set_of ids })
    (each_at key_id_of (codes "keyids") d)) (text_at (codes "name") d)

-- the schema that a value under the field says: 1 where there is none
abbrev pub schema_in : Option Data → Option ℕ
schema_in None = Some 1
schema_in (Some d) = option_and_then (λ n. only_if (n == 1 || n == 2) n) (option_and_then as_u64 (as_number d))

abbrev pub schema_of : Data → Option ℕ
schema_of d = schema_in (get (codes "schema") d)

abbrev pub version_of : Data → Option ℕ
version_of d = option_and_then (λ n. only_if (nat_le 1 n) n) (number_at (codes "version") d)

abbrev pub threshold_of : Data → Option ℕ
threshold_of d = option_and_then (λ n. only_if (nat_lt n (2 ^ 32)) n) (number_at (codes "threshold") d)

-- whether a text is 64 lower-case hexadecimal digits
abbrev pub is_id_text : List ℕ → Bool
is_id_text text = is_some (hex_bytes 32 text)

-- who is listed, as a set: in schema 1 the texts of ids of keys, in schema 2 names
abbrev pub listed_of : ℕ → Data → Option (List (List ℕ))
listed_of schema d =
    (if schema == 1
    then option_and_then (λ texts. only_if (list_all is_id_text texts) (set_of texts))
    (each_at as_str (codes "keyids") d)
    else option_map set_of (each_at as_str (codes "persons") d))

abbrev pub role_of : ℕ → Data → Option RawRole
role_of schema d = option_and_then
    (λ listed. option_map (λ threshold. record { listed = listed; threshold = threshold }) (threshold_of d))
    (listed_of schema d)

-- the persons that a file lists: none in schema 1
abbrev pub persons_of : ℕ → Data → Option (List Person)
persons_of schema d = (if schema == 1 then Some [] else each_at person_of (codes "persons") d)

abbrev pub is_text : List ℕ → Option (List ℕ) → Bool
is_text wanted None = false
is_text wanted (Some text) = bytes_eq text wanted

-- whether a value says that it is of this type
abbrev pub is_kind : List ℕ → Data → Bool
is_kind kind d = is_text kind (text_at (codes "type") d)

-- what all metadata of a type has: its schema, version, keys and persons
abbrev pub roster_of : List ℕ → Data → Option Roster
roster_of kind d =
    (if is_kind kind d
    then option_and_then (λ schema. option_and_then
    (λ version. option_and_then (λ keys. option_map
    (λ persons. record { schema = schema; version = version; keys = keys; persons = persons })
    (persons_of schema d)) (each_at key_of (codes "keys") d)) (version_of d)) (schema_of d)
    else None)
