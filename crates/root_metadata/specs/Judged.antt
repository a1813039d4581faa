-- What may be wrong with keys, thresholds and persons as they are written.
use Rattle.std.specs.Prelude.{ℕ, ◌==◌, ◌&&◌, ◌||◌, ◌∷◌, ◌++◌, Bool, false, not, List, [], Option, Some, None, codes}
use Rattle.std.specs.Prelude.{count_by, is_some, length, nat_le, nat_lt, option_map, if◌then◌else◌}
use Rattle.std.specs.List.{list_all, list_any}
use Rattle.std.specs.Str.{bytes_eq}
use Rattle.sha2.specs.Sha256.{sha256}
use Rattle.json_fields.specs.Hexadecimal.{hex_bytes}
use Rattle.root_metadata.specs.Risings.{has_key}
use Rattle.root_metadata.specs.declared.persons.Person.{Person}
use Rattle.root_metadata.specs.declared.raw.RawKey.{RawKey}
use Rattle.root_metadata.specs.declared.raw.RawRole.{RawRole}
use Rattle.root_metadata.specs.declared.raw.Roster.{Roster}

-- the public bytes of a key: 56 of the kind `lms` and 60 of the kind `hss`, in lower-case hexadecimal
abbrev pub public_of : RawKey → Option (List ℕ)
public_of key =
    (if bytes_eq key.keytype (codes "lms") then hex_bytes 56 key.public
    else (if bytes_eq key.keytype (codes "hss") then hex_bytes 60 key.public else None))

abbrev pub is_key : RawKey → Bool
is_key key = is_some (public_of key)

abbrev pub is_hash_of : List ℕ → Option (List ℕ) → Bool
is_hash_of id None = false
is_hash_of id (Some public) = bytes_eq id (sha256 public)

-- the id is the SHA-256 of the public bytes
abbrev pub has_own_id : RawKey → Bool
has_own_id key = is_hash_of key.id (public_of key)

-- a key of the file has the id
abbrev pub is_listed : List RawKey → List ℕ → Bool
is_listed keys id = list_any (λ key. bytes_eq key.id id) keys

abbrev pub is_listed_id : List RawKey → Option (List ℕ) → Bool
is_listed_id keys None = false
is_listed_id keys (Some id) = is_listed keys id

abbrev pub is_named : List ℕ → Person → Bool
is_named name person = bytes_eq person.name name

-- a listed text is one of the file: in schema 1 the id of a key of it, in schema 2 the name of a person of it
abbrev pub is_known : Roster → List ℕ → Bool
is_known roster text = (if roster.schema == 1 then is_listed_id roster.keys (hex_bytes 32 text) else list_any
    (is_named text) roster.persons)

-- the threshold is 0, or more than those who are listed and are of the file
abbrev pub has_bad_threshold : Roster → RawRole → Bool
has_bad_threshold roster role = role.threshold == 0 || nat_lt (count_by (is_known roster) role.listed) role.threshold

-- `A` to `Z`, `a` to `z`, `0` to `9`, `.`, `_` and `-`
abbrev pub is_name_byte : ℕ → Bool
is_name_byte b = (nat_le 65 b && nat_le b 90) || (nat_le 97 b && nat_le b 122) || (nat_le 48 b && nat_le b 57)
    || b == 46 || b == 95 || b == 45

-- 1 to 64 such bytes
abbrev pub is_name : List ℕ → Bool
is_name text = nat_le 1 (length text) && nat_le (length text) 64 && list_all is_name_byte text

-- the number of distinct ids of a person
abbrev pub has_few_ids : Person → Bool
has_few_ids person = nat_le 1 (length person.keyids) && nat_le (length person.keyids) 16

-- a name that is none, or an earlier person's; not 1 to 16 distinct ids; or an id that no key of the file has
abbrev pub is_bad_person : List RawKey → List Person → Person → Bool
is_bad_person keys earlier person =
    not (is_name person.name) || list_any (is_named person.name) earlier || not (has_few_ids person)
    || not (list_all (is_listed keys) person.keyids)

-- an id of the person is an earlier person's
abbrev pub shares_key : List Person → Person → Bool
shares_key earlier person = list_any (λ id. list_any (λ other. has_key (λ k. k) other.keyids id) earlier) person.keyids

-- the place of the first who is wrong beside those before him
abbrev pub first_wrong : (List Person → Person → Bool) → List Person → List Person → Option ℕ
first_wrong wrong earlier [] = None
first_wrong wrong earlier (p ∷ ps) =
    (if wrong earlier p then Some (length earlier) else first_wrong wrong (earlier ++ p ∷ []) ps)

-- more than 1,024 of something
abbrev pub too_many : ℕ → Option ℕ
too_many count = (if nat_lt 1024 count then Some count else None)

-- the first fault, and where there is none the next
abbrev pub or_next : {F : Type 0} → Option F → Option F → Option F
or_next None next = next
or_next (Some fault) next = Some fault

-- the fault of a place, where there is one
abbrev pub at_place : {F : Type 0} → (ℕ → F) → Option ℕ → Option F
at_place fault place = option_map fault place
