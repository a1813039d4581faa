-- Metadata as it is kept, made from what is written.
use Rattle.std.specs.Prelude.{ℕ, ◌==◌, List, [], ◌∷◌, Option, map, option_map, unwrap_or, if◌then◌else◌}
use Rattle.std.specs.List.{filter_map, find}
use Rattle.json_fields.specs.Hexadecimal.{hex_bytes}
use Rattle.root_metadata.specs.Judged.{is_named, public_of}
use Rattle.root_metadata.specs.Shapes.{set_of}
use Rattle.root_metadata.specs.declared.keys.Key.{Key}
use Rattle.root_metadata.specs.declared.persons.Person.{Person}
use Rattle.root_metadata.specs.declared.raw.RawKey.{RawKey}
use Rattle.root_metadata.specs.declared.raw.RawRole.{RawRole}
use Rattle.root_metadata.specs.declared.raw.Roster.{Roster}
use Rattle.root_metadata.specs.declared.roots.Role.{Role}

-- a key; that of a text which is none has no public bytes
abbrev pub key_made : RawKey → Key
key_made key = record { id = key.id; public = unwrap_or (public_of key) [] }

-- the person that a listed text is: in schema 1 the one whose only key it is, in schema 2 the first of that name
abbrev pub person_made : Roster → List ℕ → Option Person
person_made roster text =
    (if roster.schema == 1 then option_map (λ id. record { name = text; keyids = id ∷ [] }) (hex_bytes 32 text)
    else find (is_named text) roster.persons)

-- the persons that are listed, without those who are no persons of the file
abbrev pub persons_made : Roster → List (List ℕ) → List Person
persons_made roster listed = filter_map (person_made roster) listed

abbrev pub role_made : Roster → RawRole → Role
role_made roster role = record { persons = persons_made roster role.listed; threshold = role.threshold }

-- all names of persons of the file, as a set
abbrev pub all_names : Roster → List (List ℕ)
all_names roster = set_of (map (λ p. p.name) roster.persons)

-- the file's own persons, in the order of their names: none in schema 1
abbrev pub own_persons : Roster → List Person
own_persons roster = (if roster.schema == 1 then [] else persons_made roster (all_names roster))
