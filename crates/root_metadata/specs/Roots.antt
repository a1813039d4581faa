-- Roots as they are read.
use Rattle.std.specs.Prelude.{ℕ, List, [], Option, Some, None, Result, Ok, Err, codes, length, map, not}
use Rattle.std.specs.Prelude.{option_and_then}
use Rattle.std.specs.List.{position}
use Rattle.std.specs.Option.{option_map}
use Rattle.serde_json.specs.Data.{Data}
use Rattle.serde_json.specs.Find.{get}
use Rattle.json_fields.specs.Json.{json_of}
use Rattle.root_metadata.specs.Judged.{at_place, first_wrong, has_bad_threshold, has_own_id, is_bad_person, is_key}
use Rattle.root_metadata.specs.Judged.{or_next, shares_key, too_many}
use Rattle.root_metadata.specs.Made.{key_made, own_persons, role_made}
use Rattle.root_metadata.specs.Shapes.{only_if, role_of, roster_of}
use Rattle.root_metadata.specs.declared.raw.RawRole.{RawRole}
use Rattle.root_metadata.specs.declared.roots.MetaFault.{MetaFault}
use Rattle.root_metadata.specs.declared.roots.MetaFault.TheVariants.{NotJson, MissingField, BadCount, BadKey}
use Rattle.root_metadata.specs.declared.roots.MetaFault.TheVariants.{KeyIdDiffers, BadThreshold, BadPerson, SharedKey}
use Rattle.root_metadata.specs.declared.raw.RawRoot.{RawRoot}
use Rattle.root_metadata.specs.declared.roots.Root.{Root}

-- the role of a name
abbrev pub role_at : ℕ → List ℕ → Data → Option RawRole
role_at schema name d = option_and_then (role_of schema) (option_and_then (get name) (get (codes "roles") d))

-- a root as it is written
abbrev pub root_of : Data → Option RawRoot
root_of d =
    option_and_then (λ roster. option_and_then
    (λ root. option_map (λ targets. record { roster = roster; root = root; targets = targets })
    (role_at roster.schema (codes "targets") d)) (role_at roster.schema (codes "root") d)) (roster_of (codes "root") d)

-- what may be wrong, number by number

abbrev pub count_fault : RawRoot → Option MetaFault
count_fault root = or_next (at_place BadCount (too_many (length root.roster.keys)))
    (at_place BadCount (too_many (length root.roster.persons)))

abbrev pub key_fault : RawRoot → Option MetaFault
key_fault root = at_place BadKey (position (λ key. not (is_key key)) root.roster.keys)

abbrev pub id_fault : RawRoot → Option MetaFault
id_fault root = at_place KeyIdDiffers (position (λ key. not (has_own_id key)) root.roster.keys)

-- the role `root` is at 0, and `targets` at 1
abbrev pub threshold_fault : RawRoot → Option MetaFault
threshold_fault root =
    or_next (only_if (has_bad_threshold root.roster root.root) (BadThreshold 0))
    (only_if (has_bad_threshold root.roster root.targets) (BadThreshold 1))

abbrev pub person_fault : RawRoot → Option MetaFault
person_fault root = at_place BadPerson (first_wrong (is_bad_person root.roster.keys) [] root.roster.persons)

abbrev pub shared_fault : RawRoot → Option MetaFault
shared_fault root = at_place SharedKey (first_wrong shares_key [] root.roster.persons)

-- the first that is wrong
abbrev pub fault_of : RawRoot → Option MetaFault
fault_of root =
    or_next (count_fault root) (or_next (key_fault root)
    (or_next (id_fault root) (or_next (threshold_fault root) (or_next (person_fault root) (shared_fault root)))))

-- the root that is written, where nothing is wrong
abbrev pub root_made : RawRoot → Root
root_made root = record {
  schema = root.roster.schema;
  version = root.roster.version;
  keys = map key_made root.roster.keys;
  persons = own_persons root.roster;
  root = role_made root.roster root.root;
  targets = role_made root.roster root.targets;
}

abbrev pub judged : RawRoot → Option MetaFault → Result Root MetaFault
judged root None = Ok (root_made root)
judged root (Some fault) = Err fault

abbrev pub from_shape : Option RawRoot → Result Root MetaFault
from_shape None = Err MissingField
from_shape (Some root) = judged root (fault_of root)

abbrev pub from_json : Option Data → Result Root MetaFault
from_json None = Err NotJson
from_json (Some d) = from_shape (root_of d)

-- what a text is read as, want of memory aside
abbrev pub reading : List ℕ → Result Root MetaFault
reading text = from_json (json_of text)
