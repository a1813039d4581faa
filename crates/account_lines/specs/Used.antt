-- The greatest leaf of a key by which an entry of a log is signed.
use Rattle.std.specs.Prelude.{◌≡◌, ◌&&◌, [], ℕ, Bool, false, List}
use Rattle.std.specs.Prelude.{map, nat_lt, Option, Some, None, codes, if◌then◌else◌}
use Rattle.std.specs.List.{fold}
use Rattle.std.specs.Str.{bytes_eq}
use Rattle.git_object.specs.Repository.{Repository}
use Rattle.lms_keys.specs.Deciding.{is_good}
use Rattle.json_fields.specs.Values.{hex_data, line_text, number_data, option_data}
use Rattle.serde_json.specs.Data.{Data, member, no_members, object}
use Rattle.rsl_chain.specs.Logs.{IsLogOf, entry_at}
use Rattle.rsl_chain.specs.declared.entries.Entry.{Entry}
use Rattle.account_lines.specs.Leaves.{leaf_of}

-- the entry names the key of this id
abbrev pub names_key : Option (List ℕ) → List ℕ → Bool
names_key None id = false
names_key (Some signer) id = bytes_eq signer id

-- the greater of two, if there are any
abbrev pub greater : Option ℕ → Option ℕ → Option ℕ
greater None leaf = leaf
greater (Some most) None = Some most
greater (Some most) (Some leaf) = Some (if nat_lt most leaf then leaf else most)

module _ (id public : List ℕ) where
  -- the leaf by which the key of this id and these bytes signed the entry, if its signature is good
  abbrev pub leaf_in : Entry → Option ℕ
  leaf_in entry = if names_key entry.signer id && is_good public entry.signed entry.signature
      then leaf_of public entry.signature else None

  -- the greatest by which one of these is signed
  abbrev pub used_in : List Entry → Option ℕ
  used_in entries = fold (λ most entry. greater most (leaf_in entry)) None entries

-- these are the entries at the ids, in their order
abbrev pub AreEntries : Repository → List (List ℕ) → List Entry → Type 0
AreEntries r ids entries = map (entry_at r) ids ≡ map (λ entry. Some entry) entries

-- the greatest by which one of the entries at these ids is signed
pub record IsUsed (r : Repository) (id public : List ℕ) (ids : List (List ℕ)) (most : Option ℕ) : Type 0 where
  pub entries : List Entry
  pub are : AreEntries r ids entries
  pub is : most ≡ used_in id public entries

-- ---- how it is told: the key's id, and the leaf, if there is one
abbrev pub used_data : List ℕ → Option ℕ → Data
used_data id leaf = object (member (codes "key") (hex_data id)
    (member (codes "leaf") (option_data number_data leaf) no_members))

abbrev pub used_line : List ℕ → Option ℕ → List ℕ
used_line id leaf = line_text (used_data id leaf)

-- this line tells the greatest leaf by which a key signed an entry of the repository's log
pub record IsToldUsed (r : Repository) (id public line : List ℕ) : Type 0 where
  pub ids : List (List ℕ)
  pub is_log : IsLogOf r ids
  pub most : Option ℕ
  pub used : IsUsed r id public ids most
  pub told : line ≡ used_line id most
