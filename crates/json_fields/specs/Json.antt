-- JSON values and their fields (RFC 8259).
use Rattle.std.specs.Prelude.{ℕ, ◌∷◌, ◌++◌, Bool, List, [], Option, Some, None, option_and_then, if◌then◌else◌}
use Rattle.std.specs.Option.{option_map}
use Rattle.std.specs.Str.{is_utf8}
use Rattle.serde_json.specs.Data.{Data, Items, item, no_items}
use Rattle.serde_json.specs.Find.{as_array, as_bool, as_number, as_str, as_u64, get}
use Rattle.serde_json.specs.Read.{read}

-- the JSON value that bytes are
abbrev pub json_of : List ℕ → Option Data
json_of text = (if is_utf8 text then read text else None)

-- the text under a key
abbrev pub text_at : List ℕ → Data → Option (List ℕ)
text_at key d = option_and_then as_str (get key d)

abbrev pub or_empty : Option Data → Option (List ℕ)
or_empty None = Some []
or_empty (Some d) = as_str d

-- the text under a key, or the empty one where there is none
abbrev pub text_at_or_empty : List ℕ → Data → Option (List ℕ)
text_at_or_empty key d = or_empty (get key d)

-- the whole number under a key, of 64 bits
abbrev pub number_at : List ℕ → Data → Option ℕ
number_at key d = option_and_then as_u64 (option_and_then as_number (get key d))

-- the list under a key
abbrev pub list_at : List ℕ → Data → Option Items
list_at key d = option_and_then as_array (get key d)

-- whether it is true or false that stands under a key
abbrev pub bool_at : List ℕ → Data → Option Bool
bool_at key d = option_and_then as_bool (get key d)

-- one more in front
abbrev pub one_more : {T : Type 0} → Option T → Option (List T) → Option (List T)
one_more {T} None rest = None
one_more (Some x) None = None
one_more (Some x) (Some xs) = Some (x ∷ xs)

-- each item, where each is read
abbrev pub each : {T : Type 0} → (Data → Option T) → Items → Option (List T)
each f no_items = Some []
each f (item d ds) = one_more (f d) (each f ds)

-- the list under a key, where each of its items is read
abbrev pub each_at : {T : Type 0} → (Data → Option T) → List ℕ → Data → Option (List T)
each_at f key d = option_and_then (each f) (list_at key d)

-- what was read, before the meaning of the rest
abbrev pub after : {T : Type 0} → List T → Option (List T) → Option (List T)
after front rest = option_map (λ xs. front ++ xs) rest
