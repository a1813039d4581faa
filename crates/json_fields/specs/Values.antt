-- The values that lines of JSON are made of, and the line of a value.
use Rattle.std.specs.Prelude.{◌++◌, ◌∷◌, [], ℕ, List, Option, Some, None, codes, map, if◌then◌else◌}
use Rattle.std.specs.Str.{is_utf8}
use Rattle.hex.specs.Hex.{encode_lower}
use Rattle.octets.specs.Escaped.{escaped}
use Rattle.serde_json.specs.Data.{Data, array, member, no_members, null, number, object, string, unsigned}
use Rattle.serde_json.specs.View.{items_of}
use Rattle.serde_json.specs.Written.{compact_text}

-- bytes that are no text: their printable word as the field `escaped` of an object
abbrev pub escaped_data : List ℕ → Data
escaped_data bytes = object (member (codes "escaped") (string (escaped bytes)) no_members)

-- bytes of any kind: a text where they are UTF-8
unfoldable pub text_data : List ℕ → Data
text_data bytes = if is_utf8 bytes then string bytes else escaped_data bytes

-- an id, in lower-case hexadecimal
abbrev pub hex_data : List ℕ → Data
hex_data id = string (encode_lower id)

abbrev pub number_data : ℕ → Data
number_data value = number (unsigned value)

-- what may not be there
abbrev pub option_data : {T : Type 0} → (T → Data) → Option T → Data
option_data data_of None = null
option_data data_of (Some item) = data_of item

abbrev pub list_data : {T : Type 0} → (T → Data) → List T → Data
list_data data_of items = array (items_of (map data_of items))

-- nothing stands between the tokens, and a line feed at the end
abbrev pub line_text : Data → List ℕ
line_text written = compact_text written ++ 10 ∷ []
