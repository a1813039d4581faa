-- Bytes written as lower-case hexadecimal digits, two a byte.
use Rattle.std.specs.Prelude.{ℕ, List, Option, None, option_and_then, if◌then◌else◌}
use Rattle.std.specs.List.{list_all}
use Rattle.std.specs.Result.{result_ok}
use Rattle.hex.specs.Hex.{decode_sized}
use Rattle.serde_json.specs.Data.{Data}
use Rattle.serde_json.specs.Find.{as_str}
use Rattle.text_reader.specs.Hexadecimal.{is_lower_digit}

-- the n bytes that a text of exactly two lower-case digits for each writes
abbrev pub hex_bytes : ℕ → List ℕ → Option (List ℕ)
hex_bytes n text = (if list_all is_lower_digit text then result_ok (decode_sized text n) else None)

-- the id of a key that a value is: a text of 64 digits
abbrev pub key_id_of : Data → Option (List ℕ)
key_id_of d = option_and_then (hex_bytes 32) (as_str d)
