-- Bytes, lists and what may not be there have no number with a fraction.
use Rattle.std.proofs.Common.{◌≡◌, ℕ, Bool, true, false, List, Option, Some, None, refl}
use Rattle.std.specs.Prelude.{if◌then◌else◌}
use Rattle.std.specs.Str.{is_utf8}
use Rattle.serde_json.specs.Data.{Data, string}
use Rattle.serde_json.specs.Written.{has_float}
use Rattle.json_fields.proofs.Written.{no_float}
use Rattle.json_fields.specs.Values.{escaped_data, list_data, option_data, text_data}

either : (b : Bool) (d e : Data) → has_float d ≡ false → has_float e ≡ false → has_float (if b then d else e) ≡ false
either true d e first second = first
either false d e first second = second

pub text_floatless : (bytes : List ℕ) → has_float (text_data bytes) ≡ false
unfolding text_data
text_floatless bytes = either (is_utf8 bytes) (string bytes) (escaped_data bytes) refl refl

pub list_floatless : {T : Type 0} (data_of : T → Data) → ((x : T) → has_float (data_of x) ≡ false) → (items : List T) → has_float (list_data data_of items) ≡ false
list_floatless data_of each items = no_float data_of each items

pub option_floatless : {T : Type 0} (data_of : T → Data) → ((x : T) → has_float (data_of x) ≡ false) → (item : Option T) → has_float (option_data data_of item) ≡ false
option_floatless data_of each None = refl
option_floatless data_of each (Some x) = each x
