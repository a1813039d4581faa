-- Bytes that are JSON, or none.
use Rattle.std.proofs.Common.{◌≡◌, ◌≤◌, ℕ, List, Bool, true, false, refl, ap, ◌∙◌}
use Rattle.std.specs.Prelude.{Option, Some, None, String, string_bytes, cond}
use Rattle.std.specs.Str.{IsUtf8, is_utf8}
use Rattle.std.specs.declared.alloc.Global.{Global}
use Rattle.std.proofs.lemmas.Str.{IsUtf8-from_is_utf8, IsUtf8-string_bytes, is_utf8-from_IsUtf8}
use Rattle.serde_json.specs.Data.{Data, depth}
use Rattle.serde_json.specs.Read.{max_depth, read}
use Rattle.json_fields.specs.Json.{json_of}

pub json_of-some : (t : List ℕ) (d : Data) → IsUtf8 t → read t ≡ Some d → json_of t ≡ Some d
json_of-some t d u e = rw (is_utf8-from_IsUtf8 t u) e

none_by : (b : Bool) (r : Option Data) → (b ≡ true → r ≡ None) → cond b r None ≡ None
none_by true r h = h refl
none_by false r h = refl

pub json_of-none : (t : List ℕ) → (IsUtf8 t → read t ≡ None) → json_of t ≡ None
json_of-none t h = none_by (is_utf8 t) (read t) (λ b. h (IsUtf8-from_is_utf8 t b))

-- what is written for a value reads as it
pub reads_back : (s : String Global) (v d : Data) → v ≡ d → depth d ≤ max_depth → (depth v ≤ max_depth → read (string_bytes s) ≡ Some v) → json_of (string_bytes s) ≡ Some d
reads_back s v d e deep h = json_of-some (string_bytes s) d (IsUtf8-string_bytes s) (h (rw e deep) ∙ ap Some e)

pub reads_as : (t u : List ℕ) (d : Data) → t ≡ u → IsUtf8 u → (depth d ≤ max_depth → read u ≡ Some d) → depth d ≤ max_depth → json_of t ≡ Some d
reads_as t u d e utf8 h deep = rw e (json_of-some u d utf8 (h deep))
