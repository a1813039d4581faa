-- Bytes are a text or not.
use Rattle.std.proofs.Common.{◌≡◌, ℕ, Bool, true, false, List, refl, ap}
use Rattle.std.specs.Prelude.{IsUtf8, if◌then◌else◌}
use Rattle.std.specs.Str.{is_utf8}
use Rattle.std.proofs.lemmas.Str.{IsUtf8-from_is_utf8, is_utf8-from_IsUtf8}
use Rattle.serde_json.specs.Data.{string}
use Rattle.json_fields.specs.Values.{escaped_data, text_data}

by_test : (bytes : List ℕ) (test : Bool) → is_utf8 bytes ≡ test → text_data bytes ≡ (if test then string bytes else escaped_data bytes)
unfolding text_data
by_test bytes test is = ap (λ (b : Bool). if b then string bytes else escaped_data bytes) is

pub as_text : (bytes : List ℕ) → IsUtf8 bytes → text_data bytes ≡ string bytes
as_text bytes is = by_test bytes true (is_utf8-from_IsUtf8 bytes is)

no_text : (bytes : List ℕ) → (IsUtf8 bytes → ⊥) → (test : Bool) → is_utf8 bytes ≡ test → text_data bytes ≡ escaped_data bytes
no_text bytes none true is = absurd (none (IsUtf8-from_is_utf8 bytes is))
no_text bytes none false is = by_test bytes false is

pub as_escaped : (bytes : List ℕ) → (IsUtf8 bytes → ⊥) → text_data bytes ≡ escaped_data bytes
as_escaped bytes none = no_text bytes none (is_utf8 bytes) refl
