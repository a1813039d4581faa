-- Base64 in either alphabet, with padding (RFC 4648, sections 4 and 5).
use Rattle.std.specs.Prelude.{ℕ, List, Option, Some, None}
use Rattle.std.specs.Result.{result_ok}
use Rattle.base64.specs.Engines.{standard, url_safe}
use Rattle.base64.specs.GeneralPurpose.{decode_of}

abbrev pub or_else : Option (List ℕ) → Option (List ℕ) → Option (List ℕ)
or_else None other = other
or_else (Some bytes) other = Some bytes

-- the bytes of a text: by the standard alphabet, and else by the URL-safe one
abbrev pub decoded : List ℕ → Option (List ℕ)
decoded text = or_else (result_ok (decode_of standard text)) (result_ok (decode_of url_safe text))
