-- What texts of hexadecimal digits are read as.
use Rattle.std.proofs.Common.{◌≡◌, ℕ, List, Bool, true, false, length, refl, sym, ap, ◌∙◌}
use Rattle.std.specs.Prelude.{Option, Some, None, Result, cond}
use Rattle.std.specs.List.{AllPass, list_all}
use Rattle.std.specs.Result.{result_ok}
use Rattle.std.proofs.lemmas.Bool.{false≢true}
use Rattle.std.proofs.lemmas.List.Sums.{AllPass-from_list_all, list_all-from_AllPass}
use Rattle.hex.specs.Hex.{IsBytes, decode_sized, encode_lower}
use Rattle.hex.specs.declared.error.FromHexError.{FromHexError}
use Rattle.hex.proofs.HexLemmas.{decode_sized-encode_lower}
use Rattle.text_reader.specs.Hexadecimal.{is_lower_digit}
use Rattle.text_reader.proofs.LowerHexadecimal.{encode_is_lower}
use Rattle.json_fields.specs.Hexadecimal.{hex_bytes}

lower : (n : ℕ) (text : List ℕ) → AllPass is_lower_digit text → hex_bytes n text ≡ result_ok (decode_sized text n)
lower n text h = rw (list_all-from_AllPass is_lower_digit text h) refl

-- bytes are read from what is written for them
pub read_written : (n : ℕ) (bytes : List ℕ) → IsBytes bytes → length bytes ≡ n → hex_bytes n (encode_lower bytes) ≡ Some bytes
read_written n bytes are len = lower n (encode_lower bytes) (encode_is_lower bytes are) ∙ ap result_ok (decode_sized-encode_lower bytes n len are)

pub read_found : (n : ℕ) (text : List ℕ) (r : Result (List ℕ) FromHexError) → AllPass is_lower_digit text → r ≡ decode_sized text n → result_ok r ≡ hex_bytes n text
read_found n text r h is = ap result_ok is ∙ sym (lower n text h)

not_passed : (b : Bool) (r : Option (List ℕ)) → (b ≡ true → ⊥) → None ≡ cond b r None
not_passed true r h = absurd (h refl)
not_passed false r h = refl

pub not_lower : (n : ℕ) (text : List ℕ) (b : Bool) → b ≡ false → (AllPass is_lower_digit text → b ≡ true) → None ≡ hex_bytes n text
not_lower n text b no_ h = not_passed (list_all is_lower_digit text) (result_ok (decode_sized text n)) (λ all. false≢true (sym no_ ∙ h (AllPass-from_list_all is_lower_digit text all)))
