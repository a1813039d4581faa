-- The lines of a body, and what stands in them.
use Rattle.std.specs.Prelude.{ℕ, ◌==◌, ◌&&◌, ◌||◌, Bool, not, List, [], ◌∷◌, length, Option, Some, None, nat_le}
use Rattle.std.specs.Prelude.{slice_index, if◌then◌else◌, is_some, cond, take, drop, codes}
use Rattle.std.specs.Char.{is_ascii_digit}
use Rattle.std.specs.List.{list_all}
use Rattle.std.specs.Option.{option_and_then}
use Rattle.std.specs.Result.{result_ok}
use Rattle.std.specs.Str.{bytes_eq}
use Rattle.base64.specs.Engines.{standard}
use Rattle.base64.specs.GeneralPurpose.{decoded_of}
use Rattle.hex.specs.Hex.{decode_of}
use Rattle.text_reader.specs.Hexadecimal.{is_lower_digit}
use Rattle.text_reader.specs.Number.{number_of}
use Rattle.git_object.specs.Names.{is_ref_name, log_name}
use Rattle.rsl_chain.specs.declared.words.SignatureLine.{SignatureLine}

-- a byte in front of the first line, or of what follows the last
abbrev pub onto_lines : ℕ → List (List ℕ) → List ℕ → List (List ℕ) × List ℕ
onto_lines b [] tail = ([], b ∷ tail)
onto_lines b (line ∷ more) tail = ((b ∷ line) ∷ more, tail)

-- the lines that end in a line feed, and what follows the last line feed
abbrev pub lines : List ℕ → List (List ℕ) × List ℕ
lines [] = ([], [])
lines (b ∷ bs) = cond (b == 10) ([] ∷ (lines bs).0, (lines bs).1) (onto_lines b (lines bs).0 (lines bs).1)

-- what follows the word that stands in front of a line
abbrev pub strip : List ℕ → List ℕ → Option (List ℕ)
strip [] line = Some line
strip (c ∷ word) [] = None
strip (c ∷ word) (d ∷ line) = cond (c == d) (strip word line) None

-- whether the word stands in front of a line
abbrev pub begins : List ℕ → List ℕ → Bool
begins word line = is_some (strip word line)

-- the id that 64 lower-case hexadecimal digits write
unfoldable pub id_text : List ℕ → Option (List ℕ)
id_text text = if length text == 64 && list_all is_lower_digit text then result_ok (decode_of text) else None

-- the id after a word
abbrev pub id_after : List ℕ → List ℕ → Option (List ℕ)
id_after word line = option_and_then id_text (strip word line)

-- one decimal digit or more, of which the first of several is no zero
abbrev pub is_number : List ℕ → Bool
is_number text = not (length text == 0) && list_all is_ascii_digit text
    && (not (slice_index text 0 == 48) || length text == 1)

-- the number that a text writes, up to 1,000,000
unfoldable pub number_text : List ℕ → Option ℕ
number_text text = if is_number text && nat_le (number_of text) 1000000 then Some (number_of text) else None

-- the number after `number: `
abbrev pub number_after : List ℕ → Option ℕ
number_after line = option_and_then number_text (strip (codes "number: ") line)

-- the reference name after `ref: `, which is not the log's own
abbrev pub name_text : List ℕ → Option (List ℕ)
name_text text = if is_ref_name text && not (bytes_eq text log_name) then Some text else None

abbrev pub name_after : List ℕ → Option (List ℕ)
name_after line = option_and_then name_text (strip (codes "ref: ") line)

-- the bytes of a base64 text (RFC 4648, section 4), padded, without left-over bits
abbrev pub decoded : List ℕ → Option (List ℕ)
decoded text = decoded_of standard text

-- a signature that is not empty
abbrev pub signature_text : List ℕ → Option (List ℕ)
signature_text text = if length text == 0 then None else decoded text

abbrev pub both_parts : Option (List ℕ) → Option (List ℕ) → Option SignatureLine
both_parts None signature = None
both_parts (Some signer) None = None
both_parts (Some signer) (Some signature) = Some (record { signer = signer; signature = signature })

-- a key's id, a space, a signature
abbrev pub signed_text : List ℕ → Option SignatureLine
signed_text text = both_parts (id_text (take 64 text))
    (option_and_then signature_text (strip (codes " ") (drop 64 text)))

-- the signer and the signature after `lmssig `
abbrev pub signature_after : List ℕ → Option SignatureLine
signature_after line = option_and_then signed_text (strip (codes "lmssig ") line)

-- the bytes of one line of a message: 1 to 64 characters
abbrev pub piece_text : List ℕ → Option (List ℕ)
piece_text line = if length line == 0 then None else if nat_le (length line) 64 then decoded line else None

-- whether another line of a message may follow: 64 characters, and the last does not fill up
abbrev pub is_full : List ℕ → Bool
is_full line = length line == 64 && not (slice_index line 63 == 61)
