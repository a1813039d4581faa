-- How long a push is.
use Rattle.std.proofs.Common.{◌≡◌, ℕ, ◌+◌, ◌*◌, List, ◌∷◌, ◌++◌, length, ap, arith, length-append}
use Rattle.std.specs.Prelude.{codes}
use Rattle.std.specs.List.{flat_map}
use Rattle.hex.specs.Hex.{encode_lower, lower_digits}
use Rattle.hex.proofs.HexLemmas.{length-encode_with}
use Rattle.git_object.specs.Ids.{IsId}
use Rattle.git_object.specs.Objects.{Pair}
use Rattle.pushes.specs.Pushes.{end_line, entry_line, header, own_record, push_text}
use Rattle.pushes.proofs.EntryLines.{entry_then}
use Rattle.pushes.specs.Making.{frame_len}

pub push_len : (objects : List Pair) (id : List ℕ) → IsId id → length (push_text objects id) ≡ length (flat_map own_record objects) + frame_len
push_len objects id is =
    let behind : List ℕ = 10 ∷ end_line in
    let records : List ℕ = flat_map own_record objects in
    let digits : List ℕ = encode_lower id ++ behind in
    let front : length (push_text objects id) ≡ 14 + length (records ++ (entry_line id ++ behind)) =
    length-append header (records ++ (entry_line id ++ behind)) in
    let middle = length-append records (entry_line id ++ behind) in
    let line : length (entry_line id ++ behind) ≡ length (codes "entry " ++ digits) = ap length (entry_then id behind) in
    let word : length (codes "entry " ++ digits) ≡ 6 + length digits = length-append (codes "entry ") digits in
    let end : length digits ≡ length (encode_lower id) + 5 = length-append (encode_lower id) behind in
    let hex : length (encode_lower id) ≡ 2 * length id = length-encode_with lower_digits id in
    let long = is.length in
    omega (arith, front, middle, line, word, end, hex, long)
