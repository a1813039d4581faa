-- The leaf that a signature names, by the lengths and types that its public key says (RFC 8554, sections 5.4 and 6.2).
use Rattle.std.specs.Prelude.{◌==◌, ◌+◌, ◌*◌, ◌^◌, ◌||◌, ◌-◌, ℕ, List, length, drop, nat_lt, not, Option, Some, None}
use Rattle.std.specs.Prelude.{if◌then◌else◌, option_and_then}
use Rattle.std.specs.List.{find}
use Rattle.std.specs.Option.{option_map}
use Rattle.lmots.specs.OtsType as one_time
use Rattle.lmots.specs.declared.ots_type.OtsType.{OtsType}
use Rattle.lms_keys.specs.Deciding.{lms_types, one_time_types}
use Rattle.lms_keys.specs.LmsType.{code, height, signature_len}
use Rattle.lms_keys.specs.PublicKey.{number_in}
use Rattle.lms_keys.specs.declared.lms_type.LmsType.{LmsType}

-- the number in the four bytes at a place, where there are so many
abbrev pub number_if : List ℕ → ℕ → Option ℕ
number_if bytes at = if nat_lt (length bytes) 4 || nat_lt (length bytes - 4) at then None else Some (number_in bytes at)

-- the type with a code, if there is one
abbrev pub lms_of : ℕ → Option LmsType
lms_of number = find (λ lms. code lms == number) lms_types

abbrev pub ots_of : ℕ → Option OtsType
ots_of number = find (λ ots. one_time.code ots == number) one_time_types

abbrev pub lms_at : List ℕ → ℕ → Option LmsType
lms_at bytes at = option_and_then lms_of (number_if bytes at)

-- the bytes of a signature by a key of one level, by the types that the key begins with
abbrev pub len_of : List ℕ → Option ℕ
len_of key = option_and_then (λ lms. option_map (signature_len lms) (option_and_then ots_of (number_if key 4)))
    (lms_at key 0)

-- the leaf of a key of two levels, as key files number them: the trees below one leaf of the top tree come in a row
abbrev pub two_leaves : ℕ → LmsType → ℕ → ℕ
two_leaves top lms last = top * 2 ^ height lms + last

-- of a signature that is a number, the top key's signature of so many bytes, the public key below, and its signature
abbrev pub leaf_below : List ℕ → ℕ → Option ℕ
leaf_below s len = if nat_lt (length s) len then None else
    option_and_then (λ top. option_and_then (λ lms. option_map (two_leaves top lms) (number_if s (60 + len)))
    (lms_at s (4 + len))) (number_if s 4)

abbrev pub of_levels : List ℕ → List ℕ → ℕ → Option ℕ
of_levels public s levels = if not (levels == 2) then None else option_and_then (leaf_below s) (len_of (drop 4 public))

abbrev pub last_leaf : List ℕ → List ℕ → Option ℕ
last_leaf public s = option_and_then (of_levels public s) (number_if public 0)

-- of a key of one level the leaf of its tree, and else of both
abbrev pub leaf_of : List ℕ → List ℕ → Option ℕ
leaf_of public s = if length public == 56 then number_if s 0 else last_leaf public s
