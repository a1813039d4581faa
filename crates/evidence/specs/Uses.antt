-- What a signature uses: by each of its levels a key, a leaf of it, and what that leaf signs.
use Rattle.std.specs.Prelude.{◌==◌, ◌&&◌, ◌-◌, ◌∷◌, [], ℕ, suc, zero, Bool, not, List, length, drop, take}
use Rattle.std.specs.Prelude.{Option, if◌then◌else◌, option_and_then, unwrap_or}
use Rattle.std.specs.List.{find, list_any}
use Rattle.std.specs.Option.{option_map}
use Rattle.std.specs.Str.{bytes_eq}
use Rattle.lmots.specs.OtsType as one_time
use Rattle.lms_keys.specs.Deciding.{lms_types, one_time_types}
use Rattle.lms_keys.specs.LmsType.{code, signature_len}
use Rattle.lms_keys.specs.PublicKey.{number_in}
use Rattle.lms_keys.specs.Signature.{leaf_in}

pub record Use : Type 0 where
  -- the 56 bytes of an LMS public key
  pub key : List ℕ
  -- the number of its leaf, which RFC 8554 calls q
  pub leaf : ℕ
  -- what the leaf signs
  pub message : List ℕ

-- ---- the uses of a signature
-- the bytes of a signature by a key, as the two type codes tell with which the key begins (RFC 8554, section 5.3)
abbrev pub len_with : ℕ → ℕ → ℕ
len_with lms_code ots_code =
    unwrap_or (option_and_then (λ lms. option_map (signature_len lms)
    (find (λ ots. one_time.code ots == ots_code) one_time_types)) (find (λ lms. code lms == lms_code) lms_types)) 0

abbrev pub len_by : List ℕ → ℕ
len_by key = len_with (number_in key 0) (number_in key 4)

-- the 56 bytes behind the key's signature, which are the key that it signs
abbrev pub next_key : List ℕ → List ℕ → List ℕ
next_key key s = take 56 (drop (len_by key) s)

-- from a key on, of a signature that has so many signed keys in front (RFC 8554, section 6.2)
unfoldable pub uses_from : ℕ → List ℕ → List ℕ → List ℕ → List Use
uses_from zero key message s = record { key = key; leaf = leaf_in s; message = message } ∷ []
uses_from (suc n) key message s =
    record { key = key; leaf = leaf_in s; message = next_key key s }
    ∷ uses_from n (next_key key s) message (drop 56 (drop (len_by key) s))

-- a key of 60 bytes begins with the number of its levels; any other is of one level (RFC 8554, section 6.1)
unfoldable pub uses : List ℕ → List ℕ → List ℕ → List Use
uses public message s =
    if length public == 60 then uses_from (number_in public 0 - 1) (drop 4 public) message (drop 4 s)
    else uses_from 0 public message s

-- ---- a leaf that is used again
-- one leaf of one key, and another message
abbrev pub is_reuse : Use → Use → Bool
is_reuse u v = bytes_eq u.key v.key && (u.leaf == v.leaf && not (bytes_eq u.message v.message))

-- the leaf of the first of the left uses that some right one uses again
abbrev pub reuse_of : List Use → List Use → Option ℕ
reuse_of lefts rights = option_map (λ u. u.leaf) (find (λ u. list_any (is_reuse u) rights) lefts)
