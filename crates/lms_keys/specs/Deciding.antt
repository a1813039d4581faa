-- Good signatures as a test on bytes. A key of bytes has one of the known types, so it is enough to look at each of
-- them.
use Rattle.std.specs.Prelude.{ℕ, suc, zero, ◌+◌, ◌-◌, ◌^◌, ◌==◌, ◌&&◌, ◌||◌, Bool, List, [], ◌∷◌, length, take, drop}
use Rattle.std.specs.Prelude.{nat_le, nat_lt}
use Rattle.std.specs.Int.{w32, to_be_bytes}
use Rattle.std.specs.List.{list_any}
use Rattle.std.specs.Str.{bytes_eq}
use Rattle.lmots.specs.OneTime.{candidate, code_in}
use Rattle.lmots.specs.OtsType as one_time_type
use Rattle.lmots.specs.declared.ots_type.OtsType.{OtsType}
use Rattle.lmots.specs.declared.ots_type.OtsType.TheVariants.{W1, W2, W4, W8}
use Rattle.lms_keys.specs.LmsType.{code, height, signature_len}
use Rattle.lms_keys.specs.PublicKey.{key_bytes, number_in}
use Rattle.lms_keys.specs.Signature.{leaf_in, one_time_in, path_in, root_from}
use Rattle.lms_keys.specs.declared.lms_type.LmsType.{LmsType}
use Rattle.lms_keys.specs.declared.lms_type.LmsType.TheVariants.{H5, H10, H15, H20, H25}
use Rattle.lms_keys.specs.declared.public_key.PublicKey.{PublicKey}

abbrev pub lms_types : List LmsType
lms_types = H5 ∷ H10 ∷ H15 ∷ H20 ∷ H25 ∷ []

abbrev pub one_time_types : List OtsType
one_time_types = W1 ∷ W2 ∷ W4 ∷ W8 ∷ []

-- the key of these types with the identifier and the root that stand in the bytes
abbrev pub key_with : List ℕ → LmsType → OtsType → PublicKey
key_with public lms ots = record { lms = lms; ots = ots; i = take 16 (drop 8 public); root = drop 24 public }

-- the bytes are those of a key, and of it the test holds
abbrev pub of_key : (PublicKey → Bool) → List ℕ → Bool
of_key test public = list_any (λ lms. list_any (λ ots. bytes_eq public (key_bytes (key_with public lms ots))
    && test (key_with public lms ots)) one_time_types) lms_types

-- the signature is good for the key (RFC 8554, section 5.4.2)
abbrev pub is_signature : PublicKey → List ℕ → List ℕ → Bool
is_signature key message s =
    length s == signature_len key.lms key.ots
    && (code_in (one_time_in key.ots s) == one_time_type.code key.ots
    && (length (one_time_in key.ots s) == one_time_type.signature_len key.ots
    && (number_in s (4 + one_time_type.signature_len key.ots) == code key.lms
    && (nat_lt (leaf_in s) (2 ^ height key.lms)
    && bytes_eq (root_from key (leaf_in s) (candidate key.ots key.i (leaf_in s) message (one_time_in key.ots s))
    (path_in key.ots s)) key.root))))

-- good by an LMS key
abbrev pub is_lms_good : List ℕ → List ℕ → List ℕ → Bool
is_lms_good public message s = length public == 56 && of_key (λ key. is_signature key message s) public

-- good by a first key and n signed keys, each behind the signature that the key before it made (RFC 8554, section 6.3)
abbrev pub link_len : PublicKey → ℕ
link_len key = signature_len key.lms key.ots

abbrev pub link_good : (List ℕ → List ℕ → Bool) → List ℕ → PublicKey → Bool
link_good below s key =
    nat_le (link_len key + 56) (length s)
    && (is_signature key (take 56 (drop (link_len key) s)) (take (link_len key) s)
    && below (take 56 (drop (link_len key) s)) (drop 56 (drop (link_len key) s)))

unfoldable pub are_good : ℕ → List ℕ → List ℕ → List ℕ → Bool
are_good zero public message s = is_lms_good public message s
are_good (suc n) public message s =
    length public == 56 && of_key (link_good (λ next rest. are_good n next message rest) s) public

-- good by an HSS key of so many levels
abbrev pub of_levels : List ℕ → List ℕ → List ℕ → ℕ → Bool
of_levels public message s levels =
    bytes_eq (take 4 public) (to_be_bytes w32 levels)
    && (bytes_eq (take 4 s) (to_be_bytes w32 (levels - 1)) && are_good (levels - 1) (drop 4 public) message (drop 4 s))

abbrev pub is_hss_good : List ℕ → List ℕ → List ℕ → Bool
is_hss_good public message s =
    nat_le 1 (number_in public 0) && (nat_le (number_in public 0) 8 && of_levels public message s (number_in public 0))

-- whether the signature is good by a key of 56 bytes or of 60
unfoldable pub is_good : List ℕ → List ℕ → List ℕ → Bool
is_good public message s = is_lms_good public message s || is_hss_good public message s
