-- Signatures: what they are made of, and which are good.
use Rattle.std.specs.Prelude.{◌≡◌, ℕ, ◌+◌, ◌^◌, ◌<◌, List, length, take, drop}
use Rattle.lmots.specs.declared.ots_type.OtsType.{OtsType}
use Rattle.lmots.specs.OtsType as one_time_type
use Rattle.lmots.specs.OneTime.{IsOfType, candidate}
use Rattle.lms_keys.specs.declared.public_key.PublicKey.{PublicKey}
use Rattle.lms_keys.specs.LmsType.{code, height, signature_len}
use Rattle.lms_keys.specs.PublicKey.{number_in}
use Rattle.lms_keys.specs.Tree.{climbed, leaf_value, sibling_in}

-- q: strTou32 of the first four bytes (RFC 8554, section 5.4.2)
abbrev pub leaf_in : List ℕ → ℕ
leaf_in s = number_in s 0

-- the one-time signature, right after q
abbrev pub one_time_in : OtsType → List ℕ → List ℕ
one_time_in ots s = take (one_time_type.signature_len ots) (drop 4 s)

-- the path, after the one-time signature and the type's code
abbrev pub path_in : OtsType → List ℕ → List ℕ
path_in ots s = drop (8 + one_time_type.signature_len ots) s

-- the value that stands at the root, if the leaf has this one-time key (RFC 8554, section 5.4.2,
-- algorithm 6a)
abbrev pub root_from : PublicKey → ℕ → List ℕ → List ℕ → List ℕ
root_from key q candidate path =
    climbed key.i (2 ^ height key.lms + q) (leaf_value key.i (2 ^ height key.lms + q) candidate)
    (sibling_in path) (height key.lms)

-- a good signature of the message for the key (RFC 8554, section 5.4.2): it has the key's length,
-- and so one block of 32 bytes for each chain and each level and nothing more; both type codes
-- are the key's; its leaf is one of the tree; and its path leads from the candidate key to the
-- root
pub record IsSignature (key : PublicKey) (message s : List ℕ) : Type 0 where
  pub long : length s ≡ signature_len key.lms key.ots
  pub one_time : IsOfType key.ots (one_time_in key.ots s)
  pub lms : number_in s (4 + one_time_type.signature_len key.ots) ≡ code key.lms
  pub leaf : leaf_in s < 2 ^ height key.lms
  pub root :
      root_from key (leaf_in s) (candidate key.ots key.i (leaf_in s) message (one_time_in key.ots s))
      (path_in key.ots s)
      ≡ key.root
