-- A key of one level or of two: what it is drawn from, its public bytes, and what it signs.
use Rattle.std.specs.Prelude.{◌≡◌, ℕ, ◌+◌, ◌/◌, ◌%◌, ◌^◌, List, ◌++◌, take, drop, Option, None, Some}
use Rattle.std.specs.Int.{w32, to_be_bytes}
use Rattle.lmots.specs.Chain.{private_element}
use Rattle.lms_keys.specs.LmsType as lms_type
use Rattle.lms_keys.specs.LmsType.{height}
use Rattle.lms_keys.specs.PublicKey.{key_bytes}
use Rattle.lms_keys.specs.Secret as one
use Rattle.lms_keys.specs.Signature.{leaf_in}
use Rattle.lms_keys.specs.declared.below.Below.{Below}

-- the key whose tree stands on top, and with two levels the types of the keys that its leaves sign
pub record Secret : Type 0 where
  pub top : one.Secret
  pub below : Option Below

abbrev pub height_below : Option Below → ℕ
height_below None = 0
height_below (Some below) = height below.lms

-- the key has 2 to this many leaves
abbrev pub height_of : Secret → ℕ
height_of secret = height secret.top.lms + height_below secret.below

-- the key that leaf t signs, from the identifier and the seed of the top key: both of its own are drawn as a chain's
-- start is (RFC 8554, appendix A), under numbers that no chain has
abbrev pub bottom_of : List ℕ → List ℕ → Below → ℕ → one.Secret
bottom_of i seed below t = record {
  lms = below.lms;
  ots = below.ots;
  i = take 16 (private_element i t 0xfffc seed);
  seed = private_element i t 0xfffb seed;
}

abbrev pub bytes_of : one.Secret → List ℕ
bytes_of key = key_bytes (one.public_key_of key)

abbrev pub public_by : one.Secret → Option Below → List ℕ
public_by top None = bytes_of top
public_by top (Some below) = to_be_bytes w32 2 ++ bytes_of top

-- the public key: of one level its 56 bytes, and of two u32str(2) before those of the top key (RFC 8554, section 6.1)
abbrev pub public_bytes : Secret → List ℕ
public_bytes secret = public_by secret.top secret.below

-- u32str(1), and the signed public key of the key below: leaf t's signature of it, and its bytes (RFC 8554, section
-- 6.2)
abbrev pub link_by : one.Secret → one.Secret → ℕ → List ℕ
link_by top last t = to_be_bytes w32 1 ++ one.signature top t (bytes_of last) ++ bytes_of last

abbrev pub link_of : one.Secret → Below → ℕ → List ℕ
link_of top below t = link_by top (bottom_of top.i top.seed below t) t

-- of one level the signature with leaf g, and of two the signed key of which g is a leaf, and its signature
abbrev pub signature_by : one.Secret → Option Below → ℕ → List ℕ → List ℕ
signature_by top None g message = one.signature top g message
signature_by top (Some below) g message =
    link_of top below (g / 2 ^ height below.lms)
    ++ one.signature (bottom_of top.i top.seed below (g / 2 ^ height below.lms)) (g % 2 ^ height below.lms) message

-- the signature of a message with leaf g
abbrev pub signature : Secret → ℕ → List ℕ → List ℕ
signature secret g message = signature_by secret.top secret.below g message

-- the bytes of a link
abbrev pub link_len : one.Secret → ℕ
link_len top = 4 + lms_type.signature_len top.lms top.ots + 56

abbrev pub length_by : one.Secret → Option Below → ℕ
length_by top None = lms_type.signature_len top.lms top.ots
length_by top (Some below) = link_len top + lms_type.signature_len below.lms below.ots

-- the bytes of each signature
abbrev pub signature_len : Secret → ℕ
signature_len secret = length_by secret.top secret.below

abbrev pub leaves_by : one.Secret → Option Below → ℕ → List ℕ → Type 0
leaves_by top None g s = leaf_in s ≡ g
leaves_by top (Some below) g s =
    (leaf_in (drop 4 s) ≡ g / 2 ^ height below.lms) × (leaf_in (drop (link_len top) s) ≡ g % 2 ^ height below.lms)

-- the leaves that a signature names are those of leaf g: of two levels, the first signature names the top key's, and
-- the
-- last the one below
abbrev pub HasLeaves : Secret → ℕ → List ℕ → Type 0
HasLeaves secret g s = leaves_by secret.top secret.below g s
