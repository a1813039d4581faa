-- The sizes of leaves and of the parts of a signature.
use Rattle.std.proofs.Common.{◌≡◌, ◌<◌, ◌+◌, ◌/◌, ◌%◌, ◌^◌, ℕ, List, ◌++◌, length, arith, length-append}
use Rattle.std.specs.Int.{w32, to_be_bytes}
use Rattle.std.proofs.lemmas.Nat.{pow-add}
use Rattle.lms_keys.specs.LmsType.{height, signature_len}
use Rattle.lms_keys.specs.Secret as one
use Rattle.lms_keys.specs.declared.lms_type.LmsType.{LmsType}
use Rattle.lms_keys.specs.declared.lms_type.LmsType.TheVariants.{H5, H10, H15, H20, H25}
use Rattle.lms_keys.proofs.Growing.{length-node}
use Rattle.lms_keys.proofs.OnBytes.{by_key}
use Rattle.lms_keys.proofs.Signing.{IsSignature-signature}
use Rattle.lms_keys.specs.SigOk.{LmsSigOk}
use Rattle.std.proofs.Common.{refl}
use Rattle.lms_keys.specs.HssSecret.{bytes_of, link_by, link_len}

-- leaf g of all stands below one of the top key's leaves
pub above_low : (a : ℕ) (lms : LmsType) (g : ℕ) → g < 2 ^ (a + height lms) → g / 2 ^ height lms < 2 ^ a
above_low a H5 g low = omega (arith, pow-add 2 a 5, low)
above_low a H10 g low = omega (arith, pow-add 2 a 10, low)
above_low a H15 g low = omega (arith, pow-add 2 a 15, low)
above_low a H20 g low = omega (arith, pow-add 2 a 20, low)
above_low a H25 g low = omega (arith, pow-add 2 a 25, low)

-- it is one of the leaves of the key there
pub below_low : (lms : LmsType) (g : ℕ) → g % 2 ^ height lms < 2 ^ height lms
below_low H5 g = omega arith
below_low H10 g = omega arith
below_low H15 g = omega arith
below_low H20 g = omega arith
below_low H25 g = omega arith

-- numbers of leaves have four bytes
pub leaf_small : (lms : LmsType) (q : ℕ) → q < 2 ^ height lms → q < 2 ^ 32
leaf_small H5 q low = omega (arith, low)
leaf_small H10 q low = omega (arith, low)
leaf_small H15 q low = omega (arith, low)
leaf_small H20 q low = omega (arith, low)
leaf_small H25 q low = omega (arith, low)

-- what a key signs is good by its bytes
pub lms_good : (key : one.Secret) (q : ℕ) (message : List ℕ) → length key.i ≡ 16 → q < 2 ^ height key.lms → LmsSigOk (bytes_of key) message (one.signature key q message)
lms_good key q message wide low =
    (by_key (one.public_key_of key) (bytes_of key) message (one.signature key q message) wide (length-node key.ots (height key.lms) key.i key.seed 1) refl).1
    (IsSignature-signature key q message low (leaf_small key.lms q low))

some : (lms : LmsType) → 0 < 2 ^ height lms
some H5 = omega arith
some H10 = omega arith
some H15 = omega arith
some H20 = omega arith
some H25 = omega arith

pub bytes_long : (key : one.Secret) → length key.i ≡ 16 → length (bytes_of key) ≡ 56
bytes_long key wide = (lms_good key 0 (bytes_of key) wide (some key.lms)).long

pub signature_long : (key : one.Secret) (q : ℕ) (message : List ℕ) → q < 2 ^ height key.lms → length (one.signature key q message) ≡ signature_len key.lms key.ots
signature_long key q message low = (IsSignature-signature key q message low (leaf_small key.lms q low)).long

pub link_long : (top last : one.Secret) (t : ℕ) → length last.i ≡ 16 → t < 2 ^ height top.lms → length (link_by top last t) ≡ link_len top
link_long top last t wide low =
    omega (
      arith,
      length-append (to_be_bytes w32 1 ++ one.signature top t (bytes_of last)) (bytes_of last),
      length-append (to_be_bytes w32 1) (one.signature top t (bytes_of last)),
      signature_long top t (bytes_of last) low,
      bytes_long last wide,
    )
