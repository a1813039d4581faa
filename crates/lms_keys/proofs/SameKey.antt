-- The bytes of a public key fix the key.
use Rattle.std.proofs.Common.{◌≡◌, ℕ, ◌^◌, ◌<◌, ◌==◌, cond, ◌++◌, take, drop, sym, ◌∙◌, ap, refl, lit<}
use Rattle.std.specs.Int.{w32, from_be_bytes}
use Rattle.std.proofs.lemmas.Nat.{from_be_bytes-to_be_bytes_4}
use Rattle.std.proofs.lemmas.List.{drop_at, take_at}
use Rattle.lmots.specs.declared.ots_type.OtsType.{OtsType}
use Rattle.lmots.specs.declared.ots_type.OtsType.TheVariants.{W1, W2, W4, W8}
use Rattle.lmots.specs.OtsType as one_time
use Rattle.lms_keys.specs.declared.lms_type.LmsType.{LmsType}
use Rattle.lms_keys.specs.declared.lms_type.LmsType.TheVariants.{H5, H10, H15, H20, H25}
use Rattle.lms_keys.specs.LmsType.{code}
use Rattle.lms_keys.specs.PublicKey.{OneKey}

-- the type with a code
lms_with : ℕ → LmsType
lms_with n = cond (n == 5) H5 (cond (n == 6) H10 (cond (n == 7) H15 (cond (n == 8) H20 H25)))

ots_with : ℕ → OtsType
ots_with n = cond (n == 1) W1 (cond (n == 2) W2 (cond (n == 3) W4 W8))

lms_with-code : (lms : LmsType) → lms_with (code lms) ≡ lms
unfolding lms_with
lms_with-code H5 = refl
lms_with-code H10 = refl
lms_with-code H15 = refl
lms_with-code H20 = refl
lms_with-code H25 = refl

ots_with-code : (ots : OtsType) → ots_with (one_time.code ots) ≡ ots
unfolding ots_with
ots_with-code W1 = refl
ots_with-code W2 = refl
ots_with-code W4 = refl
ots_with-code W8 = refl

pub code_small : (lms : LmsType) → code lms < 2 ^ 32
code_small H5 = lit< tt
code_small H10 = lit< tt
code_small H15 = lit< tt
code_small H20 = lit< tt
code_small H25 = lit< tt

pub ots_code_small : (ots : OtsType) → one_time.code ots < 2 ^ 32
ots_code_small W1 = lit< tt
ots_code_small W2 = lit< tt
ots_code_small W4 = lit< tt
ots_code_small W8 = lit< tt

pub one_key : OneKey
one_key a b long long_too same =
    let lms_code : code a.lms ≡ code b.lms =
    sym (from_be_bytes-to_be_bytes_4 (code a.lms) (code_small a.lms))
    ∙ ap (λ l. from_be_bytes w32 (take 4 l)) same
    ∙ from_be_bytes-to_be_bytes_4 (code b.lms) (code_small b.lms) in
    let ots_code : one_time.code a.ots ≡ one_time.code b.ots =
    sym (from_be_bytes-to_be_bytes_4 (one_time.code a.ots) (ots_code_small a.ots))
    ∙ ap (λ l. from_be_bytes w32 (take 4 (drop 4 l))) same
    ∙ from_be_bytes-to_be_bytes_4 (one_time.code b.ots) (ots_code_small b.ots) in
    let rest : a.i ++ a.root ≡ b.i ++ b.root = ap (drop 8) same in
    let same_lms : a.lms ≡ b.lms = sym (lms_with-code a.lms) ∙ ap lms_with lms_code ∙ lms_with-code b.lms in
    let same_ots : a.ots ≡ b.ots = sym (ots_with-code a.ots) ∙ ap ots_with ots_code ∙ ots_with-code b.ots in
    let same_i : a.i ≡ b.i = sym (take_at a.i a.root 16 long) ∙ ap (take 16) rest ∙ take_at b.i b.root 16 long_too in
    let same_root : a.root ≡ b.root = sym (drop_at a.i a.root 16 long) ∙ ap (drop 16) rest ∙ drop_at b.i b.root 16 long_too in
    λ t. record { lms = same_lms t; ots = same_ots t; i = same_i t; root = same_root t }
