-- How many bytes a signature has, as the codes tell with which its key begins.
use Rattle.std.proofs.Common.{◌≡◌, ◌==◌, ◌≤◌, ℕ, List, ◌++◌, length, drop, Option, Some, refl, sym, ap, ◌∙◌, arith, append_assoc}
use Rattle.std.specs.Prelude.{option_and_then, unwrap_or}
use Rattle.std.specs.Int.{w32, to_be_bytes}
use Rattle.std.specs.List.{find}
use Rattle.std.specs.Option.{option_map}
use Rattle.std.proofs.lemmas.List.{drop_at}
use Rattle.lmots.specs.OtsType as one_time
use Rattle.lmots.specs.declared.ots_type.OtsType.{OtsType}
use Rattle.lmots.specs.declared.ots_type.OtsType.TheVariants.{W1, W2, W4, W8}
use Rattle.lms_keys.specs.Deciding.{lms_types, one_time_types}
use Rattle.lms_keys.specs.LmsType.{code, signature_len}
use Rattle.lms_keys.specs.PublicKey.{key_bytes, number_in}
use Rattle.lms_keys.specs.SigOk.{LmsSigOk}
use Rattle.lms_keys.specs.declared.lms_type.LmsType.{LmsType}
use Rattle.lms_keys.specs.declared.lms_type.LmsType.TheVariants.{H5, H10, H15, H20, H25}
use Rattle.lms_keys.specs.declared.public_key.PublicKey.{PublicKey}
use Rattle.lms_keys.proofs.Levels.{spelled-number}
use Rattle.lms_keys.proofs.SameKey.{code_small, ots_code_small}
use Rattle.evidence.specs.Uses.{len_by, len_with}

lms_found : (lms : LmsType) → find (λ (t : LmsType). code t == code lms) lms_types ≡ Some lms
lms_found H5 = refl
lms_found H10 = refl
lms_found H15 = refl
lms_found H20 = refl
lms_found H25 = refl

ots_found : (ots : OtsType) → find (λ (t : OtsType). one_time.code t == one_time.code ots) one_time_types ≡ Some ots
ots_found W1 = refl
ots_found W2 = refl
ots_found W4 = refl
ots_found W8 = refl

len_found : (lms : LmsType) (ots : OtsType) → len_with (code lms) (one_time.code ots) ≡ signature_len lms ots
len_found lms ots =
    ap (λ (x : Option LmsType). unwrap_or (option_and_then (λ (l : LmsType). option_map (signature_len l) (find (λ (t : OtsType). one_time.code t == one_time.code ots) one_time_types)) x) 0) (lms_found lms)
    ∙ ap (λ (x : Option OtsType). unwrap_or (option_map (signature_len lms) x) 0) (ots_found ots)

pub four_long : (n : ℕ) → length (to_be_bytes w32 n) ≡ 4
four_long n = refl

grouped : (key : PublicKey) → key_bytes key ≡ to_be_bytes w32 (code key.lms) ++ (to_be_bytes w32 (one_time.code key.ots) ++ (key.i ++ key.root))
grouped key =
    append_assoc (to_be_bytes w32 (code key.lms) ++ to_be_bytes w32 (one_time.code key.ots)) key.i key.root
    ∙ append_assoc (to_be_bytes w32 (code key.lms)) (to_be_bytes w32 (one_time.code key.ots)) (key.i ++ key.root)

lms_in : (key : PublicKey) → number_in (key_bytes key) 0 ≡ code key.lms
lms_in key = spelled-number (code key.lms) (key_bytes key) (to_be_bytes w32 (one_time.code key.ots) ++ (key.i ++ key.root)) (code_small key.lms) (grouped key)

ots_in : (key : PublicKey) → number_in (key_bytes key) 4 ≡ one_time.code key.ots
ots_in key =
    let tail : List ℕ = to_be_bytes w32 (one_time.code key.ots) ++ (key.i ++ key.root) in
    let cut : drop 4 (key_bytes key) ≡ tail = ap (drop 4) (grouped key) ∙ drop_at (to_be_bytes w32 (code key.lms)) tail 4 (four_long (code key.lms)) in
    spelled-number (one_time.code key.ots) (drop 4 (key_bytes key)) (key.i ++ key.root) (ots_code_small key.ots) cut

pub key_len : (key : PublicKey) → len_by (key_bytes key) ≡ signature_len key.lms key.ots
key_len key =
    ap (λ (c : ℕ). len_with c (number_in (key_bytes key) 4)) (lms_in key)
    ∙ ap (len_with (code key.lms)) (ots_in key)
    ∙ len_found key.lms key.ots

pub signature_long : (public message s : List ℕ) → LmsSigOk public message s → length s ≡ len_by public
signature_long public message s ok = ok.good.long ∙ sym (key_len ok.key) ∙ ap len_by (sym ok.written)

pub four_within : (public message s : List ℕ) → LmsSigOk public message s → 4 ≤ length s
four_within public message s ok = omega (arith, ok.good.long)
