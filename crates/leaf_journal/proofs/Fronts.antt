-- Files that begin with the same bytes have the same header.
use Rattle.std.proofs.Common.{◌≡◌, ◌<◌, ◌≤◌, ◌+◌, ℕ, List, length, take, drop, get_or, refl, sym, ap, ◌∙◌, arith, length-take, cond}
use Rattle.std.specs.Prelude.{◌==◌, Option, None, Some, codes, if◌then◌else◌}
use Rattle.std.specs.Int.{w32, from_be_bytes}
use Rattle.std.specs.Str.{bytes_eq}
use Rattle.std.proofs.lemmas.List.{drop-take, ext_get_or, get_or-take}
use Rattle.lmots.specs.OtsType as one_time
use Rattle.lmots.specs.declared.ots_type.OtsType.{OtsType}
use Rattle.lmots.specs.declared.ots_type.OtsType.TheVariants.{W1, W2, W4, W8}
use Rattle.lms_keys.specs.LmsType.{code}
use Rattle.lms_keys.specs.PublicKey.{number_in}
use Rattle.lms_keys.specs.Secret as one
use Rattle.lms_keys.specs.declared.lms_type.LmsType.{LmsType}
use Rattle.lms_keys.specs.declared.lms_type.LmsType.TheVariants.{H5, H10, H15, H20, H25}
use Rattle.lms_keys.specs.HssSecret.{Secret}
use Rattle.lms_keys.specs.declared.below.Below.{Below}
use Rattle.leaf_journal.specs.KeyFile.{HasBelow, HasTop, IsHeader, IsKeyFile, magic_of, start_in, start_of}

-- ---- the same bytes at the front
pub take_less : (m n : ℕ) (a b : List ℕ) → m ≤ n → take n a ≡ take n b → take m a ≡ take m b
take_less m n a b less same =
    let long : length (take n a) ≡ length (take n b) = ap (λ (l : List ℕ). length l) same in
    ext_get_or 0 (take m a) (take m b) (omega (arith, less, long, length-take n a, length-take n b, length-take m a, length-take m b)) (λ i low.
    let below : i < m = omega (arith, low, length-take m a) in
    let inside : i < n = omega (arith, below, less) in
    get_or-take m a i 0 below ∙ sym (get_or-take n a i 0 inside) ∙ ap (λ (l : List ℕ). get_or l i 0) same ∙ get_or-take n b i 0 inside ∙ sym (get_or-take m b i 0 below))

piece : (n at k : ℕ) (a b : List ℕ) → at + k ≤ n → take n a ≡ take n b → take k (drop at a) ≡ take k (drop at b)
piece n at k a b less same = sym (drop-take at k a) ∙ ap (drop at) (take_less (at + k) n a b less same) ∙ drop-take at k b

number_same : (n at : ℕ) (a b : List ℕ) → at + 4 ≤ n → take n a ≡ take n b → number_in a at ≡ number_in b at
number_same n at a b less same = ap (from_be_bytes w32) (piece n at 4 a b less same)

pub top_moves : (magic a b : List ℕ) (top : one.Secret) → take 64 a ≡ take 64 b → HasTop magic a top → HasTop magic b top
top_moves magic a b top same is = record {
  magic_is = sym (take_less 8 64 a b (omega arith) same) ∙ is.magic_is;
  lms = sym (number_same 64 8 a b (omega arith) same) ∙ is.lms;
  ots = sym (number_same 64 12 a b (omega arith) same) ∙ is.ots;
  i = sym (piece 64 16 16 a b (omega arith) same) ∙ is.i;
  seed = sym (piece 64 32 32 a b (omega arith) same) ∙ is.seed;
}

pub below_moves : (a b : List ℕ) (below : Option Below) → take (start_of below) a ≡ take (start_of below) b → HasBelow a below → HasBelow b below
below_moves a b None same is = tt
below_moves a b (Some below) same is = (
  sym (number_same 72 64 a b (omega arith) same) ∙ is.0,
  sym (number_same 72 68 a b (omega arith) same) ∙ is.1,
)

pub start_least : (below : Option Below) → 64 ≤ start_of below
start_least None = omega arith
start_least (Some below) = omega arith

pub header_moves : (a b : List ℕ) (secret : Secret) → take (start_of secret.below) a ≡ take (start_of secret.below) b → start_of secret.below ≤ length b → IsHeader a secret → IsHeader b secret
header_moves a b secret same long is = record {
  long = long;
  top = top_moves (magic_of secret.below) a b secret.top (take_less 64 (start_of secret.below) a b (start_least secret.below) same) is.top;
  below = below_moves a b secret.below same is.below;
  low = is.low;
}

-- ---- where leaves begin
start_by : (below : Option Below) (magic : List ℕ) → magic ≡ magic_of below → (if bytes_eq magic (codes "LMSKEY02") then 72 else 64) ≡ start_of below
start_by None magic same = ap (λ (m : List ℕ). if bytes_eq m (codes "LMSKEY02") then 72 else 64) same
start_by (Some below) magic same = ap (λ (m : List ℕ). if bytes_eq m (codes "LMSKEY02") then 72 else 64) same

pub start_is : (file : List ℕ) (secret : Secret) → IsHeader file secret → start_in file ≡ start_of secret.below
start_is file secret is = start_by secret.below (take 8 file) is.top.magic_is

pub start_same : (a b : List ℕ) → take 8 a ≡ take 8 b → start_in a ≡ start_in b
start_same a b same = ap (λ (m : List ℕ). if bytes_eq m (codes "LMSKEY02") then 72 else 64) same

-- ---- one key has a header
lms_by : ℕ → LmsType
lms_by n = cond (n == 5) H5 (cond (n == 6) H10 (cond (n == 7) H15 (cond (n == 8) H20 H25)))

lms_by-code : (t : LmsType) → lms_by (code t) ≡ t
unfolding lms_by
lms_by-code H5 = refl
lms_by-code H10 = refl
lms_by-code H15 = refl
lms_by-code H20 = refl
lms_by-code H25 = refl

ots_by : ℕ → OtsType
ots_by n = cond (n == 1) W1 (cond (n == 2) W2 (cond (n == 3) W4 W8))

ots_by-code : (t : OtsType) → ots_by (one_time.code t) ≡ t
unfolding ots_by
ots_by-code W1 = refl
ots_by-code W2 = refl
ots_by-code W4 = refl
ots_by-code W8 = refl

one_lms : (n : ℕ) (a b : LmsType) → n ≡ code a → n ≡ code b → a ≡ b
one_lms n a b is other = sym (lms_by-code a) ∙ ap lms_by (sym is ∙ other) ∙ lms_by-code b

one_ots : (n : ℕ) (a b : OtsType) → n ≡ one_time.code a → n ≡ one_time.code b → a ≡ b
one_ots n a b is other = sym (ots_by-code a) ∙ ap ots_by (sym is ∙ other) ∙ ots_by-code b

pub one_top : (m n file : List ℕ) (a b : one.Secret) → HasTop m file a → HasTop n file b → a ≡ b
one_top m n file a b is other =
    let lms : a.lms ≡ b.lms = one_lms (number_in file 8) a.lms b.lms is.lms other.lms in
    let ots : a.ots ≡ b.ots = one_ots (number_in file 12) a.ots b.ots is.ots other.ots in
    let i : a.i ≡ b.i = sym is.i ∙ other.i in
    let seed : a.seed ≡ b.seed = sym is.seed ∙ other.seed in
    λ j. record { lms = lms j; ots = ots j; i = i j; seed = seed j }

-- the two magics differ
last_of : List ℕ → ℕ
last_of magic = get_or magic 7 0

differ : codes "LMSKEY01" ≡ codes "LMSKEY02" → ⊥
differ same = (let last : ◌≡◌ {A = ℕ} (get_or (codes "LMSKEY01") 7 0) (get_or (codes "LMSKEY02") 7 0) = ap (λ (l : List ℕ). get_or l 7 0) same in omega (arith, last))

pub one_below : (file : List ℕ) (a b : Option Below) → magic_of a ≡ magic_of b → HasBelow file a → HasBelow file b → a ≡ b
one_below file None None same is other = refl
one_below file None (Some b) same is other = absurd (differ same)
one_below file (Some a) None same is other = absurd (differ (sym same))
one_below file (Some a) (Some b) same is other =
    let lms : a.lms ≡ b.lms = one_lms (number_in file 64) a.lms b.lms is.0 other.0 in
    let ots : a.ots ≡ b.ots = one_ots (number_in file 68) a.ots b.ots is.1 other.1 in
    λ j. Some (record { lms = lms j; ots = ots j })

-- a file has the header of one key at most
pub one_header : (file : List ℕ) (a b : Secret) → IsHeader file a → IsHeader file b → a ≡ b
one_header file a b is other =
    let top : a.top ≡ b.top = one_top (magic_of a.below) (magic_of b.below) file a.top b.top is.top other.top in
    let below : a.below ≡ b.below = one_below file a.below b.below (sym is.top.magic_is ∙ other.top.magic_is) is.below other.below in
    λ j. record { top = top j; below = below j }

pub one_key : (file : List ℕ) (a b : Secret) → IsKeyFile file a → IsKeyFile file b → a ≡ b
one_key file a b is other = one_header file a b is.header other.header
