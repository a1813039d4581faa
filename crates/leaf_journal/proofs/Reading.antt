-- What the first bytes of a file tell of its header.
use Rattle.std.proofs.Common.{◌≡◌, ◌<◌, ◌≤◌, ◌+◌, ℕ, Bool, true, false, List, ◌++◌, length, take, drop, sym, ap, ◌∙◌, subst, arith, length-take}
use Rattle.std.specs.Prelude.{Option, None, Some, Result, Ok, Err, IfOk, codes}
use Rattle.std.proofs.lemmas.List.{take_all, take_at}
use Rattle.lms_keys.specs.LmsType.{height}
use Rattle.lms_keys.specs.Secret as one
use Rattle.lms_keys.specs.HssSecret.{height_below}
use Rattle.lms_keys.specs.declared.below.Below.{Below}
use Rattle.leaf_journal.specs.KeyFile.{HasBelow, HasNoHeader, HasTop, IsHeader, magic_of, start_of}
use Rattle.leaf_journal.specs.Loading.{Begins, magic_for, secret_with}
use Rattle.leaf_journal.specs.declared.headers.Header.{Header}
use Rattle.leaf_journal.proofs.Fronts.{below_moves, one_below, one_top, take_less, top_moves}

-- what was read from the front of a file
front_read : (out file : List ℕ) (n k : ℕ) → length out ≡ k → out ≡ take n (drop 0 file) → take k out ≡ take k file
front_read out file n k long read =
    let size : length out ≡ length (take n file) = ap (λ (l : List ℕ). length l) read in
    take_less k n out file (omega (arith, long, size, length-take n file)) (take_all n out (omega (arith, size, length-take n file)) ∙ read)

pub begins_short : (out rest file : List ℕ) (n : ℕ) → length out ≡ 64 → out ≡ take n (drop 0 file) → length file < 72 → Begins (out ++ rest) file
begins_short out rest file n long read short = record {
  top = take_at out rest 64 long ∙ sym (take_all 64 out (omega (arith, long))) ∙ front_read out file n 64 long read;
  below = λ many. absurd (omega (arith, many, short));
}

pub begins_long : (out file : List ℕ) (n : ℕ) → length out ≡ 72 → out ≡ take n (drop 0 file) → Begins out file
begins_long out file n long read =
    let same : take 72 out ≡ take 72 file = front_read out file n 72 long read in
    record { top = take_less 64 72 out file (omega arith) same; below = λ many. same }

-- less is said of what was read
pub if_ok : {T E : Type 0} (result : Result T E) (P Q : T → Type 0) → ((x : T) → P x → Q x) → IfOk result P → IfOk result Q
if_ok (Ok x) P Q from is = from x is
if_ok (Err e) P Q from is = tt

module _ (head file : List ℕ) (begins : Begins head file) where
  below_back : (below : Option Below) → start_of below ≤ length file → HasBelow file below → HasBelow head below
  below_back None long is = tt
  below_back (Some below) long is = below_moves file head (Some below) (sym (begins.below long)) is

  below_on : (below : Option Below) → start_of below ≤ length file → HasBelow head below → HasBelow file below
  below_on None long is = tt
  below_on (Some below) long is = below_moves head file (Some below) (begins.below long) is

  magic_same : take 8 head ≡ take 8 file
  magic_same = take_less 8 64 head file (omega arith) begins.top

  no_top_by : ((two : Bool) (top : one.Secret) → HasTop (magic_for two) head top → ⊥) → (below : Option Below) (top : one.Secret) → HasTop (magic_of below) file top → ⊥
  no_top_by none None top is = none false top (top_moves (codes "LMSKEY01") file head top (sym begins.top) is)
  no_top_by none (Some below) top is = none true top (top_moves (codes "LMSKEY02") file head top (sym begins.top) is)

  -- the first 64 bytes begin no header
  pub no_top : ((two : Bool) (top : one.Secret) → HasTop (magic_for two) head top → ⊥) → 64 ≤ length file → HasNoHeader file
  no_top none long = record { long = long; none = λ secret is. no_top_by none secret.below secret.top is.top }

  -- the keys below are not told
  pub no_below : (two : Bool) (top : one.Secret) → HasTop (magic_for two) head top
      → ((below : Option Below) → magic_of below ≡ magic_for two → start_of below ≤ length file → HasBelow head below → ⊥) → 64 ≤ length file → HasNoHeader file
  no_below two top is none long = record {
    long = long;
    none = λ secret header. none secret.below (sym header.top.magic_is ∙ sym magic_same ∙ is.magic_is) header.long (below_back secret.below header.long header.below);
  }

  module _ (two : Bool) (header : Header) (i seed : List ℕ) (top : HasTop (magic_for two) head (record { lms = header.lms; ots = header.ots; i = i; seed = seed }))
      (magic : magic_of header.below ≡ magic_for two) (long : start_of header.below ≤ length file) (below : HasBelow head header.below) where
    top_here : HasTop (magic_of header.below) file (record { lms = header.lms; ots = header.ots; i = i; seed = seed })
    top_here = subst (λ (m : List ℕ). HasTop m file (record { lms = header.lms; ots = header.ots; i = i; seed = seed })) (sym magic) (top_moves (magic_for two) head file (record { lms = header.lms; ots = header.ots; i = i; seed = seed }) begins.top top)

    pub header_is : height header.lms + height_below header.below ≤ 15 → IsHeader file (secret_with header i seed)
    header_is low = record { long = long; top = top_here; below = below_on header.below long below; low = low }

    -- the heights add up to more
    pub too_tall : 15 < height header.lms + height_below header.below → 64 ≤ length file → HasNoHeader file
    too_tall tall some = record {
      long = some;
      none = λ secret is.
          let same : secret.top ≡ record { lms = header.lms; ots = header.ots; i = i; seed = seed } = one_top (magic_of secret.below) (magic_of header.below) file secret.top (record { lms = header.lms; ots = header.ots; i = i; seed = seed }) is.top top_here in
          let alike : secret.below ≡ header.below = one_below file secret.below header.below (sym is.top.magic_is ∙ top_here.magic_is) is.below (below_on header.below long below) in
          let high : height secret.top.lms ≡ height header.lms = ap (λ (s : one.Secret). height s.lms) same in
          let deep : height_below secret.below ≡ height_below header.below = ap height_below alike in
          omega (arith, is.low, tall, high, deep);
    }
