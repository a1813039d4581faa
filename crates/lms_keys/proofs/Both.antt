-- What a key of one level or of two signs is good by its public bytes.
use Rattle.std.proofs.Common.{◌≡◌, ◌<◌, ◌+◌, ◌/◌, ◌%◌, ◌^◌, ℕ, List, ◌++◌, length, take, drop, inl, inr, refl, sym, ap, ◌∙◌, subst, arith, append_assoc, length-take}
use Rattle.std.specs.Prelude.{Option, None, Some}
use Rattle.std.specs.Int.{w32, to_be_bytes}
use Rattle.std.proofs.lemmas.List.{drop_at, take_at}
use Rattle.std.proofs.lemmas.Nat.{from_be_bytes-to_be_bytes_4}
use Rattle.sha2.proofs.Facts256.{length-sha256}
use Rattle.lmots.specs.Chain.{private_element}
use Rattle.lms_keys.specs.LmsType.{height}
use Rattle.lms_keys.specs.Secret as one
use Rattle.lms_keys.specs.SigOk.{SigOk}
use Rattle.lms_keys.specs.Signature.{leaf_in}
use Rattle.lms_keys.proofs.Levels.{joins, none_signed}
use Rattle.lms_keys.specs.Laws.{OneLink}
use Rattle.lms_keys.specs.HssSecret.{HasLeaves, Secret, bottom_of, bytes_of, height_below, height_of, leaves_by, link_by, link_len, public_by, public_bytes, signature, signature_by}
use Rattle.lms_keys.specs.declared.below.Below.{Below}
use Rattle.lms_keys.proofs.Sizes.{above_low, below_low, leaf_small, link_long, lms_good}

bottom_wide : (i seed : List ℕ) (below : Below) (t : ℕ) → length (bottom_of i seed below t).i ≡ 16
bottom_wide i seed below t =
    let long : length (private_element i t 0xfffc seed) ≡ 32 = length-sha256 _ in
    omega (arith, length-take 16 (private_element i t 0xfffc seed), long)

one_level : (top : one.Secret) → height top.lms + 0 ≡ height top.lms
one_level top = omega arith

both_good : (top last : one.Secret) (t q : ℕ) (message : List ℕ) → length top.i ≡ 16 → length last.i ≡ 16 → t < 2 ^ height top.lms → q < 2 ^ height last.lms
    → SigOk (to_be_bytes w32 2 ++ bytes_of top) message (link_by top last t ++ one.signature last q message)
both_good top last t q message wide wide_too low low_too =
    let link : List ℕ = one.signature top t (bytes_of last) in
    let below : List ℕ = one.signature last q message in
    inr (record {
      levels = 2;
      some = omega arith;
      few = omega arith;
      first = bytes_of top;
      rest = link ++ (bytes_of last ++ below);
      key = refl;
      spelled = append_assoc (to_be_bytes w32 1 ++ link) (bytes_of last) below ∙ append_assoc (to_be_bytes w32 1) link (bytes_of last ++ below);
      signed = joins 0 (bytes_of top) message (link ++ (bytes_of last ++ below)) (record {
        link = link;
        next = bytes_of last;
        below = below;
        spelled = refl;
        good = lms_good top t (bytes_of last) wide low;
        signed = (none_signed (bytes_of last) message below).1 (lms_good last q message wide_too low_too);
      });
    })

good_by : (top : one.Secret) (below : Option Below) (g : ℕ) (message : List ℕ) → length top.i ≡ 16 → g < 2 ^ (height top.lms + height_below below)
    → SigOk (public_by top below) message (signature_by top below g message)
good_by top None g message wide low = inl (lms_good top g message wide (subst (λ (h : ℕ). g < 2 ^ h) (one_level top) low))
good_by top (Some below) g message wide low =
    both_good top (bottom_of top.i top.seed below (g / 2 ^ height below.lms)) (g / 2 ^ height below.lms) (g % 2 ^ height below.lms) message
    wide (bottom_wide top.i top.seed below (g / 2 ^ height below.lms)) (above_low (height top.lms) below.lms g low) (below_low below.lms g)

pub good : (secret : Secret) (g : ℕ) (message : List ℕ) → length secret.top.i ≡ 16 → g < 2 ^ height_of secret → SigOk (public_bytes secret) message (signature secret g message)
good secret g message wide low = good_by secret.top secret.below g message wide low

-- a signature begins with its leaf
leaf_first : (key : one.Secret) (q : ℕ) (message rest : List ℕ) → q < 2 ^ height key.lms → leaf_in (one.signature key q message ++ rest) ≡ q
leaf_first key q message rest low = from_be_bytes-to_be_bytes_4 q (leaf_small key.lms q low)

leaf_alone : (key : one.Secret) (q : ℕ) (message : List ℕ) → q < 2 ^ height key.lms → leaf_in (one.signature key q message) ≡ q
leaf_alone key q message low = from_be_bytes-to_be_bytes_4 q (leaf_small key.lms q low)

has_leaves_by : (top : one.Secret) (below : Option Below) (g : ℕ) (message : List ℕ) → g < 2 ^ (height top.lms + height_below below)
    → leaves_by top below g (signature_by top below g message)
has_leaves_by top None g message low = leaf_alone top g message (subst (λ (h : ℕ). g < 2 ^ h) (one_level top) low)
has_leaves_by top (Some below) g message low =
    let t : ℕ = g / 2 ^ height below.lms in
    let last : one.Secret = bottom_of top.i top.seed below t in
    let link : List ℕ = one.signature top t (bytes_of last) in
    let end : List ℕ = one.signature last (g % 2 ^ height below.lms) message in
    let inside : t < 2 ^ height top.lms = above_low (height top.lms) below.lms g low in
    let wide : length last.i ≡ 16 = bottom_wide top.i top.seed below t in
    let grouped : link_by top last t ++ end ≡ to_be_bytes w32 1 ++ (link ++ (bytes_of last ++ end)) =
    append_assoc (to_be_bytes w32 1 ++ link) (bytes_of last) end ∙ append_assoc (to_be_bytes w32 1) link (bytes_of last ++ end) in
    let first : leaf_in (drop 4 (link_by top last t ++ end)) ≡ t =
    ap (λ (l : List ℕ). leaf_in (drop 4 l)) grouped ∙ leaf_first top t (bytes_of last) (bytes_of last ++ end) inside in
    let second : leaf_in (drop (link_len top) (link_by top last t ++ end)) ≡ g % 2 ^ height below.lms =
    ap leaf_in (drop_at (link_by top last t) end (link_len top) (link_long top last t wide inside)) ∙ leaf_alone last (g % 2 ^ height below.lms) message (below_low below.lms g) in
    (first, second)

pub has_leaves : (secret : Secret) (g : ℕ) (message : List ℕ) → g < 2 ^ height_of secret → HasLeaves secret g (signature secret g message)
has_leaves secret g message low = has_leaves_by secret.top secret.below g message low

pub one_link : OneLink
one_link top below g k m n low same =
    let hb : ℕ = height below.lms in
    let begins : (j : ℕ) (message : List ℕ) → g / 2 ^ hb ≡ j / 2 ^ hb
    → take (link_len top) (signature_by top (Some below) j message) ≡ link_by top (bottom_of top.i top.seed below (g / 2 ^ hb)) (g / 2 ^ hb) =
    λ j message is.
    ap (λ (t : ℕ). take (link_len top) (link_by top (bottom_of top.i top.seed below t) t ++ one.signature (bottom_of top.i top.seed below t) (j % 2 ^ hb) message)) (sym is)
    ∙ take_at (link_by top (bottom_of top.i top.seed below (g / 2 ^ hb)) (g / 2 ^ hb)) (one.signature (bottom_of top.i top.seed below (g / 2 ^ hb)) (j % 2 ^ hb) message) (link_len top)
    (link_long top (bottom_of top.i top.seed below (g / 2 ^ hb)) (g / 2 ^ hb) (bottom_wide top.i top.seed below (g / 2 ^ hb)) low) in
    (begins g m refl, begins k n same)
