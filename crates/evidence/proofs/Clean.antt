-- Signatures with two leaves that one key run released use no leaf of one key for two messages.
use Rattle.std.proofs.Common.{◌≡◌, ◌==◌, ◌&&◌, ◌||◌, ◌<◌, ◌≤◌, ◌+◌, ◌/◌, ◌%◌, ◌^◌, ℕ, suc, zero, Bool, true, false, cond, not, List, [], ◌∷◌, ◌++◌, length, take, drop, Option, Some, None, refl, sym, ap, ◌∙◌, inl, inr, arith, length-drop, length-take}
use Rattle.std.specs.Prelude.{slice_get}
use Rattle.std.specs.List.{AllByRecursion, find, list_any}
use Rattle.std.specs.Option.{option_map}
use Rattle.std.specs.Str.{bytes_eq}
use Rattle.std.proofs.lemmas.Bool.{cases_eq, ne_eqb}
use Rattle.std.proofs.lemmas.List.{drop_at}
use Rattle.std.proofs.lemmas.Slice.Eq.{bytes_eq-Decides}
use Rattle.sha2.proofs.Facts256.{length-sha256}
use Rattle.lmots.specs.Chain.{private_element}
use Rattle.lms_keys.specs.LmsType.{height}
use Rattle.lms_keys.specs.Secret as one
use Rattle.lms_keys.specs.Signature.{leaf_in}
use Rattle.lms_keys.specs.declared.lms_type.LmsType.{LmsType}
use Rattle.lms_keys.specs.declared.lms_type.LmsType.TheVariants.{H5, H10, H15, H20, H25}
use Rattle.lms_keys.specs.HssSecret.{bottom_of, bytes_of, height_below, leaves_by, link_by, link_len, public_by, signature_by}
use Rattle.lms_keys.specs.declared.below.Below.{Below}
use Rattle.lms_keys.proofs.Sizes.{above_low, link_long}
use Rattle.leaf_journal.specs.KeyFile.{start_of}
use Rattle.leaf_journal.specs.Runs.{IsAmong, NoneTwice, released_in}
use Rattle.leaf_journal.proofs.Once.{once}
use Rattle.evidence.specs.Honest.{DifferBelow, HonestClean}
use Rattle.evidence.specs.Uses.{Use, is_reuse, reuse_of, uses}
use Rattle.evidence.proofs.Using.{one_use, two_uses}

-- ---- no reuse
and_false : (b : Bool) → (b && false) ≡ false
and_false true = refl
and_false false = refl

other_bytes : (a b : List ℕ) → (a ≡ b → ⊥) → bytes_eq a b ≡ false
other_bytes a b other = by_test (bytes_eq a b) refl where
  by_test : (c : Bool) → bytes_eq a b ≡ c → c ≡ false
  by_test true is = absurd (other ((bytes_eq-Decides a b).0 is))
  by_test false is = refl

other_key : (u v : Use) → (u.key ≡ v.key → ⊥) → is_reuse u v ≡ false
other_key u v other = ap (λ (b : Bool). b && (u.leaf == v.leaf && not (bytes_eq u.message v.message))) (other_bytes u.key v.key other)

other_leaf : (u v : Use) → (u.leaf ≡ v.leaf → ⊥) → is_reuse u v ≡ false
other_leaf u v other =
    ap (λ (b : Bool). bytes_eq u.key v.key && (b && not (bytes_eq u.message v.message))) (ne_eqb u.leaf v.leaf other) ∙ and_false (bytes_eq u.key v.key)

same_message : (u v : Use) → u.message ≡ v.message → is_reuse u v ≡ false
same_message u v same =
    ap (λ (b : Bool). bytes_eq u.key v.key && (u.leaf == v.leaf && not b)) ((bytes_eq-Decides u.message v.message).1 same)
    ∙ ap (λ (b : Bool). bytes_eq u.key v.key && b) (and_false (u.leaf == v.leaf)) ∙ and_false (bytes_eq u.key v.key)

any_false : (f : Use → Bool) (vs : List Use) → AllByRecursion (λ v. f v ≡ false) vs → list_any f vs ≡ false
any_false f [] all = refl
any_false f (v ∷ vs) all = ap (λ (b : Bool). b || list_any f vs) all.0 ∙ any_false f vs all.1

find_none : (f : Use → Bool) (us : List Use) → AllByRecursion (λ u. f u ≡ false) us → find f us ≡ None
find_none f [] all = refl
find_none f (u ∷ us) all = ap (λ (b : Bool). cond b (Some u) (find f us)) all.0 ∙ find_none f us all.1

none_reused : (us vs : List Use) → AllByRecursion (λ u. AllByRecursion (λ v. is_reuse u v ≡ false) vs) us → reuse_of us vs ≡ None
none_reused us vs all = ap (option_map (λ (u : Use). u.leaf)) (find_none (λ u. list_any (is_reuse u) vs) us (each us all)) where
  each : (us : List Use) → AllByRecursion (λ u. AllByRecursion (λ v. is_reuse u v ≡ false) vs) us → AllByRecursion (λ u. list_any (is_reuse u) vs ≡ false) us
  each [] all = tt
  each (u ∷ us) all = (any_false (is_reuse u) vs all.0, each us all.1)

abbrev use_at : List ℕ → ℕ → List ℕ → Use
use_at key leaf message = record { key = key; leaf = leaf; message = message }

-- ---- two leaves of one run
among_at : (leaves : List ℕ) (a g : ℕ) → slice_get leaves a ≡ Some g → IsAmong g leaves
among_at [] a g e = let bad : None ≡ Some g = e in cc
among_at (x ∷ xs) zero g e = let same : x ≡ g = cc in inl (sym same)
among_at (x ∷ xs) (suc a) g e = inr (among_at xs a g e)

twice : (leaves : List ℕ) → NoneTwice leaves → (a b g k : ℕ) → (a ≡ b → ⊥) → slice_get leaves a ≡ Some g → slice_get leaves b ≡ Some k → g ≡ k → ⊥
twice [] once a b g k apart first second same = let bad : None ≡ Some g = first in cc
twice (x ∷ xs) once zero zero g k apart first second same = apart refl
twice (x ∷ xs) once zero (suc b) g k apart first second same =
    let here : Some x ≡ Some k = first ∙ ap Some same in
    let it : x ≡ k = cc in
    once.0 (among_at xs b x (second ∙ sym (ap Some it)))
twice (x ∷ xs) once (suc a) zero g k apart first second same =
    let here : Some x ≡ Some g = second ∙ sym (ap Some same) in
    let it : x ≡ g = cc in
    once.0 (among_at xs a x (first ∙ sym (ap Some it)))
twice (x ∷ xs) once (suc a) (suc b) g k apart first second same = twice xs once.1 a b g k (λ e. apart (ap suc e)) first second same

-- ---- the uses of a signature
bottom_wide : (i seed : List ℕ) (below : Below) (t : ℕ) → length (bottom_of i seed below t).i ≡ 16
bottom_wide i seed below t =
    let long : length (private_element i t 0xfffc seed) ≡ 32 = length-sha256 _ in
    omega (arith, length-take 16 (private_element i t 0xfffc seed), long)

one_leaf : (lms : LmsType) (g k : ℕ) → g / 2 ^ height lms ≡ k / 2 ^ height lms → g % 2 ^ height lms ≡ k % 2 ^ height lms → g ≡ k
one_leaf H5 g k above within = omega (arith, above, within)
one_leaf H10 g k above within = omega (arith, above, within)
one_leaf H15 g k above within = omega (arith, above, within)
one_leaf H20 g k above within = omega (arith, above, within)
one_leaf H25 g k above within = omega (arith, above, within)

module _ (top : one.Secret) (below : Below) (wide : length top.i ≡ 16) where
  abbrev above_of : ℕ → ℕ
  above_of g = g / 2 ^ height below.lms

  abbrev key_of : ℕ → List ℕ
  key_of t = bytes_of (bottom_of top.i top.seed below t)

  abbrev top_use : ℕ → Use
  top_use g = record { key = bytes_of top; leaf = above_of g; message = key_of (above_of g) }

  abbrev last_use : ℕ → List ℕ → Use
  last_use g message = record { key = key_of (above_of g); leaf = g % 2 ^ height below.lms; message = message }

  uses_are : (g : ℕ) (message s : List ℕ) → g < 2 ^ (height top.lms + height below.lms) → s ≡ signature_by top (Some below) g message → leaves_by top (Some below) g s
      → uses (public_by top (Some below)) message s ≡ top_use g ∷ last_use g message ∷ []
  uses_are g message s low is leaves =
      let t : ℕ = above_of g in
      let last : one.Secret = bottom_of top.i top.seed below t in
      let inside : t < 2 ^ height top.lms = above_low (height top.lms) below.lms g low in
      let narrow : length last.i ≡ 16 = bottom_wide top.i top.seed below t in
      let end : List ℕ = one.signature last (g % 2 ^ height below.lms) message in
      let first : leaf_in (drop 4 (link_by top last t ++ end)) ≡ t = ap (λ (l : List ℕ). leaf_in (drop 4 l)) (sym is) ∙ leaves.0 in
      let behind : drop (link_len top) s ≡ end = ap (drop (link_len top)) is ∙ drop_at (link_by top last t) end (link_len top) (link_long top last t narrow inside) in
      let second : leaf_in end ≡ g % 2 ^ height below.lms = ap leaf_in (sym behind) ∙ leaves.1 in
      ap (uses (public_by top (Some below)) message) is
      ∙ two_uses top last wide narrow t (g % 2 ^ height below.lms) inside message
      ∙ ap (λ (n : ℕ). use_at (bytes_of top) n (bytes_of last) ∷ use_at (bytes_of last) (leaf_in end) message ∷ []) first
      ∙ ap (λ (n : ℕ). top_use g ∷ use_at (bytes_of last) n message ∷ []) second

  module _ (differ : DifferBelow top (Some below)) (g k : ℕ) (m n : List ℕ) (low : g < 2 ^ (height top.lms + height below.lms)) (low_too : k < 2 ^ (height top.lms + height below.lms)) (apart : g ≡ k → ⊥) where
    inside : above_of g < 2 ^ height top.lms
    inside = above_low (height top.lms) below.lms g low

    inside_too : above_of k < 2 ^ height top.lms
    inside_too = above_low (height top.lms) below.lms k low_too

    both_top : is_reuse (top_use g) (top_use k) ≡ false
    both_top = elim (cases_eq (above_of g) (above_of k)) [
      | inl same ↦ same_message (top_use g) (top_use k) (ap key_of same)
      | inr other ↦ other_leaf (top_use g) (top_use k) other
    ]

    both_last : is_reuse (last_use g m) (last_use k n) ≡ false
    both_last = elim (cases_eq (above_of g) (above_of k)) [
      | inl same ↦ other_leaf (last_use g m) (last_use k n) (λ within. apart (one_leaf below.lms g k same within))
      | inr other ↦ other_key (last_use g m) (last_use k n) (λ same. other (differ.each_other (above_of g) (above_of k) inside inside_too same))
    ]

    two_clean : reuse_of (top_use g ∷ last_use g m ∷ []) (top_use k ∷ last_use k n ∷ []) ≡ None
    two_clean = none_reused (top_use g ∷ last_use g m ∷ []) (top_use k ∷ last_use k n ∷ []) (
      (both_top, (other_key (top_use g) (last_use k n) (differ.top_other (above_of k) inside_too), tt)),
      ((other_key (last_use g m) (top_use k) (λ same. differ.top_other (above_of g) inside (sym same)), (both_last, tt)), tt),
    )

clean_by : (top : one.Secret) (below : Option Below) → length top.i ≡ 16 → DifferBelow top below → (g k : ℕ) (m n s t : List ℕ)
    → g < 2 ^ (height top.lms + height_below below) → k < 2 ^ (height top.lms + height_below below)
    → s ≡ signature_by top below g m → leaves_by top below g s → t ≡ signature_by top below k n → leaves_by top below k t → (g ≡ k → ⊥)
    → reuse_of (uses (public_by top below) m s) (uses (public_by top below) n t) ≡ None
clean_by top None wide differ g k m n s t low low_too is leaves is_too leaves_too apart =
    let u : Use = use_at (bytes_of top) (leaf_in s) m in
    let v : Use = use_at (bytes_of top) (leaf_in t) n in
    ap (λ (us : List Use). reuse_of us (uses (bytes_of top) n t)) (one_use top m s wide)
    ∙ ap (reuse_of (u ∷ [])) (one_use top n t wide)
    ∙ none_reused (u ∷ []) (v ∷ []) ((other_leaf u v (λ same. apart (sym leaves ∙ same ∙ leaves_too)), tt), tt)
clean_by top (Some below) wide differ g k m n s t low low_too is leaves is_too leaves_too apart =
    ap (λ (us : List Use). reuse_of us (uses (public_by top (Some below)) n t)) (uses_are top below wide g m s low is leaves)
    ∙ ap (reuse_of (top_use top below wide g ∷ last_use top below wide g m ∷ [])) (uses_are top below wide k n t low_too is_too leaves_too)
    ∙ two_clean top below wide differ g k m n low low_too apart

sixteen : (start : ℕ) (file : List ℕ) → 64 ≤ start → start ≤ length file → length (take 16 (drop 16 file)) ≡ 16
sixteen start file low long = omega (arith, low, long, length-take 16 (drop 16 file), length-drop 16 file)

start_low : (below : Option Below) → 64 ≤ start_of below
start_low None = omega arith
start_low (Some below) = omega arith

pub clean : {S : Type 0} (U : S → ℕ → Type 0) → HonestClean U
clean U start events file secret g k m n s t run two is differ signed signed_too =
    let top = is.header.top in
    let wide : length secret.top.i ≡ 16 = ap length (sym top.i) ∙ sixteen (start_of secret.below) file (start_low secret.below) is.header.long in
    clean_by secret.top secret.below wide differ g k m n s t signed.within signed_too.within signed.signs.is signed.signs.leaves signed_too.signs.is signed_too.signs.leaves
    (twice (released_in events) (once U start events run) two.first two.second g k two.apart two.is_first two.is_second)
