-- The walk over the levels of a signature, and what it answers.
use Rattle.std.proofs.Common.{◌≡◌, ◌||◌, ◌≤◌, ◌-◌, ℕ, suc, zero, Bool, true, false, cond, List, [], ◌∷◌, ◌++◌, length, drop, Some, inl, inr, sym, ap, subst, ◌∙◌, arith, length-append}
use Rattle.std.specs.Int.{w32, to_be_bytes}
use Rattle.std.specs.List.{find, list_any}
use Rattle.std.specs.Option.{option_map}
use Rattle.lms_keys.specs.LmsType.{signature_len}
use Rattle.lms_keys.specs.PublicKey.{key_bytes, number_in}
use Rattle.lms_keys.specs.SigOk.{AreSignedKeys, HssSigOk, LmsSigOk, SigOk}
use Rattle.lms_keys.specs.Signature.{leaf_in}
use Rattle.lms_keys.specs.declared.public_key.PublicKey.{PublicKey}
use Rattle.lms_keys.proofs.Levels.{none_signed, spelled-number, spelled-rest, split}
use Rattle.lms_keys.proofs.OnBytes.{by_hss, hss-long}
use Rattle.evidence.specs.Uses.{Use, is_reuse, len_by, next_key, reuse_of, uses_from}
use Rattle.evidence.proofs.KeyLengths.{four_long, four_within, key_len}

-- ---- the first key
abbrev levels_of : List ℕ → ℕ
levels_of public = number_in public 0

pub by_sixty : (public message s : List ℕ) → length public ≡ 60 → SigOk public message s → HssSigOk public message s
by_sixty public message s long ok = (by_hss public message s (λ short. absurd (omega (arith, long, short)))).0 ok

pub by_others : (public message s : List ℕ) → (length public ≡ 60 → ⊥) → SigOk public message s → LmsSigOk public message s
by_others public message s other (inl lms) = lms
by_others public message s other (inr hss) = absurd (other (hss-long public message s hss))

pub number_room : (public message s : List ℕ) → HssSigOk public message s → 4 ≤ length s
number_room public message s ok = omega (arith, ap length ok.spelled, length-append (to_be_bytes w32 (ok.levels - 1)) ok.rest, four_long (ok.levels - 1))

levels_are : (public message s : List ℕ) (ok : HssSigOk public message s) → levels_of public ≡ ok.levels
levels_are public message s ok = spelled-number ok.levels public ok.first (omega (arith, ok.few)) ok.key

pub some_levels : (public message s : List ℕ) → HssSigOk public message s → 1 ≤ levels_of public
some_levels public message s ok = omega (arith, levels_are public message s ok, ok.some)

pub signed_behind : (public message s : List ℕ) → HssSigOk public message s → AreSignedKeys (levels_of public - 1) (drop 4 public) message (drop 4 s)
signed_behind public message s ok =
    let first : drop 4 public ≡ ok.first = spelled-rest ok.levels public ok.first ok.key in
    let rest : drop 4 s ≡ ok.rest = spelled-rest (ok.levels - 1) s ok.rest ok.spelled in
    let levels = levels_are public message s ok in
    subst (λ (n : ℕ). AreSignedKeys (n - 1) (drop 4 public) message (drop 4 s)) (sym levels)
    (subst (λ (p : List ℕ). AreSignedKeys (ok.levels - 1) p message (drop 4 s)) (sym first)
    (subst (λ (l : List ℕ). AreSignedKeys (ok.levels - 1) ok.first message l) (sym rest) ok.signed))

-- ---- one level
pub room : (n : ℕ) (key message s : List ℕ) → AreSignedKeys n key message s → 4 ≤ length s
room zero key message s signed = four_within key message s ((none_signed key message s).0 signed)
room (suc n) key message s signed =
    let parts = split n key message s signed in
    omega (arith, ap length parts.spelled, length-append parts.link (parts.next ++ parts.below), four_within key parts.next parts.link parts.good)

pub last_use : (n : ℕ) (key message s : List ℕ) (leaf : ℕ) → n ≡ 0 → leaf ≡ leaf_in s
    → uses_from n key message s ≡ record { key = key; leaf = leaf; message = message } ∷ []
unfolding uses_from
last_use n key message s leaf none is =
    ap (λ (k : ℕ). uses_from k key message s) none ∙ ap (λ (q : ℕ). record { key = key; leaf = q; message = message } ∷ []) (sym is)

pub more_uses : (n below : ℕ) (key message s : List ℕ) (leaf : ℕ) (next rest : List ℕ) → n ≡ suc below → leaf ≡ leaf_in s → next ≡ next_key key s
    → rest ≡ drop 56 (drop (len_by key) s)
    → uses_from n key message s ≡ record { key = key; leaf = leaf; message = next } ∷ uses_from below next message rest
unfolding uses_from
more_uses n below key message s leaf next rest more is next_is rest_is =
    ap (λ (k : ℕ). uses_from k key message s) more
    ∙ (λ i. record { key = key; leaf = sym is i; message = sym next_is i } ∷ uses_from below (sym next_is i) message (sym rest_is i))

pub len_of : (key : PublicKey) (bytes : List ℕ) (len : ℕ) → bytes ≡ key_bytes key → len ≡ signature_len key.lms key.ots → len ≡ len_by bytes
len_of key bytes len written is = is ∙ sym (key_len key) ∙ ap len_by (sym written)

-- ---- what is found
pub any_now : (u v : Use) (us vs : List Use) → us ≡ v ∷ vs → is_reuse u v ≡ true → true ≡ list_any (is_reuse u) us
any_now u v us vs is reuse = sym (ap (list_any (is_reuse u)) is ∙ ap (λ (b : Bool). b || list_any (is_reuse u) vs) reuse)

pub any_later : (u v : Use) (us vs : List Use) → us ≡ v ∷ vs → is_reuse u v ≡ false → list_any (is_reuse u) vs ≡ list_any (is_reuse u) us
any_later u v us vs is reuse = sym (ap (list_any (is_reuse u)) is ∙ ap (λ (b : Bool). b || list_any (is_reuse u) vs) reuse)

module _ (rights : List Use) where
  abbrev again : Use → Bool
  again u = list_any (is_reuse u) rights

  pub reuse_now : (u : Use) (us vs : List Use) → us ≡ u ∷ vs → again u ≡ true → Some u.leaf ≡ reuse_of us rights
  reuse_now u us vs is reuse =
      sym (ap (λ (l : List Use). reuse_of l rights) is ∙ ap (λ (b : Bool). option_map (λ (w : Use). w.leaf) (cond b (Some u) (find again vs))) reuse)

  pub reuse_later : (u : Use) (us vs : List Use) → us ≡ u ∷ vs → again u ≡ false → reuse_of vs rights ≡ reuse_of us rights
  reuse_later u us vs is reuse =
      sym (ap (λ (l : List Use). reuse_of l rights) is ∙ ap (λ (b : Bool). option_map (λ (w : Use). w.leaf) (cond b (Some u) (find again vs))) reuse)
