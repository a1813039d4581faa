-- The test of a good signature holds exactly where the signature is good.
use Rattle.std.proofs.Common.{◌≡◌, ◌↔◌, ◌&&◌, ◌==◌, ◌<◌, ◌+◌, ◌-◌, ◌^◌, ◌++◌, ℕ, suc, zero, Bool, true, false, nat_le, nat_lt, List, [], ◌∷◌, length, take, drop, refl, ap, sym, inl, inr, ◌∙◌, arith, length-append, length-drop, length-take}
use Rattle.std.specs.Int.{w32, to_be_bytes}
use Rattle.std.specs.List.{list_any}
use Rattle.std.specs.Str.{bytes_eq}
use Rattle.std.specs.Cmp.Lexicographic.{bytes_decides}
use Rattle.std.proofs.lemmas.Bool.{and_parts, eq-eqb, eqb-true, le-leb, leb-true, lt-ltb, ltb-true, or_cases, or_left, or_right, true≢false}
use Rattle.std.proofs.lemmas.List.{drop_at, take_at, take-append-drop}
use Rattle.lmots.specs.OneTime.{candidate, code_in}
use Rattle.lmots.specs.OtsType as one_time_type
use Rattle.lmots.specs.declared.ots_type.OtsType.{OtsType}
use Rattle.lmots.specs.declared.ots_type.OtsType.TheVariants.{W1, W2, W4, W8}
use Rattle.lms_keys.specs.Deciding.{are_good, is_good, is_hss_good, is_lms_good, is_signature, key_with, link_good, link_len, lms_types, of_key, one_time_types}
use Rattle.lms_keys.specs.LmsType.{code, height, signature_len}
use Rattle.lms_keys.specs.PublicKey.{key_bytes, number_in}
use Rattle.lms_keys.specs.SigOk.{AreSignedKeys, HssSigOk, LmsSigOk, SigOk}
use Rattle.lms_keys.specs.Signature.{IsSignature, leaf_in, one_time_in, path_in, root_from}
use Rattle.lms_keys.specs.declared.lms_type.LmsType.{LmsType}
use Rattle.lms_keys.specs.declared.lms_type.LmsType.TheVariants.{H5, H10, H15, H20, H25}
use Rattle.lms_keys.specs.declared.public_key.PublicKey.{PublicKey}
use Rattle.lms_keys.proofs.Levels.{none_signed, one_more, spelled-number, spelled-rest, split}

-- ---- tests
both : (a b : Bool) → a ≡ true → b ≡ true → (a && b) ≡ true
both a b p q = ap (λ x. x && b) p ∙ q

found : {X : Type 0} (p : X → Bool) (xs : List X) → list_any p xs ≡ true → (x : X) × (p x ≡ true)
found p [] h = absurd (true≢false (sym h))
found p (x ∷ xs) h = elim (or_cases (p x) (list_any p xs) h) [ inl a ↦ (x, a) | inr b ↦ found p xs b ]

some_lms : (p : LmsType → Bool) (t : LmsType) → p t ≡ true → list_any p lms_types ≡ true
some_lms p H5 h = or_left (p H5) (list_any p (H10 ∷ H15 ∷ H20 ∷ H25 ∷ [])) h
some_lms p H10 h = or_right (p H5) (list_any p (H10 ∷ H15 ∷ H20 ∷ H25 ∷ [])) (or_left (p H10) (list_any p (H15 ∷ H20 ∷ H25 ∷ [])) h)
some_lms p H15 h =
    or_right (p H5) (list_any p (H10 ∷ H15 ∷ H20 ∷ H25 ∷ [])) (or_right (p H10) (list_any p (H15 ∷ H20 ∷ H25 ∷ [])) (or_left (p H15) (list_any p (H20 ∷ H25 ∷ [])) h))
some_lms p H20 h =
    or_right (p H5) (list_any p (H10 ∷ H15 ∷ H20 ∷ H25 ∷ [])) (or_right (p H10) (list_any p (H15 ∷ H20 ∷ H25 ∷ []))
    (or_right (p H15) (list_any p (H20 ∷ H25 ∷ [])) (or_left (p H20) (list_any p (H25 ∷ [])) h)))
some_lms p H25 h =
    or_right (p H5) (list_any p (H10 ∷ H15 ∷ H20 ∷ H25 ∷ [])) (or_right (p H10) (list_any p (H15 ∷ H20 ∷ H25 ∷ []))
    (or_right (p H15) (list_any p (H20 ∷ H25 ∷ [])) (or_right (p H20) (list_any p (H25 ∷ [])) (or_left (p H25) false h))))

some_one_time : (p : OtsType → Bool) (t : OtsType) → p t ≡ true → list_any p one_time_types ≡ true
some_one_time p W1 h = or_left (p W1) (list_any p (W2 ∷ W4 ∷ W8 ∷ [])) h
some_one_time p W2 h = or_right (p W1) (list_any p (W2 ∷ W4 ∷ W8 ∷ [])) (or_left (p W2) (list_any p (W4 ∷ W8 ∷ [])) h)
some_one_time p W4 h = or_right (p W1) (list_any p (W2 ∷ W4 ∷ W8 ∷ [])) (or_right (p W2) (list_any p (W4 ∷ W8 ∷ [])) (or_left (p W4) (list_any p (W8 ∷ [])) h))
some_one_time p W8 h =
    or_right (p W1) (list_any p (W2 ∷ W4 ∷ W8 ∷ [])) (or_right (p W2) (list_any p (W4 ∷ W8 ∷ [])) (or_right (p W4) (list_any p (W8 ∷ [])) (or_left (p W8) false h)))

-- ---- keys
-- the bytes are those of this key, and of it the test holds
pub record IsOfKey (test : PublicKey → Bool) (public : List ℕ) : Type 0 where
  pub key : PublicKey
  pub identifier : key.i ≡ take 16 (drop 8 public)
  pub end : key.root ≡ drop 24 public
  pub written : public ≡ key_bytes key
  pub holds : test key ≡ true

key_found : (test : PublicKey → Bool) (public : List ℕ) → of_key test public ≡ true → IsOfKey test public
key_found test public h =
    let of = λ (lms : LmsType) (ots : OtsType). bytes_eq public (key_bytes (key_with public lms ots)) && test (key_with public lms ots) in
    let lms = found (λ (l : LmsType). list_any (of l) one_time_types) lms_types h in
    let ots = found (of lms.0) one_time_types lms.1 in
    let parts = and_parts (bytes_eq public (key_bytes (key_with public lms.0 ots.0))) (test (key_with public lms.0 ots.0)) ots.1 in
    record { key = key_with public lms.0 ots.0; identifier = refl; end = refl; written = (bytes_decides public (key_bytes (key_with public lms.0 ots.0))).0 parts.0; holds = parts.1 }

same_key : (key : PublicKey) (public : List ℕ) → length key.i ≡ 16 → public ≡ key_bytes key → key_with public key.lms key.ots ≡ key
same_key key public wide written =
    let i : take 16 (drop 8 public) ≡ key.i = ap (λ b. take 16 (drop 8 b)) written ∙ take_at key.i key.root 16 wide in
    let root : drop 24 public ≡ key.root = ap (drop 24) written ∙ drop_root in
    λ t. record { lms = key.lms; ots = key.ots; i = i t; root = root t }
  where
    drop_root : drop 24 (key_bytes key) ≡ key.root
    drop_root = drop_at key.i key.root 16 wide

of_this_key : (test : PublicKey → Bool) (key : PublicKey) (public : List ℕ) → length key.i ≡ 16 → public ≡ key_bytes key → test key ≡ true → of_key test public ≡ true
of_this_key test key public wide written holds =
    let of = λ (lms : LmsType) (ots : OtsType). bytes_eq public (key_bytes (key_with public lms ots)) && test (key_with public lms ots) in
    let same = same_key key public wide written in
    let here : of key.lms key.ots ≡ true = both (bytes_eq public (key_bytes (key_with public key.lms key.ots))) (test (key_with public key.lms key.ots)) ((bytes_decides public (key_bytes (key_with public key.lms key.ots))).1 (written ∙ ap key_bytes (sym same))) (ap test same ∙ holds) in
    some_lms (λ (l : LmsType). list_any (of l) one_time_types) key.lms (some_one_time (of key.lms) key.ots here)

-- ---- a signature by one key
module _ (key : PublicKey) (message s : List ℕ) where
  abbrev one_time : List ℕ
  one_time = one_time_in key.ots s

  abbrev long : Bool
  long = length s == signature_len key.lms key.ots

  abbrev coded : Bool
  coded = code_in one_time == one_time_type.code key.ots

  abbrev whole : Bool
  whole = length one_time == one_time_type.signature_len key.ots

  abbrev typed : Bool
  typed = number_in s (4 + one_time_type.signature_len key.ots) == code key.lms

  abbrev within : Bool
  within = nat_lt (leaf_in s) (2 ^ height key.lms)

  abbrev from_leaf : List ℕ
  from_leaf = root_from key (leaf_in s) (candidate key.ots key.i (leaf_in s) message one_time) (path_in key.ots s)

  abbrev rooted : Bool
  rooted = bytes_eq from_leaf key.root

  signature_held : is_signature key message s ≡ true → IsSignature key message s
  signature_held h =
      let a = and_parts long (coded && (whole && (typed && (within && rooted)))) h in
      let b = and_parts coded (whole && (typed && (within && rooted))) a.1 in
      let c = and_parts whole (typed && (within && rooted)) b.1 in
      let d = and_parts typed (within && rooted) c.1 in
      let e = and_parts within rooted d.1 in
      record {
        long = eqb-true (length s) (signature_len key.lms key.ots) a.0;
        one_time = record { coded = eqb-true (code_in one_time) (one_time_type.code key.ots) b.0; long = eqb-true (length one_time) (one_time_type.signature_len key.ots) c.0 };
        lms = eqb-true (number_in s (4 + one_time_type.signature_len key.ots)) (code key.lms) d.0;
        leaf = ltb-true (leaf_in s) (2 ^ height key.lms) e.0;
        root = (bytes_decides from_leaf key.root).0 e.1;
      }

  signature_tested : IsSignature key message s → is_signature key message s ≡ true
  signature_tested is =
      both long (coded && (whole && (typed && (within && rooted)))) (eq-eqb (length s) (signature_len key.lms key.ots) is.long)
      (both coded (whole && (typed && (within && rooted))) (eq-eqb (code_in one_time) (one_time_type.code key.ots) is.one_time.coded)
      (both whole (typed && (within && rooted)) (eq-eqb (length one_time) (one_time_type.signature_len key.ots) is.one_time.long)
      (both typed (within && rooted) (eq-eqb (number_in s (4 + one_time_type.signature_len key.ots)) (code key.lms) is.lms)
      (both within rooted (lt-ltb (leaf_in s) (2 ^ height key.lms) is.leaf) ((bytes_decides from_leaf key.root).1 is.root)))))

-- ---- by the bytes of an LMS key
part_long : (public : List ℕ) → length public ≡ 56 → (length (take 16 (drop 8 public)) ≡ 16) × (length (drop 24 public) ≡ 32)
part_long public long = (omega (arith, long, length-take 16 (drop 8 public), length-drop 8 public), omega (arith, long, length-drop 24 public))

lms_held : (public message s : List ℕ) → is_lms_good public message s ≡ true → LmsSigOk public message s
lms_held public message s h =
    let p = and_parts (length public == 56) (of_key (λ key. is_signature key message s) public) h in
    let wide = eqb-true (length public) 56 p.0 in
    let of = key_found (λ key. is_signature key message s) public p.1 in
    record { long = wide; key = of.key; identifier = ap length of.identifier ∙ (part_long public wide).0; written = of.written; good = signature_held of.key message s of.holds }

lms_tested : (public message s : List ℕ) → LmsSigOk public message s → is_lms_good public message s ≡ true
lms_tested public message s ok =
    both (length public == 56) (of_key (λ key. is_signature key message s) public) (eq-eqb (length public) 56 ok.long)
    (of_this_key (λ key. is_signature key message s) ok.key public ok.identifier ok.written (signature_tested ok.key message s ok.good))

-- ---- by signed keys
module _ (message : List ℕ) where
  abbrev below : ℕ → List ℕ → List ℕ → Bool
  below n next rest = are_good n next message rest

  signed_held : (n : ℕ) (public s : List ℕ) → are_good n public message s ≡ true → AreSignedKeys n public message s
  unfolding are_good
  signed_held zero public s h = (none_signed public message s).1 (lms_held public message s h)
  signed_held (suc n) public s h =
      let p = and_parts (length public == 56) (of_key (link_good (below n) s) public) h in
      let wide = eqb-true (length public) 56 p.0 in
      let of = key_found (link_good (below n) s) public p.1 in
      let key = of.key in
      let len : ℕ = link_len key in
      let next : List ℕ = take 56 (drop len s) in
      let rest : List ℕ = drop 56 (drop len s) in
      let a = and_parts (nat_le (len + 56) (length s)) (is_signature key next (take len s) && below n next rest) of.holds in
      let b = and_parts (is_signature key next (take len s)) (below n next rest) a.1 in
      (one_more n key public message s len (ap length of.identifier ∙ (part_long public wide).0) (ap length of.end ∙ (part_long public wide).1) of.written refl).1
      (leb-true (len + 56) (length s) a.0, (signature_held key next (take len s) b.0, signed_held n next rest b.1))

  signed_tested : (n : ℕ) (public s : List ℕ) → AreSignedKeys n public message s → are_good n public message s ≡ true
  unfolding are_good
  signed_tested zero public s signed = lms_tested public message s ((none_signed public message s).0 signed)
  signed_tested (suc n) public s signed =
      let good = (split n public message s signed).good in
      let key = good.key in
      let len : ℕ = link_len key in
      let next : List ℕ = take 56 (drop len s) in
      let rest : List ℕ = drop 56 (drop len s) in
      let high : length key.root ≡ 32 = omega (arith, ap length good.written, good.long, good.identifier, key_len key) in
      let held = (one_more n key public message s len good.identifier high good.written refl).0 signed in
      both (length public == 56) (of_key (link_good (below n) s) public) (eq-eqb (length public) 56 good.long)
      (of_this_key (link_good (below n) s) key public good.identifier good.written
      (both (nat_le (len + 56) (length s)) (is_signature key next (take len s) && below n next rest) (le-leb (len + 56) (length s) held.0)
      (both (is_signature key next (take len s)) (below n next rest) (signature_tested key next (take len s) held.1.0) (signed_tested n next rest held.1.1))))
    where
      key_len : (key : PublicKey) → length (key_bytes key) ≡ 8 + length key.i + length key.root
      key_len key =
          omega (
            arith,
            length-append (to_be_bytes w32 (code key.lms) ++ to_be_bytes w32 (one_time_type.code key.ots) ++ key.i) key.root,
            length-append (to_be_bytes w32 (code key.lms) ++ to_be_bytes w32 (one_time_type.code key.ots)) key.i,
          )

-- ---- by the bytes of an HSS key
module _ (public message s : List ℕ) where
  abbrev number : ℕ
  number = number_in public 0

  abbrev begins : ℕ → Bool
  begins n = bytes_eq (take 4 public) (to_be_bytes w32 n)

  abbrev goes_on : ℕ → Bool
  goes_on n = bytes_eq (take 4 s) (to_be_bytes w32 (n - 1))

  abbrev ends : ℕ → Bool
  ends n = are_good (n - 1) (drop 4 public) message (drop 4 s)

  in_front : (n : ℕ) (bytes : List ℕ) → bytes_eq (take 4 bytes) (to_be_bytes w32 n) ≡ true → bytes ≡ to_be_bytes w32 n ++ drop 4 bytes
  in_front n bytes h = sym (take-append-drop 4 bytes) ∙ ap (λ l. l ++ drop 4 bytes) ((bytes_decides (take 4 bytes) (to_be_bytes w32 n)).0 h)

  hss_held : is_hss_good public message s ≡ true → HssSigOk public message s
  hss_held h =
      let a = and_parts (nat_le 1 number) (nat_le number 8 && (begins number && (goes_on number && ends number))) h in
      let b = and_parts (nat_le number 8) (begins number && (goes_on number && ends number)) a.1 in
      let c = and_parts (begins number) (goes_on number && ends number) b.1 in
      let d = and_parts (goes_on number) (ends number) c.1 in
      record {
        levels = number;
        some = leb-true 1 number a.0;
        few = leb-true number 8 b.0;
        first = drop 4 public;
        rest = drop 4 s;
        key = in_front number public c.0;
        spelled = in_front (number - 1) s d.0;
        signed = signed_held message (number - 1) (drop 4 public) (drop 4 s) d.1;
      }

  hss_tested : HssSigOk public message s → is_hss_good public message s ≡ true
  hss_tested ok =
      let n : ℕ = ok.levels in
      let small : n < 2 ^ 32 = let few = ok.few in omega arith in
      let small_too : n - 1 < 2 ^ 32 = let few = ok.few in omega arith in
      let same : number ≡ n = spelled-number n public ok.first small ok.key in
      let front : take 4 public ≡ to_be_bytes w32 n = ap (take 4) ok.key in
      let next : take 4 s ≡ to_be_bytes w32 (n - 1) = ap (take 4) ok.spelled in
      let signed : ends n ≡ true =
      ap (λ l. are_good (n - 1) l message (drop 4 s)) (spelled-rest n public ok.first ok.key) ∙ ap (λ l. are_good (n - 1) ok.first message l) (spelled-rest (n - 1) s ok.rest ok.spelled)
      ∙ signed_tested message (n - 1) ok.first ok.rest ok.signed in
      let at : (nat_le 1 n && (nat_le n 8 && (begins n && (goes_on n && ends n)))) ≡ true =
      both (nat_le 1 n) (nat_le n 8 && (begins n && (goes_on n && ends n))) (le-leb 1 n ok.some)
      (both (nat_le n 8) (begins n && (goes_on n && ends n)) (le-leb n 8 ok.few)
      (both (begins n) (goes_on n && ends n) ((bytes_decides (take 4 public) (to_be_bytes w32 n)).1 front)
      (both (goes_on n) (ends n) ((bytes_decides (take 4 s) (to_be_bytes w32 (n - 1))).1 next) signed))) in
      ap (λ k. nat_le 1 k && (nat_le k 8 && (begins k && (goes_on k && ends k)))) same ∙ at

-- ---- by any bytes
pub decided : (public message s : List ℕ) → (is_good public message s ≡ true) ↔ SigOk public message s
unfolding is_good
decided public message s = (
  (λ h. elim (or_cases (is_lms_good public message s) (is_hss_good public message s) h) [
    | inl lms ↦ inl (lms_held public message s lms)
    | inr hss ↦ inr (hss_held public message s hss)
  ]),
  (λ ok. elim ok [
    | inl lms ↦ or_left (is_lms_good public message s) (is_hss_good public message s) (lms_tested public message s lms)
    | inr hss ↦ or_right (is_lms_good public message s) (is_hss_good public message s) (hss_tested public message s hss)
  ]),
)

-- what holds exactly where the signature is good is the test
pub is_test : (b : Bool) (public message s : List ℕ) → (b ≡ true) ↔ SigOk public message s → b ≡ is_good public message s
is_test b public message s is =
    same b (is_good public message s) (λ h. (decided public message s).1 (is.0 h)) (λ h. is.1 ((decided public message s).0 h))
  where
    same : (a c : Bool) → (a ≡ true → c ≡ true) → (c ≡ true → a ≡ true) → a ≡ c
    same true c f g = sym (f refl)
    same false true f g = g refl
    same false false f g = refl
