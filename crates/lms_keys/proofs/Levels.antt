-- Signed public keys, one more in front.
use Rattle.std.proofs.Common.{◌≡◌, ◌≢◌, ◌↔◌, Result, Err, ℕ, suc, ◌+◌, ◌-◌, ◌^◌, get_or, ◌<◌, ◌≤◌, List, ◌++◌, length, take, drop, refl, sym, ◌∙◌, ap, subst, arith, length-append, append_assoc}
use Prim.Native.Nat as Nat
use Rattle.std.specs.Int.{w32, to_be_bytes}
use Rattle.std.proofs.lemmas.Nat.{from_be_bytes-to_be_bytes_4}
use Rattle.std.proofs.lemmas.List.{append-nil, drop_at, take-append-drop, take_at}
use Rattle.lmots.specs.Chain.{joined}
use Rattle.lms_keys.specs.declared.public_key.PublicKey.{PublicKey}
use Rattle.lms_keys.specs.declared.public_key.KeyFault.{KeyFault}
use Rattle.lms_keys.specs.declared.public_key.KeyFault.TheVariants.{BadLength, BadType}
use Rattle.lms_keys.specs.LmsType.{signature_len}
use Rattle.lms_keys.specs.PublicKey.{HasUnknownType, key_bytes, number_in}
use Rattle.lms_keys.specs.Signature.{IsSignature}
use Rattle.lms_keys.specs.SigOk.{AreSignedKeys, HssSigOk, LmsSigOk}
use Rattle.lms_keys.proofs.KeyBytes.{number_bytes}
use Rattle.lms_keys.proofs.OnBytes.{by_key, signed-known, signed-long}

joined-none : (z : ℕ → List ℕ) (last : List ℕ) → joined z 0 ++ last ≡ last
unfolding joined
joined-none z last = refl

joined-first : (z : ℕ → List ℕ) (n : ℕ) → joined z (suc n) ≡ z 0 ++ joined (λ i. z (suc i)) n
unfolding joined
joined-first z Nat.zero = sym (append-nil (z 0))
joined-first z (suc n) =
    ap (λ l. l ++ z (suc n)) (joined-first z n) ∙ append_assoc (z 0) (joined (λ i. z (suc i)) n) (z (suc n))

pub none_signed : (public message s : List ℕ) → AreSignedKeys 0 public message s ↔ LmsSigOk public message s
none_signed public message s = (
  (λ signed. subst (λ p. LmsSigOk p message s) signed.first
      (subst (λ l. LmsSigOk (signed.keys 0) message l) (sym (signed.spelled ∙ joined-none (λ i. signed.signatures i ++ signed.keys (suc i)) (signed.signatures 0))) signed.last)),
  λ ok. record {
    keys = λ _. public;
    signatures = λ _. s;
    first = refl;
    spelled = sym (joined-none (λ _. s ++ public) s);
    signed = λ i lt. absurd (omega (arith, lt));
    last = ok;
  },
)

-- a list with one more item in front
put_first : List ℕ → (ℕ → List ℕ) → ℕ → List ℕ
put_first x f Nat.zero = x
put_first x f (suc n) = f n

-- a first signature and the key that it signs, and what comes below them
pub record IsSplit (n : ℕ) (public message s : List ℕ) : Type 0 where
  pub link : List ℕ
  pub next : List ℕ
  pub below : List ℕ
  pub spelled : s ≡ link ++ (next ++ below)
  pub good : LmsSigOk public next link
  pub signed : AreSignedKeys n next message below

pub split : (n : ℕ) (public message s : List ℕ) → AreSignedKeys (suc n) public message s → IsSplit n public message s
split n public message s signed =
    let z = λ (i : ℕ). signed.signatures i ++ signed.keys (suc i) in
    let more = λ (i : ℕ). signed.signatures (suc i) ++ signed.keys (suc (suc i)) in
    let last : List ℕ = signed.signatures (suc n) in
    record {
      link = signed.signatures 0;
      next = signed.keys 1;
      below = joined more n ++ last;
      spelled = signed.spelled ∙ ap (λ l. l ++ last) (joined-first z n)
          ∙ append_assoc (z 0) (joined more n) last ∙ append_assoc (signed.signatures 0) (signed.keys 1) (joined more n ++ last);
      good = subst (λ p. LmsSigOk p (signed.keys 1) (signed.signatures 0)) signed.first (signed.signed 0 (omega arith));
      signed = record {
        keys = λ i. signed.keys (suc i);
        signatures = λ i. signed.signatures (suc i);
        first = refl;
        spelled = refl;
        signed = λ i lt. signed.signed (suc i) (omega (arith, lt));
        last = signed.last;
      };
    }

put-signed : (n : ℕ) (public message : List ℕ) (keys signatures : ℕ → List ℕ) (link : List ℕ) → LmsSigOk public (keys 0) link
    → ((i : ℕ) → i < n → LmsSigOk (keys i) (keys (suc i)) (signatures i))
    → (i : ℕ) → i < suc n → LmsSigOk (put_first public keys i) (put_first public keys (suc i)) (put_first link signatures i)
unfolding put_first
put-signed n public message keys signatures link good signed Nat.zero lt = good
put-signed n public message keys signatures link good signed (suc i) lt = signed i (omega (arith, lt))

pub joins : (n : ℕ) (public message s : List ℕ) → IsSplit n public message s → AreSignedKeys (suc n) public message s
unfolding put_first
joins n public message s parts =
    let keys = parts.signed.keys in
    let signatures = parts.signed.signatures in
    let more = λ (i : ℕ). signatures i ++ keys (suc i) in
    let z = λ (i : ℕ). put_first parts.link signatures i ++ put_first public keys (suc i) in
    let first = parts.signed.first in
    record {
      keys = put_first public keys;
      signatures = put_first parts.link signatures;
      first = refl;
      spelled = parts.spelled ∙ (λ k. parts.link ++ (sym first k ++ parts.signed.spelled k))
          ∙ sym (append_assoc parts.link (keys 0) (joined more n ++ signatures n))
          ∙ sym (append_assoc (parts.link ++ keys 0) (joined more n) (signatures n))
          ∙ ap (λ l. l ++ signatures n) (sym (joined-first z n));
      signed = put-signed n public message keys signatures parts.link (subst (λ m. LmsSigOk public m parts.link) (sym first) parts.good) parts.signed.signed;
      last = parts.signed.last;
    }

-- what is to hold of the bytes for one more signed key, where a first key tells the length of its signature
pub one_more : (n : ℕ) (key : PublicKey) (public message s : List ℕ) (len : ℕ) → length key.i ≡ 16 → length key.root ≡ 32 → public ≡ key_bytes key
    → len ≡ signature_len key.lms key.ots
    → AreSignedKeys (suc n) public message s
    ↔ ((len + 56 ≤ length s) × (IsSignature key (take 56 (drop len s)) (take len s) × AreSignedKeys n (take 56 (drop len s)) message (drop 56 (drop len s))))
one_more n key public message s len wide high written is_len = (
  (λ signed.
      let parts = split n public message s signed in
      let good = (by_key key public parts.next parts.link wide high written).0 parts.good in
      let link_long : length parts.link ≡ len = good.long ∙ sym is_len in
      let next_long = signed-long n parts.next message parts.below parts.signed in
      let link : take len s ≡ parts.link = ap (take len) parts.spelled ∙ take_at parts.link (parts.next ++ parts.below) len link_long in
      let rest : drop len s ≡ parts.next ++ parts.below = ap (drop len) parts.spelled ∙ drop_at parts.link (parts.next ++ parts.below) len link_long in
      let next : take 56 (drop len s) ≡ parts.next = ap (take 56) rest ∙ take_at parts.next parts.below 56 next_long in
      let below : drop 56 (drop len s) ≡ parts.below = ap (drop 56) rest ∙ drop_at parts.next parts.below 56 next_long in (
        omega (arith, ap length parts.spelled, length-append parts.link (parts.next ++ parts.below), length-append parts.next parts.below, link_long, next_long),
        (
          subst (λ m. IsSignature key m (take len s)) (sym next) (subst (λ l. IsSignature key parts.next l) (sym link) good),
          subst (λ p. AreSignedKeys n p message (drop 56 (drop len s))) (sym next) (subst (λ l. AreSignedKeys n parts.next message l) (sym below) parts.signed),
        ),
      )),
  λ held. joins n public message s (record {
    link = take len s;
    next = take 56 (drop len s);
    below = drop 56 (drop len s);
    spelled = sym (take-append-drop len s) ∙ ap (λ l. take len s ++ l) (sym (take-append-drop 56 (drop len s)));
    good = (by_key key public (take 56 (drop len s)) (take len s) wide high written).1 held.1.0;
    signed = held.1.1;
  }),
)

-- what begins with signed public keys is read as a key
pub is_key : (n : ℕ) (public message s : List ℕ) (read : Result PublicKey KeyFault) (fault : KeyFault) → read ≡ Err fault
    → ((read ≡ Err BadLength) ↔ (length public ≢ 56)) → ((read ≡ Err BadType) ↔ ((length public ≡ 56) × HasUnknownType public))
    → AreSignedKeys n public message s → ⊥
is_key n public message s read BadLength is short unknown signed = short.0 is (signed-long n public message s signed)
is_key n public message s read BadType is short unknown signed = signed-known n public message s signed (unknown.0 is).1

pub spelled-number : (n : ℕ) (bytes rest : List ℕ) → n < 2 ^ 32 → bytes ≡ to_be_bytes w32 n ++ rest → number_in bytes 0 ≡ n
spelled-number n bytes rest small same = ap (λ l. number_in l 0) same ∙ from_be_bytes-to_be_bytes_4 n small

pub spelled-rest : (n : ℕ) (bytes rest : List ℕ) → bytes ≡ to_be_bytes w32 n ++ rest → drop 4 bytes ≡ rest
spelled-rest n bytes rest same = ap (drop 4) same

spelled : (n : ℕ) (bytes : List ℕ) → 4 ≤ length bytes → ((k : ℕ) → get_or bytes k 0 < 256) → n ≡ number_in bytes 0
    → bytes ≡ to_be_bytes w32 n ++ drop 4 bytes
spelled n bytes room small is =
    sym (take-append-drop 4 bytes) ∙ ap (λ l. l ++ drop 4 bytes) (sym (number_bytes bytes 0 n room small is))

-- what is to hold of the numbers in front, and of what is behind them
pub by_numbers : (public message s : List ℕ) (levels : ℕ) → length public ≡ 60 → 4 ≤ length s
    → ((k : ℕ) → get_or public k 0 < 256) → ((k : ℕ) → get_or s k 0 < 256) → levels ≡ number_in public 0
    → HssSigOk public message s
    ↔ ((1 ≤ levels) × ((levels ≤ 8) × ((number_in s 0 ≡ levels - 1) × AreSignedKeys (levels - 1) (drop 4 public) message (drop 4 s))))
by_numbers public message s levels long room small small_too is = (
  (λ ok.
      let same : levels ≡ ok.levels = is ∙ spelled-number ok.levels public ok.first (omega (arith, ok.few)) ok.key in
      let below : number_in s 0 ≡ ok.levels - 1 = spelled-number (ok.levels - 1) s ok.rest (omega (arith, ok.few)) ok.spelled in (
        omega (arith, same, ok.some),
        (
          omega (arith, same, ok.few),
          (
            omega (arith, same, below),
            subst (λ n. AreSignedKeys (n - 1) (drop 4 public) message (drop 4 s)) (sym same)
                (subst (λ p. AreSignedKeys (ok.levels - 1) p message (drop 4 s)) (sym (spelled-rest ok.levels public ok.first ok.key))
                (subst (λ l. AreSignedKeys (ok.levels - 1) ok.first message l) (sym (spelled-rest (ok.levels - 1) s ok.rest ok.spelled)) ok.signed)),
          ),
        ),
      )),
  λ held. record {
    levels = levels;
    some = held.0;
    few = held.1.0;
    first = drop 4 public;
    rest = drop 4 s;
    key = spelled levels public (omega (arith, long)) small is;
    spelled = spelled (levels - 1) s room small_too (sym held.1.1.0);
    signed = held.1.1.1;
  },
)
