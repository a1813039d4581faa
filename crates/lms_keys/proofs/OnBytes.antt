-- Good signatures by the bytes of a key, and by the key.
use Rattle.std.proofs.Common.{◌≡◌, ◌≢◌, ◌↔◌, ℕ, suc, ◌-◌, List, ◌++◌, length, inl, inr, refl, sym, ◌∙◌, ap, subst, arith, length-append}
use Prim.Native.Nat as Nat
use Rattle.std.specs.Int.{w32, to_be_bytes}
use Rattle.std.proofs.lemmas.Nat.{from_be_bytes-to_be_bytes_4}
use Rattle.lmots.specs.OtsType as one_time
use Rattle.lms_keys.specs.declared.public_key.PublicKey.{PublicKey}
use Rattle.lms_keys.specs.LmsType.{code}
use Rattle.lms_keys.specs.PublicKey.{HasUnknownType, key_bytes, number_in}
use Rattle.lms_keys.specs.Signature.{IsSignature}
use Rattle.lms_keys.specs.SigOk.{AreSignedKeys, ByOneKey, HssSigOk, LmsSigOk, SigOk}
use Rattle.lms_keys.proofs.SameKey.{code_small, one_key, ots_code_small}

key_bytes-long : (key : PublicKey) → length key.i ≡ 16 → length key.root ≡ 32 → length (key_bytes key) ≡ 56
key_bytes-long key wide high =
    omega (
      arith,
      wide,
      high,
      length-append (to_be_bytes w32 (code key.lms) ++ to_be_bytes w32 (one_time.code key.ots) ++ key.i) key.root,
      length-append (to_be_bytes w32 (code key.lms) ++ to_be_bytes w32 (one_time.code key.ots)) key.i,
    )

pub by_key : (key : PublicKey) (public message s : List ℕ) → length key.i ≡ 16 → length key.root ≡ 32 → public ≡ key_bytes key
    → LmsSigOk public message s ↔ IsSignature key message s
by_key key public message s wide high written = (
  (λ ok. subst (λ k. IsSignature k message s) (one_key ok.key key ok.identifier wide (sym ok.written ∙ written)) ok.good),
  λ good. record { long = ap length written ∙ key_bytes-long key wide high; key = key; identifier = wide; written = written; good = good },
)

-- nothing is good by bytes with an unknown type
pub by_known : (public message s : List ℕ) → HasUnknownType public → LmsSigOk public message s → ⊥
by_known public message s (inl none) ok =
    none ok.key.lms (ap (λ l. number_in l 0) ok.written ∙ from_be_bytes-to_be_bytes_4 (code ok.key.lms) (code_small ok.key.lms))
by_known public message s (inr none) ok =
    none ok.key.ots (ap (λ l. number_in l 4) ok.written ∙ from_be_bytes-to_be_bytes_4 (one_time.code ok.key.ots) (ots_code_small ok.key.ots))

-- signed public keys begin with the 56 bytes of a key
pub signed-long : (n : ℕ) (public message s : List ℕ) → AreSignedKeys n public message s → length public ≡ 56
signed-long Nat.zero public message s signed = sym (ap length signed.first) ∙ signed.last.long
signed-long (suc n) public message s signed = sym (ap length signed.first) ∙ (signed.signed 0 (omega arith)).long

pub signed-known : (n : ℕ) (public message s : List ℕ) → AreSignedKeys n public message s → HasUnknownType public → ⊥
signed-known Nat.zero public message s signed none =
    by_known (signed.keys 0) message (signed.signatures 0) (subst HasUnknownType (sym signed.first) none) signed.last
signed-known (suc n) public message s signed none =
    by_known (signed.keys 0) (signed.keys 1) (signed.signatures 0) (subst HasUnknownType (sym signed.first) none) (signed.signed 0 (omega arith))

pub hss-long : (public message s : List ℕ) → HssSigOk public message s → length public ≡ 60
hss-long public message s ok =
    omega (arith, ap length ok.key, length-append (to_be_bytes w32 ok.levels) ok.first, signed-long (ok.levels - 1) ok.first message ok.rest ok.signed)

-- by 56 bytes
pub by_lms : (public message s : List ℕ) → length public ≡ 56 → SigOk public message s ↔ LmsSigOk public message s
by_lms public message s long = (
  (λ ok. elim ok [
    | inl lms ↦ lms
    | inr hss ↦ absurd (omega (arith, hss-long public message s hss))
  ]),
  λ lms. inl lms,
)

-- by any other number of bytes
pub by_hss : (public message s : List ℕ) → length public ≢ 56 → SigOk public message s ↔ HssSigOk public message s
by_hss public message s long = (
  (λ ok. elim ok [
    | inl lms ↦ absurd (long lms.long)
    | inr hss ↦ hss
  ]),
  λ hss. inr hss,
)

pub by_one_key : ByOneKey
by_one_key key message s wide high =
    let long = key_bytes-long key wide high in
    let lms = by_lms (key_bytes key) message s long in
    let of = by_key key (key_bytes key) message s wide high refl in
    ((λ ok. of.0 (lms.0 ok)), λ good. lms.1 (of.1 good))
