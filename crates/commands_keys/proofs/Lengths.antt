-- The length of an envelope's text hangs on the length of a signature alone.
use Rattle.std.proofs.Common.{◌≡◌, ◌+◌, ◌<◌, ◌≤◌, ℕ, Bool, true, false, List, [], ◌∷◌, ◌++◌, length, map, take, drop, sym, subst, ◌∙◌, arith, length-append}
use Rattle.std.specs.Prelude.{IfOk, IsUtf8, Option, Some, None, Result, Ok, Err, codes, nat_le, replicate, slice_index}
use Rattle.octets.specs.declared.memory.Memory.{Memory}
use Rattle.std.proofs.lemmas.Bool.{leb-false, leb-true}
use Rattle.std.proofs.lemmas.List.{length-replicate, places}
use Rattle.hex.specs.Hex.{IsBytes}
use Rattle.json.specs.Print.{escape, quoted}
use Rattle.serde_json.specs.View.{items_of}
use Rattle.serde_json.specs.Written.{comma_if, compact_text, items_text}
use Rattle.dsse_envelope.specs.Sealing.{place_of, put_at, sealed}
use Rattle.dsse_envelope.specs.Written.{base64_text, signature_data, text_of}
use Rattle.dsse_envelope.specs.declared.envelope.Envelope.{Envelope}
use Rattle.dsse_envelope.specs.declared.envelope.Signature.{Signature}
use Rattle.commands_keys.specs.Seals.{Fits, FitsNot, signature_of}
use Rattle.commands_keys.proofs.Plain.{base64_long, base64_same}

-- of one length
record Same (s t : List ℕ) : Type 0 where
  is : length s ≡ length t

after : {s t : List ℕ} (front : List ℕ) → Same s t → Same (front ++ s) (front ++ t)
after {s = s} {t = t} front same = (let left = length-append front s in let right = length-append front t in record { is = omega (arith, left, right, same.is) })

before : {s t : List ℕ} (rest : List ℕ) → Same s t → Same (s ++ rest) (t ++ rest)
before {s = s} {t = t} rest same = (let left = length-append s rest in let right = length-append t rest in record { is = omega (arith, left, right, same.is) })

longer : {s t : List ℕ} (x : ℕ) → Same s t → Same (x ∷ s) (x ∷ t)
longer x same = record { is = omega (arith, same.is) }

module _ (keyid s t : List ℕ) (same : Same (escape (base64_text s)) (escape (base64_text t))) where
  signature_long : Same (compact_text (signature_data (signature_of keyid s))) (compact_text (signature_data (signature_of keyid t)))
  signature_long =
      longer 123 (after [] (after (quoted (codes "keyid")) (longer 58 (after (quoted keyid)
      (after (44 ∷ []) (after (quoted (codes "sig")) (longer 58 (before (125 ∷ []) (longer 34 (before (34 ∷ []) same))))))))))

  items_long : (later : Bool) (front rest : List Signature) → Same (items_text later (items_of (map signature_data (front ++ signature_of keyid s ∷ rest)))) (items_text later (items_of (map signature_data (front ++ signature_of keyid t ∷ rest))))
  items_long later [] rest = after (comma_if later) (before (items_text true (items_of (map signature_data rest))) signature_long)
  items_long later (first ∷ front) rest = after (comma_if later) (after (compact_text (signature_data first)) (items_long true front rest))

  put_long : (at : Option ℕ) (ss : List Signature) → Same (items_text false (items_of (map signature_data (put_at (signature_of keyid s) ss at)))) (items_text false (items_of (map signature_data (put_at (signature_of keyid t) ss at))))
  put_long None ss = items_long false ss []
  put_long (Some at) ss = items_long false (take at ss) (drop (at + 1) ss)

  sealed_long : (e : Envelope) → Same (text_of (sealed (signature_of keyid s) e)) (text_of (sealed (signature_of keyid t) e))
  sealed_long e =
      longer 123 (after [] (after (quoted (codes "payload")) (longer 58 (after (quoted (base64_text e.payload))
      (after (44 ∷ []) (after (quoted (codes "payloadType")) (longer 58 (after (quoted e.payload_type)
      (after (44 ∷ []) (after (quoted (codes "signatures")) (longer 58 (before (125 ∷ []) (longer 91 (put_long (place_of keyid e.signatures) e.signatures))))))))))))))

-- two signatures of one length, by one key, make texts of one length
pub same_long : (keyid s t : List ℕ) (e : Envelope) → length s ≡ length t → IsBytes s → IsBytes t → length (text_of (sealed (signature_of keyid s) e)) ≡ length (text_of (sealed (signature_of keyid t) e))
same_long keyid s t e same left right = (sealed_long keyid s t (record { is = base64_long s left ∙ base64_same s t same ∙ sym (base64_long t right) }) e).is

zeros_bytes : (n : ℕ) → IsBytes (replicate n 0)
zeros_bytes n i = let e : slice_index (replicate n 0) i ≡ 0 = grind (arith, places) in omega (arith, e)

module _ (keyid : List ℕ) (len : ℕ) (e : Envelope) (long : ℕ) (is : length (text_of (sealed (signature_of keyid (replicate len 0)) e)) ≡ long) where
  as_long : (signature : List ℕ) → length signature ≡ len → IsBytes signature → length (text_of (sealed (signature_of keyid signature) e)) ≡ long
  as_long signature same bytes = same_long keyid signature (replicate len 0) e (same ∙ sym (length-replicate len 0)) bytes (zeros_bytes len) ∙ is

  pub fits_by : nat_le long 1048576 ≡ true → Fits keyid len e
  fits_by low signature same bytes = (let most : long ≤ 1048576 = leb-true long 1048576 low in subst (λ (n : ℕ). n ≤ 1048576) (sym (as_long signature same bytes)) most)

  pub fits_not : nat_le long 1048576 ≡ false → FitsNot keyid len e
  fits_not high signature same bytes = (let more : 1048576 < long = leb-false long 1048576 high in subst (λ (n : ℕ). 1048576 < n) (sym (as_long signature same bytes)) more)

pub text_of_bytes : (made : Result (List ℕ) Memory) (bytes : List ℕ) → IfOk made (λ text. text ≡ bytes) → IsUtf8 bytes → IfOk made IsUtf8
text_of_bytes (Ok text) bytes is utf8 = subst IsUtf8 (sym is) utf8
text_of_bytes (Err none) bytes is utf8 = tt
