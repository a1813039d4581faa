-- An envelope with a signature put in its place can be written.
use Rattle.std.proofs.Common.{◌≡◌, ◌<◌, ◌≤◌, ◌+◌, ◌++◌, ◌∷◌, [], ℕ, true, List, length, take, drop, refl, arith}
use Rattle.std.specs.Prelude.{All, Option, Some, None, ◌||◌, is_some, nat_lt}
use Rattle.std.specs.Str.{bytes_eq}
use Rattle.std.proofs.lemmas.Bool.{ltb-true}
use Rattle.std.proofs.lemmas.List.{length-append, length-drop, length-take-le}
use Rattle.std.proofs.lemmas.List.Elements.{All-append, All-cons, All-drop, All-nil, All-take}
use Rattle.std.proofs.lemmas.List.Quantifiers.{position-Some}
use Rattle.dsse_envelope.specs.Sealing.{has_room, place_of, put_at, sealed}
use Rattle.dsse_envelope.specs.Written.{HasTextId, IsWritable}
use Rattle.dsse_envelope.specs.declared.envelope.Envelope.{Envelope}
use Rattle.dsse_envelope.specs.declared.envelope.Signature.{Signature}
use Rattle.commands_keys.specs.Seals.{IsSealable}

-- a signature more, or one in place of another
put_long : (s : Signature) (ss : List Signature) (at : Option ℕ) → place_of s.keyid ss ≡ at → (is_some at || nat_lt (length ss) 64) ≡ true → length ss ≤ 64
    → (1 ≤ length (put_at s ss at)) × (length (put_at s ss at) ≤ 64)
put_long s ss None none room few =
    let short : length ss < 64 = ltb-true (length ss) 64 room in
    let long : length (ss ++ s ∷ []) ≡ length ss + 1 = length-append ss (s ∷ []) in
    (omega (arith, long), omega (arith, long, short))
put_long s ss (Some at) found room few =
    let within : at < length ss = (position-Some (λ (x : Signature). bytes_eq x.keyid s.keyid) ss at s found).0 in
    let front : length (take at ss) ≡ at = length-take-le at ss (omega (arith, within)) in
    let rest = length-drop (at + 1) ss in
    let long : length (take at ss ++ s ∷ drop (at + 1) ss) ≡ length (take at ss) + (length (drop (at + 1) ss) + 1) = omega (arith, length-append (take at ss) (s ∷ drop (at + 1) ss)) in
    (omega (arith, long), omega (arith, long, front, rest, within, few))

put_ids : (s : Signature) (ss : List Signature) (at : Option ℕ) → HasTextId s → All HasTextId ss → All HasTextId (put_at s ss at)
put_ids s ss None id ids = All-append HasTextId ss (s ∷ []) ids (All-cons HasTextId s [] id (All-nil HasTextId))
put_ids s ss (Some at) id ids =
    All-append HasTextId (take at ss) (s ∷ drop (at + 1) ss) (All-take HasTextId at ss ids) (All-cons HasTextId s (drop (at + 1) ss) id (All-drop HasTextId (at + 1) ss ids))

pub writable : (s : Signature) (e : Envelope) → IsSealable e → HasTextId s → has_room s.keyid e.signatures ≡ true → IsWritable (sealed s e)
writable s e sealable id room =
    let long = put_long s e.signatures (place_of s.keyid e.signatures) refl room sealable.few in
    record {
      some = long.0;
      few = long.1;
      type_text = sealable.type_text;
      ids = put_ids s e.signatures (place_of s.keyid e.signatures) id sealable.ids;
    }
