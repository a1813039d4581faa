-- One key's signature put into an envelope.
use Rattle.std.specs.Prelude.{ℕ, ◌+◌, ◌++◌, ◌∷◌, [], Bool, List, Option, Some, None, drop, is_some, length, nat_lt}
use Rattle.std.specs.Prelude.{take, ◌||◌}
use Rattle.std.specs.List.{position}
use Rattle.std.specs.Str.{bytes_eq}
use Rattle.dsse_envelope.specs.declared.envelope.Envelope.{Envelope}
use Rattle.dsse_envelope.specs.declared.envelope.Signature.{Signature}

-- the place of the first signature of the key
abbrev pub place_of : List ℕ → List Signature → Option ℕ
place_of keyid signatures = position (λ s. bytes_eq s.keyid keyid) signatures

-- there is one of the key, or room for one more
abbrev pub has_room : List ℕ → List Signature → Bool
has_room keyid signatures = is_some (place_of keyid signatures) || nat_lt (length signatures) 64

abbrev pub put_at : Signature → List Signature → Option ℕ → List Signature
put_at new signatures None = signatures ++ new ∷ []
put_at new signatures (Some at) = take at signatures ++ new ∷ drop (at + 1) signatures

-- the signatures with this one in place of the first of its key, or else at the end
abbrev pub with_signature : Signature → List Signature → List Signature
with_signature new signatures = put_at new signatures (place_of new.keyid signatures)

abbrev pub sealed : Signature → Envelope → Envelope
sealed new e = record {
  payload_type = e.payload_type;
  payload = e.payload;
  signatures = with_signature new e.signatures;
}
