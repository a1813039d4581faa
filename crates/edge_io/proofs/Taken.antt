-- One piece more off the front of what a source has left.
use Rattle.std.proofs.Common.{◌≡◌, ◌≤◌, ◌<◌, ◌+◌, ◌-◌, ℕ, List, ◌++◌, length, take, refl, sym, ap, ◌∙◌, append_assoc, arith}
use Rattle.std.specs.Prelude.{Option, Some, None}
use Rattle.std.proofs.lemmas.List.{length-append, length-take-le}
use Rattle.octets.specs.Content.{with_front}
use Rattle.edge_io.specs.Read.{HasMore, HasRead}

-- two pieces in front are one
pub with_fronts : (a b : List ℕ) (told : Option (List ℕ)) → with_front a (with_front b told) ≡ with_front (a ++ b) told
with_fronts a b None = refl
with_fronts a b (Some rest) = ap Some (sym (append_assoc a b rest))

taken_on : (was mid now : Option (List ℕ)) (bytes piece : List ℕ) → was ≡ with_front bytes mid → mid ≡ with_front piece now → was ≡ with_front (bytes ++ piece) now
taken_on was mid now bytes piece e f = e ∙ ap (with_front bytes) f ∙ with_fronts bytes piece now

len_of : (bytes buf : List ℕ) (count : ℕ) → count ≤ length buf → length (bytes ++ take count buf) ≡ length bytes + count
len_of bytes buf count fits = length-append bytes (take count buf) ∙ ap (λ n. length bytes + n) (length-take-le count buf fits)

-- a piece that passes the maximum
pub more_taken : (was mid now : Option (List ℕ)) (bytes buf : List ℕ) (count max : ℕ) → was ≡ with_front bytes mid → mid ≡ with_front (take count buf) now → length bytes ≤ max → count ≤ length buf
    → length buf ≤ max - length bytes + 1 → max - length bytes < count → HasMore max was now
more_taken was mid now bytes buf count max e f short fits near past =
    let n : length (bytes ++ take count buf) ≡ length bytes + count = len_of bytes buf count fits in
    record {
      bytes = bytes ++ take count buf;
      read = taken_on was mid now bytes (take count buf) e f;
      more = omega (arith, n, short, past, fits, near);
    }

-- a piece that does not
pub few_taken : (was mid now : Option (List ℕ)) (bytes buf : List ℕ) (count max : ℕ) → was ≡ with_front bytes mid → mid ≡ with_front (take count buf) now → length bytes ≤ max → count ≤ length buf
    → count ≤ max - length bytes → HasRead max was now
few_taken was mid now bytes buf count max e f short fits room =
    let n : length (bytes ++ take count buf) ≡ length bytes + count = len_of bytes buf count fits in
    record {
      bytes = bytes ++ take count buf;
      read = taken_on was mid now bytes (take count buf) e f;
      few = omega (arith, n, short, room);
    }
