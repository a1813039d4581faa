-- Texts that are written one after the other.
use Rattle.std.proofs.Common.{◌≡◌, ◌≤◌, ℕ, List, [], ◌++◌, Option, Some, None, refl, sym, ap, ◌∙◌, append_assoc, arith, length-append}
use Rattle.std.specs.Prelude.{OnErr, Ok, Err, Result}
use Rattle.std.proofs.lemmas.List.{append-nil}
use Rattle.octets.specs.Content.{GainsPart, with_end}
use Rattle.edge_io.proofs.Parts.{with_ends}
use Rattle.clone_stream.specs.Exports.{IsPut}

-- a front of the first of two texts is a front of both
pub part_first : (o n : Option (List ℕ)) (a b : List ℕ) → GainsPart o n a → GainsPart o n (a ++ b)
part_first o n a b part = record {
  front = part.front;
  rest = part.rest ++ b;
  whole = ap (λ (t : List ℕ). t ++ b) part.whole ∙ append_assoc part.front part.rest b;
  less = omega (arith, part.less, length-append part.rest b);
  gained = part.gained;
}

-- the first text and a front of the second
pub part_then : (o m n : Option (List ℕ)) (a b : List ℕ) → m ≡ with_end o a → GainsPart m n b → GainsPart o n (a ++ b)
part_then o m n a b first part = record {
  front = a ++ part.front;
  rest = part.rest;
  whole = ap (λ (t : List ℕ). a ++ t) part.whole ∙ sym (append_assoc a part.front part.rest);
  less = part.less;
  gained = part.gained ∙ ap (λ (p : Option (List ℕ)). with_end p part.front) first ∙ with_ends o a part.front;
}

pub part_last : {T E : Type 0} (r : Result T E) (o m n : Option (List ℕ)) (a b : List ℕ) → m ≡ with_end o a → OnErr r (GainsPart m n b) → OnErr r (GainsPart o n (a ++ b))
part_last (Ok x) o m n a b first part = tt
part_last (Err x) o m n a b first part = part_then o m n a b first part

pub on_err : {T E : Type 0} (r : Result T E) (P : Type 0) → P → OnErr r P
on_err (Ok x) P p = tt
on_err (Err x) P p = p

-- nothing is added at the end
pub no_end : (o : Option (List ℕ)) → o ≡ with_end o []
no_end None = refl
no_end (Some x) = ap Some (sym (append-nil x))

pub none_put : (o : Option (List ℕ)) (n : ℕ) → n ≤ 1073741824 → IsPut [] n o o n
none_put o n few = record { gained = no_end o; long = omega arith; within = few }

-- two texts, one after the other
pub put_then : (a b : List ℕ) (u v w : ℕ) (o m n : Option (List ℕ)) → IsPut a u o m v → IsPut b v m n w → IsPut (a ++ b) u o n w
put_then a b u v w o m n first second = record {
  gained = second.gained ∙ ap (λ (p : Option (List ℕ)). with_end p b) first.gained ∙ with_ends o a b;
  long = let both = length-append a b in let e = first.long in let f = second.long in omega arith;
  within = second.within;
}
