-- Texts that are printed one after the other.
use Rattle.std.proofs.Common.{◌≡◌, ℕ, List, [], ◌++◌, Option, Some, None, refl, sym, ap, ◌∙◌, append_assoc, arith, length-append}
use Rattle.std.specs.Prelude.{OnErr, OnOk, Ok, Err, Result}
use Rattle.std.proofs.lemmas.List.{append-nil}
use Rattle.octets.specs.Content.{GainsPart, with_end}
use Rattle.edge_io.proofs.Parts.{with_ends}

-- nothing is added at the end
pub no_end : (o : Option (List ℕ)) → o ≡ with_end o []
no_end None = refl
no_end (Some x) = ap Some (sym (append-nil x))

-- the second text after the first
pub end_then : (o m n : Option (List ℕ)) (a b : List ℕ) → m ≡ with_end o a → n ≡ with_end m b → n ≡ with_end o (a ++ b)
end_then o m n a b first more = more ∙ ap (λ (p : Option (List ℕ)). with_end p b) first ∙ with_ends o a b

-- a front of the first of two texts is a front of both
pub part_first : (o n : Option (List ℕ)) (a b : List ℕ) → GainsPart o n a → GainsPart o n (a ++ b)
part_first o n a b part = record {
  front = part.front;
  rest = part.rest ++ b;
  whole = ap (λ (t : List ℕ). t ++ b) part.whole ∙ append_assoc part.front part.rest b;
  less = omega (arith, part.less, length-append part.rest b);
  gained = part.gained;
}

-- the first text and a front of the second
pub part_then : (o m n : Option (List ℕ)) (a b : List ℕ) → m ≡ with_end o a → GainsPart m n b → GainsPart o n (a ++ b)
part_then o m n a b first part = record {
  front = a ++ part.front;
  rest = part.rest;
  whole = ap (λ (t : List ℕ). a ++ t) part.whole ∙ sym (append_assoc a part.front part.rest);
  less = part.less;
  gained = end_then o m n a part.front first part.gained;
}

pub part_last : {T E : Type 0} (r : Result T E) (o m n : Option (List ℕ)) (a b : List ℕ) → m ≡ with_end o a → OnErr r (GainsPart m n b) → OnErr r (GainsPart o n (a ++ b))
part_last (Ok x) o m n a b first part = tt
part_last (Err x) o m n a b first part = part_then o m n a b first part

pub on_err : {T E : Type 0} (r : Result T E) (P : Type 0) → P → OnErr r P
on_err (Ok x) P p = tt
on_err (Err x) P p = p

pub end_last : {T E : Type 0} (r : Result T E) (o m n : Option (List ℕ)) (a b : List ℕ) → m ≡ with_end o a → OnOk r (n ≡ with_end m b) → OnOk r (n ≡ with_end o (a ++ b))
end_last (Ok x) o m n a b first more = end_then o m n a b first more
end_last (Err x) o m n a b first more = tt
