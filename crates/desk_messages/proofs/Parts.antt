-- Two pieces that are written one after the other.
use Rattle.std.proofs.Common.{◌≡◌, ℕ, List, ◌++◌, Option, sym, ap, ◌∙◌, append_assoc, arith, length-append}
use Rattle.octets.specs.Content.{GainsPart, with_end}
use Rattle.edge_io.proofs.Parts.{with_ends}

-- the first went out in part
pub first_part : (before after : Option (List ℕ)) (a b : List ℕ) → GainsPart before after a → GainsPart before after (a ++ b)
first_part before after a b part = record {
  front = part.front;
  rest = part.rest ++ b;
  whole = ap (λ (x : List ℕ). x ++ b) part.whole ∙ append_assoc part.front part.rest b;
  less = (let less = part.less in omega (arith, length-append part.rest b));
  gained = part.gained;
}

-- the first went out, and the second in part
pub second_part : (before mid after : Option (List ℕ)) (a b : List ℕ) → mid ≡ with_end before a → GainsPart mid after b → GainsPart before after (a ++ b)
second_part before mid after a b first part = record {
  front = a ++ part.front;
  rest = part.rest;
  whole = ap (λ (x : List ℕ). a ++ x) part.whole ∙ sym (append_assoc a part.front part.rest);
  less = part.less;
  gained = part.gained ∙ ap (λ (m : Option (List ℕ)). with_end m part.front) first ∙ with_ends before a part.front;
}

-- both went out
pub both : (before mid after : Option (List ℕ)) (a b : List ℕ) → mid ≡ with_end before a → after ≡ with_end mid b → after ≡ with_end before (a ++ b)
both before mid after a b first second = second ∙ ap (λ (m : Option (List ℕ)). with_end m b) first ∙ with_ends before a b
