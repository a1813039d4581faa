-- The test of a match is the relation by cases.
use Rattle.std.proofs.Common.{◌≡◌, ◌⊎◌, inl, inr, ℕ, ◌==◌, ◌||◌, Bool, true, false, List, [], ◌∷◌, refl, sym, ap, subst, ◌∙◌}
use Rattle.std.specs.Prelude.{IsTrue}
use Rattle.std.proofs.lemmas.Bool.{eq-eqb, eqb-true, false≢true}
use Rattle.ref_patterns.specs.Globs.{Match, MatchesWhere, after_byte, after_star, matches}
use Rattle.ref_patterns.specs.Globs.Match.{Ended, StarEnds, StarTakes, Any, Same}
use Rattle.ref_patterns.proofs.Passed.{byte_passed, byte_stuck, nothing_left, star_there}

either : (a b : Bool) → (a || b) ≡ true → (a ≡ true) ⊎ (b ≡ true)
either true b e = inl refl
either false b e = inr e

or_left : (a b : Bool) → a ≡ true → (a || b) ≡ true
or_left true b e = refl
or_left false b e = absurd (false≢true e)

or_right : (a b : Bool) → b ≡ true → (a || b) ≡ true
or_right true b e = refl
or_right false b e = e

-- ---- from the test to the relation

by_star : (ps : List ℕ) → ((text : List ℕ) → matches ps text ≡ true → Match ps text) → (text : List ℕ) → after_star (matches ps) text ≡ true → Match (42 ∷ ps) text
by_star ps rest [] e = StarEnds ps [] (rest [] e)
by_star ps rest (y ∷ ys) e = elim (either (matches ps (y ∷ ys)) (after_star (matches ps) ys) e) [
  | inl here ↦ StarEnds ps (y ∷ ys) (rest (y ∷ ys) here)
  | inr later ↦ StarTakes ps y ys (by_star ps rest ys later)
]

by_byte : (p y : ℕ) (ps ys : List ℕ) → (p == 42) ≡ false → (p == 63 || p == y) ≡ true → Match ps ys → Match (p ∷ ps) (y ∷ ys)
by_byte p y ps ys plain fits rest = elim (either (p == 63) (p == y) fits) [
  | inl mark ↦ subst (λ (q : ℕ). Match (q ∷ ps) (y ∷ ys)) (sym (eqb-true p 63 mark)) (Any ps y ys rest)
  | inr same ↦
      let is = eqb-true p y same in
      subst (λ (q : ℕ). Match (q ∷ ps) (y ∷ ys)) (sym is) (Same ps y ys rest (subst (λ (q : ℕ). (q == 42) ≡ false) is plain))
]

by_fit : (p y : ℕ) (ps ys : List ℕ) (b : Bool) → (p == 63 || p == y) ≡ b → (p == 42) ≡ false → (matches ps ys ≡ true → Match ps ys) → matches (p ∷ ps) (y ∷ ys) ≡ true → Match (p ∷ ps) (y ∷ ys)
by_fit p y ps ys true fits plain rest e = by_byte p y ps ys plain fits (rest (sym (byte_passed p y ps ys plain fits) ∙ e))
by_fit p y ps ys false fits plain rest e = absurd (false≢true (sym (byte_stuck p y ps ys plain fits) ∙ e))

by_first : (p : ℕ) (ps text : List ℕ) (b : Bool) → (p == 42) ≡ b → ((t : List ℕ) → matches ps t ≡ true → Match ps t) → matches (p ∷ ps) text ≡ true → Match (p ∷ ps) text
by_first p ps text true star rest e =
    subst (λ (q : ℕ). Match (q ∷ ps) text) (sym (eqb-true p 42 star)) (by_star ps rest text (sym (star_there p ps text star) ∙ e))
by_first p ps [] false plain rest e = absurd (false≢true (sym (nothing_left p ps plain) ∙ e))
by_first p ps (y ∷ ys) false plain rest e = by_fit p y ps ys (p == 63 || p == y) refl plain (rest ys) e

to_match : (glob text : List ℕ) → matches glob text ≡ true → Match glob text
to_match [] [] e = Ended
to_match [] (y ∷ ys) e = absurd (false≢true e)
to_match (p ∷ ps) text e = by_first p ps text (p == 42) refl (to_match ps) e

-- ---- from the relation to the test

star_ends : (ps text : List ℕ) → matches ps text ≡ true → after_star (matches ps) text ≡ true
star_ends ps [] e = e
star_ends ps (y ∷ ys) e = or_left (matches ps (y ∷ ys)) (after_star (matches ps) ys) e

from_match : (glob text : List ℕ) → Match glob text → matches glob text ≡ true
from_match _ _ Ended = refl
from_match _ _ (StarEnds ps text rest) = star_there 42 ps text refl ∙ star_ends ps text (from_match ps text rest)
from_match _ _ (StarTakes ps y ys rest) =
    star_there 42 ps (y ∷ ys) refl ∙ or_right (matches ps (y ∷ ys)) (after_star (matches ps) ys) (sym (star_there 42 ps ys refl) ∙ from_match (42 ∷ ps) ys rest)
from_match _ _ (Any ps y ys rest) = byte_passed 63 y ps ys refl refl ∙ from_match ps ys rest
from_match _ _ (Same ps y ys rest plain) = byte_passed y y ps ys plain (or_right (y == 63) (y == y) (eq-eqb y y refl)) ∙ from_match ps ys rest

pub matches_as : MatchesWhere
matches_as glob text = (to_match glob text, from_match glob text)
