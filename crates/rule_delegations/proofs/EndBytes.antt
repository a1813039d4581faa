-- A text that does not end as a glob does is not matched.
use Rattle.std.proofs.Common.{◌≡◌, ℕ, ◌-◌, suc, arith, ◌==◌, ◌||◌, ◌&&◌, Bool, true, false, List, [], ◌∷◌, Option, Some, None, length, refl, sym, subst}
use Rattle.std.specs.Prelude.{slice_get}
use Rattle.std.proofs.lemmas.Bool.{eq-eqb, false≢true}
use Prim.Native.Nat as Nat
use Rattle.ref_patterns.specs.Globs.{Match, MatchesWhere, matches}
use Rattle.ref_patterns.specs.Globs.Match.{Ended, StarEnds, StarTakes, Any, Same}
use Rattle.rule_delegations.specs.Ends.{end_of, may_end}

end_at : (n : ℕ) (xs : List ℕ) → length xs ≡ suc n → slice_get xs n ≡ end_of xs
end_at n [] count = absurd (omega (arith, count))
end_at Nat.zero (x ∷ []) count = refl
end_at (suc n) (x ∷ []) count = absurd (omega (arith, count))
end_at Nat.zero (x ∷ y ∷ ys) count = absurd (omega (arith, count))
end_at (suc n) (x ∷ y ∷ ys) count = end_at n (y ∷ ys) (omega (arith, count))

pub end_is : (xs : List ℕ) → slice_get xs (length xs - 1) ≡ end_of xs
end_is [] = refl
end_is (x ∷ xs) =
    let less : length (x ∷ xs) - 1 ≡ length xs = omega (arith) in
    subst (λ (n : ℕ). slice_get (x ∷ xs) n ≡ end_of (x ∷ xs)) (sym less) (end_at (length xs) (x ∷ xs) refl)

either_way : (a b c : Bool) → (a || (b || false)) ≡ true → (a || (b || c)) ≡ true
either_way true b c is = refl
either_way false true c is = refl
either_way false false c is = absurd (false≢true is)

last_of_three : (a b c : Bool) → c ≡ true → (a || (b || c)) ≡ true
last_of_three true b c is = refl
last_of_three false true c is = refl
last_of_three false false c is = is

no_end : (e t : Option ℕ) → may_end e None ≡ true → may_end e t ≡ true
no_end None t is = refl
no_end (Some p) None is = is
no_end (Some p) (Some y) is = either_way (p == 42) (p == 63) (p == y) is

longer : (e : Option ℕ) (y : ℕ) (ys : List ℕ) → may_end e (end_of ys) ≡ true → may_end e (end_of (y ∷ ys)) ≡ true
longer e y [] is = no_end e (Some y) is
longer e y (z ∷ zs) is = is

own_end : (y : ℕ) (ys : List ℕ) → Match [] ys → may_end (Some y) (end_of (y ∷ ys)) ≡ true
own_end y _ Ended = last_of_three (y == 42) (y == 63) (y == y) (eq-eqb y y refl)

ends : (glob text : List ℕ) → Match glob text → may_end (end_of glob) (end_of text) ≡ true
ends _ _ Ended = refl
ends _ _ (StarEnds [] text rest) = refl
ends _ _ (StarEnds (p ∷ ps) text rest) = ends (p ∷ ps) text rest
ends _ _ (StarTakes ps y ys rest) = longer (end_of (42 ∷ ps)) y ys (ends (42 ∷ ps) ys rest)
ends _ _ (Any [] y ys rest) = refl
ends _ _ (Any (p ∷ ps) y ys rest) = longer (end_of (p ∷ ps)) y ys (ends (p ∷ ps) ys rest)
ends _ _ (Same [] y ys rest plain) = own_end y ys rest
ends _ _ (Same (p ∷ ps) y ys rest plain) = longer (end_of (p ∷ ps)) y ys (ends (p ∷ ps) ys rest)

by_end : (may same m : Bool) → (m ≡ true → may ≡ true) → (may && (same && m)) ≡ (same && m)
by_end true same m is = refl
by_end false true true is = absurd (false≢true (is refl))
by_end false true false is = refl
by_end false false m is = refl

-- to look at the ends first changes no answer
pub ends_first : MatchesWhere → (glob text : List ℕ) (same : Bool) → (may_end (end_of glob) (end_of text) && (same && matches glob text)) ≡ (same && matches glob text)
ends_first where_matches glob text same =
    by_end (may_end (end_of glob) (end_of text)) same (matches glob text) (λ is. ends glob text ((where_matches glob text).0 is))
