-- Keys taken away one after the other.
use Rattle.std.proofs.Common.{◌≡◌, ◌<◌, Bool, true, false, cond, ◌||◌, List, [], ◌∷◌, Option, None, length, refl, ap, ◌∙◌, arith}
use Rattle.std.proofs.lemmas.Bool.{false≢true}
use Rattle.std.specs.BTreeMap.{is_at}
use Rattle.std.specs.Cmp.{IsTotalOrder, eq_by_cmp_equiv}
use Rattle.std.specs.Ordering.{eq_by_cmp}
use Rattle.std.specs.declared.cmp.Ordering.{Ordering}

or_none : {X : Type 0} (b s : Bool) (x : Option X) → cond s None (cond b None x) ≡ cond (b || s) None x
or_none true true x = refl
or_none true false x = refl
or_none false s x = refl

-- one key is taken away now, and the others later
pub removed_more : {K X : Type 0} {R : K → K → Ordering} → IsTotalOrder R → (k q : K) (s : Bool) (x : Option X) → cond s None (cond (is_at (R k) q) None x) ≡ cond (is_at (R q) k || s) None x
removed_more {R = R} o k q s x =
    ap (λ b. cond s None (cond b None x)) ((eq_by_cmp_equiv o).symm k q) ∙ or_none (eq_by_cmp R q k) s x

-- a list without an item
pub nothing_left : {X : Type 0} (xs : List X) → (0 < length xs → false ≡ true) → xs ≡ []
nothing_left [] h = refl
nothing_left (x ∷ xs) h = absurd (false≢true (h (omega arith)))
