-- The parts of a text between slashes, and two bytes that stand together.
use Rattle.std.proofs.Common.{◌≡◌, ◌⊎◌, inl, inr, ℕ, ◌==◌, Bool, true, false, ◌&&◌, ◌||◌, List, [], ◌∷◌, ◌++◌, refl, sym, ap, subst, ◌∙◌}
use Rattle.std.specs.Prelude.{IsTrue, cond}
use Rattle.std.specs.List.{AllByRecursion, onto_first, slice_split}
use Rattle.std.proofs.lemmas.Bool.{and_parts, eq-eqb, eqb-true, false≢true}
use Rattle.text_reader.specs.Line.{has_byte}
use Rattle.git_object.specs.Names.{components, has_pair}

-- a byte that is no slash in front of the first part
onto : (x : ℕ) (parts : List (List ℕ)) → (x == 47) ≡ false → AllByRecursion (λ part. has_byte 47 part ≡ false) parts → AllByRecursion (λ part. has_byte 47 part ≡ false) (onto_first x parts)
onto x [] other all = (ap (λ (t : Bool). t || false) other, tt)
onto x (part ∷ parts) other all = (ap (λ (t : Bool). t || has_byte 47 part) other ∙ all.0, all.1)

cut : (x : ℕ) (b : Bool) (parts : List (List ℕ)) → (x == 47) ≡ b → AllByRecursion (λ part. has_byte 47 part ≡ false) parts → AllByRecursion (λ part. has_byte 47 part ≡ false) (cond b ([] ∷ parts) (onto_first x parts))
cut x true parts is all = (refl, all)
cut x false parts is all = onto x parts is all

pub no_slash : (text : List ℕ) → AllByRecursion (λ part. has_byte 47 part ≡ false) (components text)
no_slash [] = (refl, tt)
no_slash (x ∷ text) = cut x (x == 47) (components text) refl (no_slash text)

abbrev Together : ℕ → ℕ → List ℕ → Type 0
Together x y text = (front : List ℕ) × (rest : List ℕ) × (text ≡ front ++ x ∷ y ∷ rest)

further : (x y b : ℕ) (text : List ℕ) → Together x y text → Together x y (b ∷ text)
further x y b text there = (b ∷ there.0, there.1, ap (λ (t : List ℕ). b ∷ t) there.2)

either : (a b : Bool) → (a || b) ≡ true → (a ≡ true) ⊎ (b ≡ true)
either true b e = inl refl
either false b e = inr e

pub pair_found : (x y : ℕ) (text : List ℕ) → IsTrue (has_pair x y text) → (front : List ℕ) × (rest : List ℕ) × (text ≡ front ++ x ∷ y ∷ rest)
pair_found x y [] has = absurd (false≢true has)
pair_found x y (b ∷ []) has = absurd (false≢true has)
pair_found x y (b ∷ c ∷ bs) has = elim (either (b == x && c == y) (has_pair x y (c ∷ bs)) has) [
  | inl here ↦
      let parts = and_parts (b == x) (c == y) here in
      ([], bs, ap (λ (k : ℕ). k ∷ c ∷ bs) (eqb-true b x parts.0) ∙ ap (λ (k : ℕ). x ∷ k ∷ bs) (eqb-true c y parts.1))
  | inr later ↦ further x y b (c ∷ bs) (pair_found x y (c ∷ bs) later)
]

or_right : (a b : Bool) → b ≡ true → (a || b) ≡ true
or_right true b e = refl
or_right false b e = e

more_front : (x y b : ℕ) (text : List ℕ) → has_pair x y text ≡ true → has_pair x y (b ∷ text) ≡ true
more_front x y b [] has = absurd (false≢true has)
more_front x y b (c ∷ text) has = or_right (b == x && c == y) (has_pair x y (c ∷ text)) has

at_front : (x y : ℕ) (front rest : List ℕ) → has_pair x y (front ++ x ∷ y ∷ rest) ≡ true
at_front x y [] rest =
    ap (λ (t : Bool). (t && y == y) || has_pair x y (y ∷ rest)) (eq-eqb x x refl) ∙ ap (λ (t : Bool). t || has_pair x y (y ∷ rest)) (eq-eqb y y refl)
at_front x y (b ∷ front) rest = more_front x y b (front ++ x ∷ y ∷ rest) (at_front x y front rest)

pub pair_there : (x y : ℕ) (text front rest : List ℕ) → text ≡ front ++ x ∷ y ∷ rest → IsTrue (has_pair x y text)
pair_there x y text front rest is = subst (λ (t : List ℕ). has_pair x y t ≡ true) (sym is) (at_front x y front rest)
