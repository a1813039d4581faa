-- What is passed of a glob, and that only the last star needs to take more.
use Rattle.std.proofs.Common.{◌≡◌, ◌⊎◌, inl, inr, ℕ, zero, suc, ◌+◌, ◌<◌, ◌≤◌, ◌==◌, ◌||◌, Bool, true, false, List, [], ◌∷◌, ◌++◌, length, drop, refl, sym, ap, subst, ◌∙◌, append_assoc, arith, length-append}
use Rattle.std.specs.Prelude.{if◌then◌else◌}
use Rattle.std.specs.List.{AllByRecursion}
use Rattle.std.proofs.lemmas.Bool.{false≢true}
use Rattle.std.proofs.lemmas.List.{drop-drop, length-drop}
use Rattle.ref_patterns.specs.Globs.{after_byte, after_star, matches}
use Rattle.ref_patterns.specs.Passing.{IsFound, IsPass, IsPassed, is_stuck}
use Rattle.ref_patterns.specs.declared.globs.Pass.{Pass}
use Rattle.ref_patterns.specs.declared.globs.Pass.TheVariants.{Star, Whole, Stuck}

abbrev pub ArePlain : List ℕ → Type 0
ArePlain mid = AllByRecursion (λ p. (p == 42) ≡ false) mid

pub or_false : (b : Bool) → (b || false) ≡ b
or_false true = refl
or_false false = refl

or_right : (a b : Bool) → b ≡ true → (a || b) ≡ true
or_right true b e = refl
or_right false b e = e

either : (a b : Bool) → (a || b) ≡ true → (a ≡ true) ⊎ (b ≡ true)
either true b e = inl refl
either false b e = inr e

-- one that follows from the other adds nothing
pub or_same : (a b : Bool) → (b ≡ true → a ≡ true) → (a || b) ≡ a
or_same true b follows = refl
or_same false true follows = absurd (false≢true (follows refl))
or_same false false follows = refl

-- ---- one byte

pub star_there : (p : ℕ) (ps text : List ℕ) → (p == 42) ≡ true → matches (p ∷ ps) text ≡ after_star (matches ps) text
star_there p ps text is = ap (λ (b : Bool). if b then after_star (matches ps) text else after_byte p (matches ps) text) is

pub byte_there : (p : ℕ) (ps text : List ℕ) → (p == 42) ≡ false → matches (p ∷ ps) text ≡ after_byte p (matches ps) text
byte_there p ps text is = ap (λ (b : Bool). if b then after_star (matches ps) text else after_byte p (matches ps) text) is

pub byte_passed : (p y : ℕ) (ps ys : List ℕ) → (p == 42) ≡ false → (p == 63 || p == y) ≡ true → matches (p ∷ ps) (y ∷ ys) ≡ matches ps ys
byte_passed p y ps ys plain fits = byte_there p ps (y ∷ ys) plain ∙ ap (λ (b : Bool). if b then matches ps ys else false) fits

pub byte_stuck : (p y : ℕ) (ps ys : List ℕ) → (p == 42) ≡ false → (p == 63 || p == y) ≡ false → matches (p ∷ ps) (y ∷ ys) ≡ false
byte_stuck p y ps ys plain fits = byte_there p ps (y ∷ ys) plain ∙ ap (λ (b : Bool). if b then matches ps ys else false) fits

pub nothing_left : (p : ℕ) (ps : List ℕ) → (p == 42) ≡ false → matches (p ∷ ps) [] ≡ false
nothing_left p ps plain = byte_there p ps [] plain

-- ---- plain bytes

by_fit : (p y : ℕ) (ps ys : List ℕ) (b : Bool) → (p == 63 || p == y) ≡ b → (p == 42) ≡ false → matches (p ∷ ps) (y ∷ ys) ≡ true → matches ps ys ≡ true
by_fit p y ps ys true fits plain e = sym (byte_passed p y ps ys plain fits) ∙ e
by_fit p y ps ys false fits plain e = absurd (false≢true (sym (byte_stuck p y ps ys plain fits) ∙ e))

-- where plain bytes and what follows match, what follows matches behind as many bytes
plain_passed : (mid rest text : List ℕ) → ArePlain mid → matches (mid ++ rest) text ≡ true → matches rest (drop (length mid) text) ≡ true
plain_passed [] rest text plain e = e
plain_passed (p ∷ mid) rest [] plain e = absurd (false≢true (sym (nothing_left p (mid ++ rest) plain.0) ∙ e))
plain_passed (p ∷ mid) rest (y ∷ ys) plain e = plain_passed mid rest ys plain.1 (by_fit p y (mid ++ rest) ys (p == 63 || p == y) refl plain.0 e)

-- ---- stars

-- a star takes the bytes before a place from which the rest matches
star_takes : (rest : List ℕ → Bool) (n : ℕ) (text : List ℕ) → after_star rest (drop n text) ≡ true → after_star rest text ≡ true
star_takes rest zero text e = e
star_takes rest (suc n) [] e = e
star_takes rest (suc n) (y ∷ ys) e = or_right (rest (y ∷ ys)) (after_star rest ys) (star_takes rest n ys e)

-- the rest matches from some place on
star_place : (rest : List ℕ → Bool) (text : List ℕ) → after_star rest text ≡ true → (n : ℕ) × (rest (drop n text) ≡ true)
star_place rest [] e = (0, e)
star_place rest (y ∷ ys) e = elim (either (rest (y ∷ ys)) (after_star rest ys) e) [
  | inl here ↦ (0, here)
  | inr later ↦ let found = star_place rest ys later in (suc found.0, found.1)
]

drops_swap : (m n : ℕ) (xs : List ℕ) → drop m (drop n xs) ≡ drop n (drop m xs)
drops_swap m n xs = let same : n + m ≡ m + n = omega arith in drop-drop m n xs ∙ ap (λ (k : ℕ). drop k xs) same ∙ sym (drop-drop n m xs)

-- where a star's rest matches from a later place, and up to its next star it was passed here, the next star takes as much
pub jump : (mid after text : List ℕ) → ArePlain mid → after_star (matches (mid ++ 42 ∷ after)) text ≡ true → after_star (matches after) (drop (length mid) text) ≡ true
jump mid after text plain e =
    let found = star_place (matches (mid ++ 42 ∷ after)) text e in
    let behind : matches (42 ∷ after) (drop (length mid) (drop found.0 text)) ≡ true = plain_passed mid (42 ∷ after) (drop found.0 text) plain found.1 in
    star_takes (matches after) found.0 (drop (length mid) text) (ap (after_star (matches after)) (drops_swap found.0 (length mid) text) ∙ behind)

-- ---- one byte more, and one place more

all_push : (mid : List ℕ) (p : ℕ) → ArePlain mid → (p == 42) ≡ false → ArePlain (mid ++ p ∷ [])
all_push [] p all plain = (plain, tt)
all_push (q ∷ mid) p all plain = (all.0, all_push mid p all.1 plain)

pub further : (glob text rest left after more : List ℕ) (p y : ℕ) → IsPassed glob text rest left → rest ≡ p ∷ after → left ≡ y ∷ more → (p == 42) ≡ false → (p == 63 || p == y) ≡ true → IsPassed glob text after more
further glob text rest left after more p y passed first there plain fits =
    let behind = ap length there ∙ refl in
    let some : length (drop (length passed.mid) text) ≡ length more + 1 = sym (ap length passed.place) ∙ ap length there ∙ (let one : length (y ∷ more) ≡ length more + 1 = omega arith in one) in
    let dropped = length-drop (length passed.mid) text in
    let long = length-append passed.mid (p ∷ []) in
    record {
      mid = passed.mid ++ p ∷ [];
      plain = all_push passed.mid p passed.plain plain;
      front = passed.front ∙ ap (λ (r : List ℕ). passed.mid ++ r) first ∙ sym (append_assoc passed.mid (p ∷ []) after);
      within = omega (arith, some, dropped, long, passed.within);
      place =
          let next : drop 1 left ≡ more = ap (drop 1) there in
          sym next ∙ ap (drop 1) passed.place ∙ drop-drop 1 (length passed.mid) text ∙ ap (λ (n : ℕ). drop n text) (let same : length passed.mid + 1 ≡ length (passed.mid ++ p ∷ []) = omega (arith, long) in same);
      same = passed.same ∙ ap (λ (r : List ℕ). matches r left) first ∙ ap (matches (p ∷ after)) there ∙ byte_passed p y after more plain fits;
    }

pub at_star : (glob text rest left after : List ℕ) → IsPassed glob text rest left → rest ≡ 42 ∷ after → IsPassed glob text (42 ∷ after) left
at_star glob text rest left after passed first = subst (λ (r : List ℕ). IsPassed glob text r left) first passed

star_here : (rest : List ℕ → Bool) (text : List ℕ) → rest text ≡ true → after_star rest text ≡ true
star_here rest [] e = e
star_here rest (y ∷ ys) e = ap (λ (b : Bool). b || after_star rest ys) e

-- where the rest does not match here, the star takes one byte more
pub place_passed : (rest left more : List ℕ) (y : ℕ) → left ≡ y ∷ more → matches rest left ≡ false → after_star (matches rest) left ≡ after_star (matches rest) more
place_passed rest left more y there stuck =
    ap (after_star (matches rest)) there ∙ ap (λ (b : Bool). b || after_star (matches rest) more) (sym (ap (matches rest) there) ∙ stuck)

-- up to the next star the rest was passed here, and no later place is needed
star_next : (rest left after l : List ℕ) → IsPassed rest left (42 ∷ after) l → after_star (matches rest) left ≡ matches (42 ∷ after) l
star_next rest [] after l passed = passed.same
star_next rest (y ∷ ys) after l passed =
    or_same (matches rest (y ∷ ys)) (after_star (matches rest) ys) (λ later.
    let whole : after_star (matches rest) (y ∷ ys) ≡ true = or_right (matches rest (y ∷ ys)) (after_star (matches rest) ys) later in
    let as_mid : after_star (matches (passed.mid ++ 42 ∷ after)) (y ∷ ys) ≡ true = sym (ap (λ (r : List ℕ). after_star (matches r) (y ∷ ys)) passed.front) ∙ whole in
    passed.same ∙ ap (after_star (matches after)) passed.place ∙ jump passed.mid after (y ∷ ys) passed.plain as_mid)
    ∙ passed.same

pub found : (rest text left : List ℕ) (p : Pass) → after_star (matches rest) text ≡ after_star (matches rest) left → IsPass rest left p → (is_stuck p ≡ false) ⊎ (left ≡ []) → IsFound rest text p
found rest text left (Star after l) same passed free =
    let long = ap length passed.front in
    let parts = length-append passed.mid (42 ∷ after.now) in
    (same ∙ star_next rest left after.now l.now passed, omega (arith, long, parts))
found rest text left Whole same passed free = same ∙ star_here (matches rest) left passed
found rest text left Stuck same passed (inl free) = absurd (false≢true (sym free))
found rest text left Stuck same passed (inr none) = same ∙ ap (after_star (matches rest)) none ∙ sym (ap (matches rest) none) ∙ passed
