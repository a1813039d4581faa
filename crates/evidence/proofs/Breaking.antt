-- A text breaks at one place, and a dossier's text nowhere.
use Rattle.std.proofs.Common.{◌≡◌, ◌+◌, ◌++◌, ℕ, List, [], length, refl, sym, ap, subst, ◌∙◌, inl, inr}
use Rattle.evidence.specs.Breaks.{BreaksIn, BreaksKey, BreaksLast, BreaksLeft, BreaksRight, IsBreak, IsEndLine, IsHeader, IsKeyLine, IsSide, OneDossier, OverRuns}
use Rattle.evidence.specs.Dossiers.{IsDossierText, IsSpelled, end_line, header, key_line, left_word, right_word, side_text}
use Rattle.evidence.specs.Parts.{HasParts}
use Rattle.evidence.specs.declared.dossiers.Dossier.{Dossier}
use Rattle.text_reader.proofs.Unique.{same_front}
use Rattle.evidence.proofs.KeyLines.{same_key_line}
use Rattle.evidence.proofs.Sides.{same_side}

-- ---- parts
-- what stands in front is the only such part that could
abbrev OneFront : (List ℕ → Type 0) → Type 0
OneFront P = (a b x y : List ℕ) → P a → P b → a ++ x ≡ b ++ y → (a ≡ b) × (x ≡ y)

exact_front : (w : List ℕ) → OneFront (λ part. part ≡ w)
exact_front w a b x y ia ib e = (ia ∙ sym ib, same_front w x y (sym (ap (λ (p : List ℕ). p ++ x) ia) ∙ e ∙ ap (λ (p : List ℕ). p ++ y) ib))

key_front : OneFront IsKeyLine
key_front a b x y ia ib e =
    let parts = same_key_line ia.public ib.public x y ia.is_public ib.is_public (sym (ap (λ (p : List ℕ). p ++ x) ia.is) ∙ e ∙ ap (λ (p : List ℕ). p ++ y) ib.is) in
    (ia.is ∙ ap key_line parts.0 ∙ sym ib.is, parts.1)

side_front : (word : List ℕ) → OneFront (IsSide word)
side_front word a b x y ia ib e =
    let parts = same_side word ia.body ib.body x y ia.small ib.small (sym (ap (λ (p : List ℕ). p ++ x) ia.is) ∙ e ∙ ap (λ (p : List ℕ). p ++ y) ib.is) in
    (ia.is ∙ ap (side_text word) parts.0 ∙ sym ib.is, parts.1)

-- ---- one place
abbrev OnePlace : (ℕ → List ℕ → ℕ → Type 0) → Type 0
OnePlace B = (place : ℕ) (rest : List ℕ) (m n : ℕ) → B place rest m → B place rest n → m ≡ n

moved : (B : ℕ → List ℕ → ℕ → Type 0) (place : ℕ) (a b x y : List ℕ) (at : ℕ) → a ≡ b → x ≡ y → B (place + length b) y at → B (place + length a) x at
moved B place a b x y at same rest breaks =
    subst (λ (p : List ℕ). B (place + length p) x at) (sym same) (subst (λ (r : List ℕ). B (place + length b) r at) (sym rest) breaks)

one_in : (P : List ℕ → Type 0) (B : ℕ → List ℕ → ℕ → Type 0) → OneFront P → OnePlace B → OnePlace (BreaksIn P B)
one_in P B front one place rest m n (inl a) (inl b) = a.1 ∙ sym b.1
one_in P B front one place rest m n (inl a) (inr b) = absurd (a.0 b.part b.more b.is_part b.whole)
one_in P B front one place rest m n (inr a) (inl b) = absurd (b.0 a.part a.more a.is_part a.whole)
one_in P B front one place rest m n (inr a) (inr b) =
    let same = front a.part b.part a.more b.more a.is_part b.is_part (sym a.whole ∙ b.whole) in
    one (place + length a.part) a.more m n a.breaks (moved B place a.part b.part a.more b.more n same.0 same.1 b.breaks)

one_over : OnePlace OverRuns
one_over place rest m n a b = a.1 ∙ sym b.1

one_last : OnePlace BreaksLast
one_last = one_in IsEndLine OverRuns (exact_front end_line) one_over

one_right : OnePlace BreaksRight
one_right = one_in (IsSide right_word) BreaksLast (side_front right_word) one_last

one_left : OnePlace BreaksLeft
one_left = one_in (IsSide left_word) BreaksRight (side_front left_word) one_right

one_key : OnePlace BreaksKey
one_key = one_in IsKeyLine BreaksLeft key_front one_left

one_break : (text : List ℕ) (m n : ℕ) → IsBreak text m → IsBreak text n → m ≡ n
one_break text = one_in IsHeader BreaksKey (exact_front header) one_key 0 text

-- ---- none in a dossier's text
stands : (P : List ℕ → Type 0) (B : ℕ → List ℕ → ℕ → Type 0) → OneFront P → (place : ℕ) (part more : List ℕ) (at : ℕ) → P part → BreaksIn P B place (part ++ more) at
    → B (place + length part) more at
stands P B front place part more at is (inl a) = absurd (a.0 part more is refl)
stands P B front place part more at is (inr b) =
    let same = front part b.part more b.more is b.is_part b.whole in
    moved B place part b.part more b.more at same.0 same.1 b.breaks

whole : (d : Dossier) (text : List ℕ) (at : ℕ) → IsDossierText d text → IsBreak text at → ⊥
whole d text at is breaks =
    let side = λ (word body : List ℕ). side_text word body in
    let last = side right_word d.right ++ end_line in
    let sides = side left_word d.left ++ last in
    let key = key_line d.public in
    let a = stands IsHeader BreaksKey (exact_front header) 0 header (key ++ sides) at refl (subst (λ (t : List ℕ). IsBreak t at) is.whole breaks) in
    let b = stands IsKeyLine BreaksLeft key_front (0 + length header) key sides at (record { public = d.public; is_public = is.is.public; is = refl }) a in
    let e = stands (IsSide left_word) BreaksRight (side_front left_word) (0 + length header + length key) (side left_word d.left) last at (record { body = d.left; small = is.is.left; is = refl }) b in
    let f = stands (IsSide right_word) BreaksLast (side_front right_word) (0 + length header + length key + length (side left_word d.left)) (side right_word d.right) end_line at
    (record { body = d.right; small = is.is.right; is = refl }) e in
    let g = stands IsEndLine OverRuns (exact_front end_line) (0 + length header + length key + length (side left_word d.left) + length (side right_word d.right)) end_line [] at refl f in
    g.0 refl

-- ---- one dossier
same_dossier : (d e : Dossier) (text : List ℕ) → IsDossierText d text → IsDossierText e text → d ≡ e
same_dossier d e text id ie =
    let both = sym id.whole ∙ ie.whole in
    let behind = same_front header
    (key_line d.public ++ (side_text left_word d.left ++ (side_text right_word d.right ++ end_line)))
    (key_line e.public ++ (side_text left_word e.left ++ (side_text right_word e.right ++ end_line))) both in
    let keys = same_key_line d.public e.public (side_text left_word d.left ++ (side_text right_word d.right ++ end_line))
    (side_text left_word e.left ++ (side_text right_word e.right ++ end_line)) id.is.public ie.is.public behind in
    let lefts = same_side left_word d.left e.left (side_text right_word d.right ++ end_line) (side_text right_word e.right ++ end_line) id.is.left ie.is.left keys.1 in
    let rights = same_side right_word d.right e.right end_line end_line id.is.right ie.is.right lefts.1 in
    let public = keys.0 in
    let left = lefts.0 in
    let right = rights.0 in
    λ i. record { public = public i; left = left i; right = right i }

pub one_dossier : OneDossier
one_dossier = record {
  one_text = λ d a b ia ib. ia.whole ∙ sym ib.whole;
  one_dossier = same_dossier;
  apart = λ text at is breaks. whole is.0 text at is.1 breaks;
  one_place = one_break;
}

-- ---- what a reader finds
-- a part stands in front, and the next place breaks
pub goes_on : (P : List ℕ → Type 0) (B : ℕ → List ℕ → ℕ → Type 0) (place : ℕ) (rest part more : List ℕ) (next at : ℕ) → P part → rest ≡ part ++ more
    → next ≡ place + length part → B next more at → BreaksIn P B place rest at
goes_on P B place rest part more next at is found to breaks =
    inr (record { part = part; more = more; is_part = is; whole = found; breaks = subst (λ (n : ℕ). B n more at) to breaks })

pub spelled_by : (text public left right : List ℕ) → HasParts text public left right → IsSpelled text
spelled_by text public left right parts = (
  record { public = public; left = left; right = right },
  record { is = record { public = parts.is_public; left = parts.left_small; right = parts.right_small }; whole = parts.whole },
)
