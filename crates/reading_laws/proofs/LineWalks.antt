-- The lines of a body that is read: each stands at its place of the table.
use Rattle.std.proofs.Common.{◌≡◌, ℕ, zero, suc, ◌+◌, ◌<◌, ◌==◌, Bool, true, false, ◌&&◌, ◌||◌, List, [], ◌∷◌, ◌++◌}
use Rattle.std.proofs.Common.{length, Option, Some, None, Ok, Err, refl, sym, ap, ◌∙◌}
use Rattle.std.proofs.Common.{arith, append-nil}
use Rattle.std.specs.Prelude.{cond}
use Rattle.std.specs.List.{AllByRecursion}
use Rattle.std.proofs.lemmas.Bool.{and_parts, eqb-true}
use Rattle.base64.specs.GeneralPurpose.{IsBytes}
use Rattle.text_reader.specs.Line.{has_byte}
use Rattle.rsl_chain.specs.Drafts.{joined}
use Rattle.rsl_chain.specs.Grammar.{fits, may_end, number_if, number_step, piece_step, piece_want, plain_if, start, step}
use Rattle.rsl_chain.specs.Lines.{lines, onto_lines}
use Rattle.rsl_chain.specs.Reading.{Reading, at_end, entry_as, entry_of, goes_on, judge, no_parts, put, reading}
use Rattle.rsl_chain.specs.declared.entries.Entry.{Entry}
use Rattle.rsl_chain.specs.declared.parts.Parts.{Parts}
use Rattle.rsl_chain.specs.declared.places.Place.{Place}
use Rattle.rsl_chain.specs.declared.places.Step.{Step}
use Rattle.rsl_chain.specs.declared.places.Want.{Want}
use Rattle.rsl_chain.proofs.DraftLemmas.{whole}
use Rattle.rsl_chain.proofs.PlainLines.{Plain}
use Rattle.rsl_chain.proofs.Runs.{at}

abbrev Text : Type 0
Text = List ℕ

-- ---- the lines of bytes

-- a line without a line feed, of bytes
abbrev pub IsLine : Text → Type 0
IsLine line = Plain line × IsBytes line

abbrev pub AreLines : List Text → Type 0
AreLines ls = AllByRecursion IsLine ls

byte_more : (b : ℕ) (line : Text) → b < 256 → IsBytes line → IsBytes (b ∷ line)
byte_more b line low bytes zero = low
byte_more b line low bytes (suc i) = bytes i

no_feed : (b : ℕ) (more : Bool) → (b == 10) ≡ false → more ≡ false → ((b == 10) || more) ≡ false
no_feed b more other none = ap (λ (t : Bool). t || more) other ∙ none

onto : (b : ℕ) (ls : List Text) (tail : Text) → b < 256 → (b == 10) ≡ false → AreLines ls → AreLines (onto_lines b ls tail).0
onto b [] tail low other all = tt
onto b (line ∷ more) tail low other all = ((no_feed b (has_byte 10 line) other all.0.0, byte_more b line low all.0.1), all.1)

by_byte : (b : ℕ) (t : Bool) (ls : List Text) (tail : Text) → (b == 10) ≡ t → b < 256 → AreLines ls
    → AreLines (cond t ([] ∷ ls, tail) (onto_lines b ls tail)).0
by_byte b true ls tail feed low all = ((refl, λ i. omega arith), all)
by_byte b false ls tail other low all = onto b ls tail low other all

pub lines_are : (text : Text) → IsBytes text → AreLines (lines text).0
lines_are [] bytes = tt
lines_are (b ∷ text) bytes = by_byte b (b == 10) (lines text).0 (lines text).1 refl (bytes 0) (lines_are text (λ i. bytes (suc i)))

-- ---- from place to place

-- the place after a line, where one stands
abbrev pub OnStep : Option Step → (Place → Type 0) → Type 0
OnStep None P = ⊥
OnStep (Some s) P = P s.place

-- each line stands at its place, and a body may end behind the last
abbrev pub Walks : List Text → Place → Type 0
Walks [] p = may_end p.want ≡ true
Walks (line ∷ more) p = OnStep (step p line) (λ q. Walks more q)

none_left : (tail : Text) → (length tail == 0) ≡ true → tail ≡ []
none_left [] is = refl
none_left (c ∷ tail) is = let none = eqb-true (length (c ∷ tail)) 0 is in absurd (omega (arith, none))

ended : (tail : Text) (p : Place) (parts : Parts) (n : ℕ) (x : Place × Parts) (b : Bool) → (may_end p.want && length tail == 0) ≡ b
    → at_end b p parts n ≡ Ok x → (may_end p.want ≡ true) × (tail ≡ [])
ended tail p parts n x true tests is = let both = and_parts (may_end p.want) (length tail == 0) tests in (both.0, none_left tail both.1)
ended tail p parts n x false tests is = cc is

stepped : (tail : Text) (more : List Text) (o : Option Step) (n : ℕ) (x : Place × Parts) (go : Step → Reading)
    → ((s : Step) → go s ≡ Ok x → Walks more s.place × (tail ≡ [])) → goes_on o n go ≡ Ok x
    → OnStep o (λ q. Walks more q) × (tail ≡ [])
stepped tail more None n x go each is = cc is
stepped tail more (Some s) n x go each is = each s is

pub walks : (tail : Text) (ls : List Text) (p : Place) (parts : Parts) (n : ℕ) (x : Place × Parts) → judge tail ls p parts n ≡ Ok x
    → Walks ls p × (tail ≡ [])
walks tail [] p parts n x is = ended tail p parts n x (may_end p.want && length tail == 0) refl is
walks tail (line ∷ more) p parts n x is =
    stepped tail more (step p line) n x (λ s. judge tail more s.place (put s.part line parts) (n + 1))
    (λ s on. walks tail more s.place (put s.part line parts) (n + 1) x on) is

pub reading_is : (id : Text) (r : Reading) (entry : Entry) → entry_as id r ≡ Ok entry → (x : Place × Parts) × (r ≡ Ok x)
reading_is id (Ok x) entry is = (x, refl)
reading_is id (Err n) entry is = cc is

-- the lines of a body that is read
pub record ReadLines (body : Text) : Type 0 where
  pub ls : List Text
  pub body_is : body ≡ joined ls
  pub are : AreLines ls
  pub walk : Walks ls start

pub read_lines : (body : Text) (entry : Entry) → IsBytes body → entry_of body ≡ Ok entry → ReadLines body
read_lines body entry bytes is =
    let read = reading_is _ (reading body) entry is in
    let walk = walks (lines body).1 (lines body).0 start no_parts 1 read.0 read.1 in
    record {
      ls = (lines body).0;
      body_is = sym (whole body) ∙ ap (λ (t : Text). joined (lines body).0 ++ t) walk.1 ∙ append-nil (joined (lines body).0);
      are = lines_are body bytes;
      walk = walk.0;
    }

-- ---- the steps of the table

pub plain_on : (b : Bool) (want : Want) (p : Place) (P : Place → Type 0) → OnStep (plain_if b want p) P
    → (b ≡ true) × P (at want p.parent p.number p.ids)
plain_on true want p P on = (refl, on)
plain_on false want p P on = absurd on

-- a piece of a message, and what may follow it
pub record OnPiece (o : Option Text) (full : Bool) (p : Place) (P : Place → Type 0) : Type 0 where
  pub bytes : Text
  pub reads : o ≡ Some bytes
  pub on : P (at (piece_want full) p.parent p.number p.ids)

pub piece_on : (o : Option Text) (full : Bool) (p : Place) (P : Place → Type 0) → OnStep (piece_step o full p) P → OnPiece o full p P
piece_on None full p P on = absurd on
piece_on (Some bytes) full p P on = record { bytes = bytes; reads = refl; on = on }

-- a number that fits the parent
pub record OnNumber (want : Want) (o : Option ℕ) (p : Place) (P : Place → Type 0) : Type 0 where
  pub number : ℕ
  pub reads : o ≡ Some number
  pub fitting : fits number p.parent ≡ true
  pub on : P (at want p.parent number p.ids)

number_test : (b : Bool) (want : Want) (n : ℕ) (p : Place) (P : Place → Type 0) → OnStep (number_if b want n p) P
    → (b ≡ true) × P (at want p.parent n p.ids)
number_test true want n p P on = (refl, on)
number_test false want n p P on = absurd on

pub number_on : (want : Want) (o : Option ℕ) (p : Place) (P : Place → Type 0) → OnStep (number_step want o p) P → OnNumber want o p P
number_on want None p P on = absurd on
number_on want (Some n) p P on =
    let tested = number_test (fits n p.parent) want n p P on in
    record { number = n; reads = refl; fitting = tested.0; on = tested.1 }
