-- What is read of a body has an entry's number: from 1 to 1,000,000, and 1 exactly where there is no parent.
use Rattle.std.proofs.Common.{◌≡◌, ℕ, ◌+◌, ◌≤◌, ◌==◌, Bool, true, false, ◌&&◌, List, [], ◌∷◌, length, Option, Some, None, Ok, Err, refl, arith}
use Rattle.std.specs.Prelude.{IfSome, nat_le, nat_lt, codes, if◌then◌else◌}
use Rattle.std.specs.Option.{option_and_then}
use Rattle.std.specs.Str.{bytes_eq}
use Rattle.std.proofs.lemmas.Bool.{and_parts, eqb-true, false≢true, leb-true}
use Rattle.text_reader.specs.Number.{number_of}
use Rattle.rsl_chain.specs.Chain.{IsHead}
use Rattle.rsl_chain.specs.Grammar.{first_id_step, fits, id_if, id_or_skip_step, id_step, may_end, name_step, number_if, number_step, parent_step, piece_or_end_step, piece_step, plain_if, row, signature_step, skip_step, start, step, target_step, title_step}
use Rattle.rsl_chain.specs.Lines.{begins, id_after, is_full, is_number, lines, name_after, number_after, number_text, piece_text, signature_after, strip}
use Rattle.rsl_chain.specs.Logs.{head_from, head_of}
use Rattle.rsl_chain.specs.Reading.{Reading, at_end, goes_on, judge, no_parts, put, reading}
use Rattle.rsl_chain.specs.declared.parts.Parts.{Parts}
use Rattle.rsl_chain.specs.declared.places.Place.{Place}
use Rattle.rsl_chain.specs.declared.places.Step.{Step}
use Rattle.rsl_chain.specs.declared.places.Want.{Want}
use Rattle.rsl_chain.specs.declared.places.Want.TheVariants.{Tree, ParentOrAuthor, Author, Committer, SignatureOrGap, Gap, Title, ReferenceGap, ReferenceName, ReferenceTarget, ReferenceNumber, AnnotationGap, FirstId, IdOrSkip, AnnotationNumber, MessageOrEnd, FirstPiece, PieceOrMessageEnd, MessageEnd, End}
use Rattle.rsl_chain.specs.declared.words.SignatureLine.{SignatureLine}

abbrev Counted : Place → Type 0
Counted p = IsHead (record { number = p.number; parent = p.parent })

-- where the number was read, it is an entry's
abbrev SoundAt : Want → Place → Type 0
SoundAt Tree p = Unit {0}
SoundAt ParentOrAuthor p = Unit {0}
SoundAt Author p = Unit {0}
SoundAt Committer p = Unit {0}
SoundAt SignatureOrGap p = Unit {0}
SoundAt Gap p = Unit {0}
SoundAt Title p = Unit {0}
SoundAt ReferenceGap p = Unit {0}
SoundAt ReferenceName p = Unit {0}
SoundAt ReferenceTarget p = Unit {0}
SoundAt ReferenceNumber p = Unit {0}
SoundAt AnnotationGap p = Unit {0}
SoundAt FirstId p = Unit {0}
SoundAt IdOrSkip p = Unit {0}
SoundAt AnnotationNumber p = Unit {0}
SoundAt MessageOrEnd p = Counted p
SoundAt FirstPiece p = Counted p
SoundAt PieceOrMessageEnd p = Counted p
SoundAt MessageEnd p = Counted p
SoundAt End p = Counted p

abbrev Sound : Option Step → Type 0
Sound None = Unit {0}
Sound (Some s) = SoundAt s.place.want s.place

abbrev moved : Want → Place → Place
moved want p = record { want = want; parent = p.parent; number = p.number; ids = p.ids }

plain : (b : Bool) (want : Want) (p : Place) → SoundAt want (moved want p) → Sound (plain_if b want p)
plain true want p is = is
plain false want p is = tt

parent : (o : Option (List ℕ)) (line : List ℕ) (p : Place) → Sound (parent_step o line p)
parent (Some id) line p = tt
parent None line p = plain (begins (codes "author ") line) Committer p tt

signature : (o : Option SignatureLine) (line : List ℕ) (p : Place) → Sound (signature_step o line p)
signature (Some found) line p = tt
signature None line p = plain (bytes_eq line []) Title p tt

title : (a b : Bool) (p : Place) → Sound (title_step a b p)
title true b p = tt
title false b p = plain b AnnotationGap p tt

name : (o : Option (List ℕ)) (p : Place) → Sound (name_step o p)
name (Some text) p = tt
name None p = tt

target : (o : Option (List ℕ)) (p : Place) → Sound (target_step o p)
target (Some id) p = tt
target None p = tt

id_when : (b : Bool) (id : List ℕ) (p : Place) → Sound (id_if b id p)
id_when true id p = tt
id_when false id p = tt

first_id : (o : Option (List ℕ)) (p : Place) → Sound (first_id_step o p)
first_id (Some id) p = tt
first_id None p = tt

one_id : (o : Option (List ℕ)) (p : Place) → Sound (id_step o p)
one_id (Some id) p = id_when (nat_lt p.ids 256) id p
one_id None p = tt

skip : (a b : Bool) (p : Place) → Sound (skip_step a b p)
skip true b p = tt
skip false true p = tt
skip false false p = tt

id_or_skip : (o : Option (List ℕ)) (line : List ℕ) (p : Place) → Sound (id_or_skip_step o line p)
id_or_skip (Some id) line p = one_id (Some id) p
id_or_skip None line p = skip (bytes_eq line (codes "skip: true")) (bytes_eq line (codes "skip: false")) p

-- ---- the number's line

text_small : (text : List ℕ) (n : ℕ) (b : Bool) → (is_number text && nat_le (number_of text) 1000000) ≡ b → (if b then Some (number_of text) else None) ≡ Some n → n ≤ 1000000
text_small text n true test is =
    let same : number_of text ≡ n = cc is in
    let small = leb-true (number_of text) 1000000 (and_parts (is_number text) (nat_le (number_of text) 1000000) test).1 in
    omega (arith, same, small)
text_small text n false test is = cc is

after_small : (o : Option (List ℕ)) (n : ℕ) → option_and_then number_text o ≡ Some n → n ≤ 1000000
unfolding number_text
after_small None n is = cc is
after_small (Some text) n is = text_small text n (is_number text && nat_le (number_of text) 1000000) refl is

counts : (n : ℕ) (parent : Option (List ℕ)) → n ≤ 1000000 → fits n parent ≡ true → IsHead (record { number = n; parent = parent })
counts n None small fit = let one : n ≡ 1 = eqb-true n 1 fit in record { some = omega (arith, one); most = small; first = (λ _. refl, λ _. one) }
counts n (Some id) small fit =
    let two : 2 ≤ n = leb-true 2 n fit in
    record { some = omega (arith, two); most = small; first = (λ one. absurd (omega (arith, two, one)), λ none. absurd (never none)) }
  where
    never : Some id ≡ None → ⊥
    never e = cc e

number_when : (want : Want) (n : ℕ) (p : Place) (b : Bool) → fits n p.parent ≡ b → n ≤ 1000000 → ((q : Place) → Counted q → SoundAt want q) → Sound (number_if b want n p)
number_when want n p true fit small is = is (record { want = want; parent = p.parent; number = n; ids = p.ids }) (counts n p.parent small fit)
number_when want n p false fit small is = tt

number : (want : Want) (o : Option ℕ) (p : Place) → ((n : ℕ) → o ≡ Some n → n ≤ 1000000) → ((q : Place) → Counted q → SoundAt want q) → Sound (number_step want o p)
number want (Some n) p small is = number_when want n p (fits n p.parent) refl (small n refl) is
number want None p small is = tt

-- ---- behind the number

piece : (o : Option (List ℕ)) (full : Bool) (p : Place) → Counted p → Sound (piece_step o full p)
piece (Some bytes) true p is = is
piece (Some bytes) false p is = is
piece None full p is = tt

piece_or_end : (b : Bool) (line : List ℕ) (p : Place) → Counted p → Sound (piece_or_end_step b line p)
piece_or_end true line p is = is
piece_or_end false line p is = piece (piece_text line) (is_full line) p is

one_row : (want : Want) (line : List ℕ) (p : Place) → SoundAt want p → Sound (row want line p)
one_row Tree line p is = plain (bytes_eq line (codes "tree 6ef19b41225c5369f1c104d45d8d85efa9b057b53b14b4b9b939dd74decc5321")) ParentOrAuthor p tt
one_row ParentOrAuthor line p is = parent (id_after (codes "parent ") line) line p
one_row Author line p is = plain (begins (codes "author ") line) Committer p tt
one_row Committer line p is = plain (begins (codes "committer ") line) SignatureOrGap p tt
one_row SignatureOrGap line p is = signature (signature_after line) line p
one_row Gap line p is = plain (bytes_eq line []) Title p tt
one_row Title line p is = title (bytes_eq line (codes "RSL Reference Entry")) (bytes_eq line (codes "RSL Annotation Entry")) p
one_row ReferenceGap line p is = plain (bytes_eq line []) ReferenceName p tt
one_row ReferenceName line p is = name (name_after line) p
one_row ReferenceTarget line p is = target (id_after (codes "targetID: ") line) p
one_row ReferenceNumber line p is = number End (number_after line) p (λ n. after_small (strip (codes "number: ") line) n) (λ q c. c)
one_row AnnotationGap line p is = plain (bytes_eq line []) FirstId p tt
one_row FirstId line p is = first_id (id_after (codes "entryID: ") line) p
one_row IdOrSkip line p is = id_or_skip (id_after (codes "entryID: ") line) line p
one_row AnnotationNumber line p is = number MessageOrEnd (number_after line) p (λ n. after_small (strip (codes "number: ") line) n) (λ q c. c)
one_row MessageOrEnd line p is = plain (bytes_eq line (codes "-----BEGIN MESSAGE-----")) FirstPiece p is
one_row FirstPiece line p is = piece (piece_text line) (is_full line) p is
one_row PieceOrMessageEnd line p is = piece_or_end (bytes_eq line (codes "-----END MESSAGE-----")) line p is
one_row MessageEnd line p is = plain (bytes_eq line (codes "-----END MESSAGE-----")) End p is
one_row End line p is = tt

one_step : (p : Place) (line : List ℕ) → SoundAt p.want p → Sound (step p line)
unfolding step
one_step p line is = one_row p.want line p is

-- ---- the whole body

ended : (want : Want) (p : Place) → may_end want ≡ true → SoundAt want p → Counted p
ended Tree p never is = absurd (false≢true never)
ended ParentOrAuthor p never is = absurd (false≢true never)
ended Author p never is = absurd (false≢true never)
ended Committer p never is = absurd (false≢true never)
ended SignatureOrGap p never is = absurd (false≢true never)
ended Gap p never is = absurd (false≢true never)
ended Title p never is = absurd (false≢true never)
ended ReferenceGap p never is = absurd (false≢true never)
ended ReferenceName p never is = absurd (false≢true never)
ended ReferenceTarget p never is = absurd (false≢true never)
ended ReferenceNumber p never is = absurd (false≢true never)
ended AnnotationGap p never is = absurd (false≢true never)
ended FirstId p never is = absurd (false≢true never)
ended IdOrSkip p never is = absurd (false≢true never)
ended AnnotationNumber p never is = absurd (false≢true never)
ended MessageOrEnd p may is = is
ended FirstPiece p never is = absurd (false≢true never)
ended PieceOrMessageEnd p never is = absurd (false≢true never)
ended MessageEnd p never is = absurd (false≢true never)
ended End p may is = is

abbrev Whole : Reading → Type 0
Whole (Ok read) = Counted read.0
Whole (Err n) = Unit {0}

at_tail : (tail : List ℕ) (b : Bool) (p : Place) (parts : Parts) (n : ℕ) → (may_end p.want && length tail == 0) ≡ b → SoundAt p.want p → Whole (at_end b p parts n)
at_tail tail true p parts n may is = ended p.want p (and_parts (may_end p.want) (length tail == 0) may).0 is
at_tail tail false p parts n may is = tt

on : (o : Option Step) (n : ℕ) (more : Step → Reading) → Sound o → ((s : Step) → SoundAt s.place.want s.place → Whole (more s)) → Whole (goes_on o n more)
on None n more is all = tt
on (Some s) n more is all = all s is

judged : (tail : List ℕ) (ls : List (List ℕ)) (p : Place) (parts : Parts) (n : ℕ) → SoundAt p.want p → Whole (judge tail ls p parts n)
judged tail [] p parts n is = at_tail tail (may_end p.want && length tail == 0) p parts n refl is
judged tail (line ∷ more) p parts n is =
    on (step p line) n (λ s. judge tail more s.place (put s.part line parts) (n + 1)) (one_step p line is)
    (λ s sound. judged tail more s.place (put s.part line parts) (n + 1) sound)

head_valid : (read : Reading) → Whole read → IfSome (head_from read) IsHead
head_valid (Ok read) is = is
head_valid (Err n) is = tt

-- the head of a body is an entry's
pub heads_valid : (body : List ℕ) → IfSome (head_of body) IsHead
unfolding head_of
heads_valid body = head_valid (reading body) (judged (lines body).1 (lines body).0 start no_parts 1 tt)
