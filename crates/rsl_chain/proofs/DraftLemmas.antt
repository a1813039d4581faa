-- Texts that are put together line by line.
use Rattle.std.proofs.Common.{◌≡◌, ℕ, ◌+◌, ◌-◌, ◌<◌, ◌≤◌, ◌==◌, Bool, true, false, List, [], ◌∷◌, ◌++◌, map, length, refl, sym, ap, ◌∙◌, arith, append_assoc, append-nil}
use Rattle.std.specs.Prelude.{cond}
use Rattle.std.proofs.lemmas.Bool.{eq-eqb, eqb-true, ne_eqb}
use Rattle.std.proofs.lemmas.List.{map-append}
use Rattle.text_reader.specs.Line.{has_byte}
use Rattle.base64.specs.Engines.{standard}
use Rattle.base64.specs.GeneralPurpose.{encode_of}
use Rattle.rsl_chain.specs.Drafts.{cut, ended, entry_line, insert_line, joined, message_lines, onto_first_line, with_line_in}
use Rattle.rsl_chain.specs.Grammar.{message_begin, message_end}
use Rattle.rsl_chain.specs.Lines.{lines, onto_lines}
use Rattle.rsl_chain.proofs.LineLemmas.{lines_more, lines_none}

abbrev Text : Type 0
Text = List ℕ

pub joined_more : (ls ms : List Text) → joined (ls ++ ms) ≡ joined ls ++ joined ms
joined_more [] ms = refl
joined_more (l ∷ ls) ms = ap (λ (t : Text). ended l ++ t) (joined_more ls ms) ∙ sym (append_assoc (ended l) (joined ls) (joined ms))

pub last_line : (a now l : Text) → now ≡ a ++ ended l → now ≡ a ++ joined (l ∷ [])
last_line a now l is = is ∙ ap (λ (t : Text). a ++ t) (sym (append-nil (ended l)))

pub before_line : (a b now l : Text) (ms : List Text) → b ≡ a ++ ended l → now ≡ b ++ joined ms → now ≡ a ++ joined (l ∷ ms)
before_line a b now l ms first rest = rest ∙ ap (λ (t : Text). t ++ joined ms) first ∙ append_assoc a (ended l) (joined ms)

pub before_lines : (a b now : Text) (ls ms : List Text) → b ≡ a ++ joined ls → now ≡ b ++ joined ms → now ≡ a ++ joined (ls ++ ms)
before_lines a b now ls ms first rest =
    rest ∙ ap (λ (t : Text). t ++ joined ms) first ∙ append_assoc a (joined ls) (joined ms) ∙ ap (λ (t : Text). a ++ t) (sym (joined_more ls ms))

-- a line of which nothing follows the word
pub whole_line : (a now l : Text) → now ≡ a ++ ended (l ++ []) → now ≡ a ++ ended l
whole_line a now l is = is ∙ ap (λ (t : Text). a ++ ended t) (append-nil l)

-- ---- lines of 64 characters

cut_front : (c : ℕ) (a b : Text) (room : ℕ) → room ≡ length a + 1 → cut room (c ∷ (a ++ b)) ≡ (c ∷ a) ∷ cut 64 b
cut_front c [] b room is = ap (λ (t : Bool). cond t ((c ∷ []) ∷ cut 64 b) (onto_first_line c (cut (room - 1) b))) (eq-eqb room 1 (omega (arith, is)))
cut_front c (d ∷ a) b room is =
    ap (λ (t : Bool). cond t ((c ∷ []) ∷ cut 64 (d ∷ (a ++ b))) (onto_first_line c (cut (room - 1) (d ∷ (a ++ b))))) (ne_eqb room 1 (λ e. omega (arith, is, e)))
    ∙ ap (onto_first_line c) (cut_front d a b (room - 1) (omega (arith, is)))

either : (c : ℕ) (b : Bool) → cond b ((c ∷ []) ∷ []) ((c ∷ []) ∷ []) ≡ (c ∷ []) ∷ []
either c true = refl
either c false = refl

cut_last : (c : ℕ) (a : Text) (room : ℕ) → length a + 1 ≤ room → cut room (c ∷ a) ≡ (c ∷ a) ∷ []
cut_last c [] room within = either c (room == 1)
cut_last c (d ∷ a) room within =
    ap (λ (t : Bool). cond t ((c ∷ []) ∷ cut 64 (d ∷ a)) (onto_first_line c (cut (room - 1) (d ∷ a)))) (ne_eqb room 1 (λ e. omega (arith, within, e)))
    ∙ ap (onto_first_line c) (cut_last d a (room - 1) (omega (arith, within)))

pub cut_more : (a b : Text) → length a ≡ 64 → cut 64 (a ++ b) ≡ a ∷ cut 64 b
cut_more [] b is = absurd (omega (arith, is))
cut_more (c ∷ a) b is = cut_front c a b 64 (omega (arith, is))

pub cut_one : (a : Text) → 0 < length a → length a ≤ 64 → cut 64 a ≡ a ∷ []
cut_one [] some within = absurd (omega (arith, some))
cut_one (c ∷ a) some within = cut_last c a 64 (omega (arith, within))

-- one line more is cut off
pub piece_next : (old whole text rest line more now : Text) → text ++ joined (cut 64 rest) ≡ old ++ joined (cut 64 whole) → rest ≡ line ++ more → length line ≡ 64
    → now ≡ text ++ ended (line ++ []) → now ++ joined (cut 64 more) ≡ old ++ joined (cut 64 whole)
piece_next old whole text rest line more now so_far is long added =
    ap (λ (t : Text). t ++ joined (cut 64 more)) (whole_line text now line added) ∙ append_assoc text (ended line) (joined (cut 64 more))
    ∙ ap (λ (ls : List Text). text ++ joined ls) (sym (ap (cut 64) is ∙ cut_more line more long)) ∙ so_far

pub piece_last : (old whole text rest now : Text) → text ++ joined (cut 64 rest) ≡ old ++ joined (cut 64 whole) → 0 < length rest → length rest ≤ 64
    → now ≡ text ++ ended (rest ++ []) → now ≡ old ++ joined (cut 64 whole)
piece_last old whole text rest now so_far some within added =
    last_line text now rest (whole_line text now rest added) ∙ ap (λ (ls : List Text). text ++ joined ls) (sym (cut_one rest some within)) ∙ so_far

pub piece_none : (old whole text rest : Text) → text ++ joined (cut 64 rest) ≡ old ++ joined (cut 64 whole) → rest ≡ [] → text ≡ old ++ joined (cut 64 whole)
piece_none old whole text rest so_far none = sym (append-nil text) ∙ ap (λ (t : Text). text ++ joined (cut 64 t)) (sym none) ∙ so_far

-- ---- a line in front of the first empty one

onto_whole : (b : ℕ) (ls : List Text) (tail : Text) → joined (onto_lines b ls tail).0 ++ (onto_lines b ls tail).1 ≡ b ∷ (joined ls ++ tail)
onto_whole b [] tail = refl
onto_whole b (l ∷ ls) tail = refl

at_byte : (b : ℕ) (t : Bool) (ls : List Text) (tail : Text) → (b == 10) ≡ t
    → joined (cond t ([] ∷ ls, tail) (onto_lines b ls tail)).0 ++ (cond t ([] ∷ ls, tail) (onto_lines b ls tail)).1 ≡ b ∷ (joined ls ++ tail)
at_byte b true ls tail is = ap (λ (k : ℕ). k ∷ (joined ls ++ tail)) (sym (eqb-true b 10 is))
at_byte b false ls tail is = onto_whole b ls tail

-- the lines and what follows them are the text
pub whole : (text : Text) → joined (lines text).0 ++ (lines text).1 ≡ text
whole [] = refl
whole (b ∷ text) = at_byte b (b == 10) (lines text).0 (lines text).1 refl ∙ ap (λ (t : Text). b ∷ t) (whole text)

pub at_gap : (line rest more : Text) → rest ≡ 10 ∷ more → with_line_in line rest ≡ ended line ++ rest
at_gap line rest more is =
    ap (with_line_in line) is ∙ append_assoc (ended line) (10 ∷ joined (lines more).0) (lines more).1
    ∙ ap (λ (t : Text). ended line ++ 10 ∷ t) (whole more) ∙ ap (λ (t : Text). ended line ++ t) (sym is)

pub at_tail : (line rest : Text) → has_byte 10 rest ≡ false → with_line_in line rest ≡ ended line ++ rest
at_tail line rest none =
    ap (λ (ls : List Text × Text). joined (insert_line line ls.0) ++ ls.1) (lines_none rest none) ∙ ap (λ (t : Text). t ++ rest) (append-nil (ended line))

pub past_line : (line rest first more : Text) → rest ≡ first ++ 10 ∷ more → has_byte 10 first ≡ false → 0 < length first → with_line_in line rest ≡ ended first ++ with_line_in line more
past_line line rest [] more is none some = absurd (omega (arith, some))
past_line line rest (c ∷ first) more is none some =
    ap (with_line_in line) is ∙ ap (λ (ls : List Text × Text). joined (insert_line line ls.0) ++ ls.1) (lines_more (c ∷ first) more none)
    ∙ append_assoc (ended (c ∷ first)) (joined (insert_line line (lines more).0)) (lines more).1

pub front_next : (old start text rest first more now line : Text) → old ++ with_line_in line start ≡ text ++ with_line_in line rest → rest ≡ first ++ 10 ∷ more → has_byte 10 first ≡ false → 0 < length first
    → now ≡ text ++ ended (first ++ []) → old ++ with_line_in line start ≡ now ++ with_line_in line more
front_next old start text rest first more now line so_far is none some added =
    so_far ∙ ap (λ (t : Text). text ++ t) (past_line line rest first more is none some) ∙ sym (append_assoc text (ended first) (with_line_in line more))
    ∙ ap (λ (t : Text). t ++ with_line_in line more) (sym (whole_line text now first added))

pub front_at_gap : (old start text rest first more line : Text) → old ++ with_line_in line start ≡ text ++ with_line_in line rest → rest ≡ first ++ 10 ∷ more → (length first == 0) ≡ true
    → old ++ with_line_in line start ≡ text ++ (ended line ++ rest)
front_at_gap old start text rest [] more line so_far is empty = so_far ∙ ap (λ (t : Text). text ++ t) (at_gap line rest more is)
front_at_gap old start text rest (c ∷ first) more line so_far is empty = let none = eqb-true (length (c ∷ first)) 0 empty in absurd (omega (arith, none))

pub front_at_tail : (old start text rest line : Text) → old ++ with_line_in line start ≡ text ++ with_line_in line rest → has_byte 10 rest ≡ false
    → old ++ with_line_in line start ≡ text ++ (ended line ++ rest)
front_at_tail old start text rest line so_far none = so_far ∙ ap (λ (t : Text). text ++ t) (at_tail line rest none)

pub is_filled : (text : Text) → (length text == 0) ≡ false → 0 < length text
is_filled [] filled = cc filled
is_filled (c ∷ text) filled = omega arith

pub is_nothing : (text : Text) → (length text == 0) ≡ true → text ≡ []
is_nothing [] nothing = refl
is_nothing (c ∷ text) nothing = let none = eqb-true (length (c ∷ text)) 0 nothing in absurd (omega (arith, none))

-- the lines of a message that is not empty
pub message_is : (old a b now message : Text) → (length message == 0) ≡ false → a ≡ old ++ ended message_begin → b ≡ a ++ joined (cut 64 (encode_of standard message)) → now ≡ b ++ ended message_end
    → now ≡ old ++ joined (message_lines message)
message_is old a b now [] filled first pieces last = cc filled
message_is old a b now (c ∷ message) filled first pieces last =
    before_line old a now message_begin (cut 64 (encode_of standard (c ∷ message)) ++ message_end ∷ []) first
    (before_lines a b now (cut 64 (encode_of standard (c ∷ message))) (message_end ∷ []) pieces (last_line b now message_end last))

-- one id more
pub ids_next : (old text now : Text) (ids : List Text) (id : Text) → text ≡ old ++ joined (map entry_line ids) → now ≡ text ++ ended (entry_line id) → now ≡ old ++ joined (map entry_line (ids ++ id ∷ []))
ids_next old text now ids id so_far added =
    before_lines old text now (map entry_line ids) (entry_line id ∷ []) so_far (last_line text now (entry_line id) added)
    ∙ ap (λ (ls : List Text). old ++ joined ls) (sym (map-append entry_line ids (id ∷ [])))
