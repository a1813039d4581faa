-- Reading the author's line, and the time in it.
use Rattle.std.proofs.Common.{◌≡◌, ◌≤◌, ◌<◌, ◌==◌, ◌&&◌, ◌||◌, ◌++◌, ◌∷◌, [], ℕ, Bool, true, false, List, Option, Some, None, refl, ap, sym, subst, ◌∙◌, arith, inl, inr, append_assoc}
use Rattle.std.specs.Prelude.{codes, decimal, is_some, nat_le, option_and_then, if◌then◌else◌}
use Rattle.std.specs.Char.{is_ascii_digit}
use Rattle.std.specs.Cmp.Derive.{both_true}
use Rattle.std.specs.List.{list_all}
use Rattle.std.proofs.lemmas.Bool.{and_parts, cases_eq, false≢true, le-leb, leb-true, ne_eqb, true≢false}
use Rattle.std.proofs.lemmas.List.Sums.{list_all-from_AllPass}
use Rattle.text_reader.specs.Line.{has_byte}
use Rattle.text_reader.specs.Number.{IsNumber, number_of}
use Rattle.text_reader.proofs.Numbers.{decimal_is_number, number_of-decimal, written_number}
use Rattle.rsl_chain.specs.Lines.{begins, is_number, strip}
use Rattle.rsl_chain.proofs.LineLemmas.{lines_more, lines_none}
use Rattle.rsl_chain.proofs.WordLemmas.{number_from_test, number_test, strip_there}
use Rattle.account_lines.proofs.Words.{end_of, last_two, words_behind, words_more, words_one}
use Rattle.account_lines.specs.Authors.{author_in, author_of, or_later}
use Rattle.account_lines.specs.Laws.{AuthorWhere, TimeWhere}
use Rattle.account_lines.specs.Times.{BeginsWord, SaysTime, last_but_one, seconds_of, time_of, words}

-- ---- the author

pub author_more : (line more rest : List ℕ) → rest ≡ line ++ 10 ∷ more → has_byte 10 line ≡ false → author_of rest ≡ or_later (strip (codes "author ") line) (author_of more)
author_more line more rest is none =
    ap author_of is ∙ ap (λ (ls : List (List ℕ) × List ℕ). author_in ls.0) (lines_more line more none)

pub author_none : (text : List ℕ) → has_byte 10 text ≡ false → author_of text ≡ None
author_none text none = ap (λ (ls : List (List ℕ) × List ℕ). author_in ls.0) (lines_none text none)

not_some : (o : Option (List ℕ)) → is_some o ≡ false → o ≡ None
not_some None is = refl
not_some (Some text) is = absurd (true≢false is)

no_byte : (front back : List ℕ) → has_byte 10 front ≡ false → has_byte 10 back ≡ false → has_byte 10 (front ++ back) ≡ false
no_byte [] back a b = b
no_byte (c ∷ front) back a b =
    let parts = or_false (c == 10) (has_byte 10 front) a in
    ap (λ (t : Bool). t || has_byte 10 (front ++ back)) parts.0 ∙ no_byte front back parts.1 b
  where
    or_false : (a b : Bool) → (a || b) ≡ false → (a ≡ false) × (b ≡ false)
    or_false true b never = absurd (true≢false never)
    or_false false b is = (refl, is)

pub author_where : AuthorWhere
author_where = record {
  first = λ text rest none.
      author_more (codes "author " ++ text) rest _ refl (no_byte (codes "author ") text refl none)
      ∙ ap (λ (o : Option (List ℕ)). or_later o (author_of rest)) (strip_there (codes "author ") (codes "author " ++ text) text refl);
  later = λ line rest none other.
      author_more line rest _ refl none ∙ ap (λ (o : Option (List ℕ)). or_later o (author_of rest)) (not_some (strip (codes "author ") line) other);
  none = author_none;
}

-- ---- the time

pub seconds_there : (text : List ℕ) (n : ℕ) → text ≡ decimal n → n ≤ 253402300799 → seconds_of text ≡ Some n
unfolding seconds_of
seconds_there text n is small =
    let value : number_of text ≡ n = ap number_of is ∙ number_of-decimal n (omega arith) in
    let test = both_true (number_test text (subst IsNumber (sym is) (decimal_is_number n (omega arith)))) (le-leb (number_of text) 253402300799 (omega arith)) in
    ap (λ (b : Bool). if b then Some (number_of text) else None) test ∙ ap Some value

seconds_unless : (text : List ℕ) (b : Bool) → (is_number text && nat_le (number_of text) 253402300799) ≡ b → (IsNumber text → number_of text ≤ 253402300799 → ⊥) → (if b then Some (number_of text) else None) ≡ None
seconds_unless text true is never =
    let parts = and_parts (is_number text) (nat_le (number_of text) 253402300799) is in
    absurd (never (number_from_test text parts.0) (leb-true (number_of text) 253402300799 parts.1))
seconds_unless text false is never = refl

seconds_none : (text : List ℕ) → (IsNumber text → number_of text ≤ 253402300799 → ⊥) → seconds_of text ≡ None
unfolding seconds_of
seconds_none text never = seconds_unless text (is_number text && nat_le (number_of text) 253402300799) refl never

pub seconds_past : (text : List ℕ) → IsNumber text × (253402300799 < number_of text) → seconds_of text ≡ None
seconds_past text past = seconds_none text (λ is small. let more = past.1 in absurd (omega arith))

pub no_seconds : (text : List ℕ) → (IsNumber text → ⊥) → seconds_of text ≡ None
no_seconds text never = seconds_none text (λ is small. never is)

no_space : (b : ℕ) → is_ascii_digit b ≡ true → (b == 32) ≡ false
no_space b digit = elim (cases_eq b 32) [
  | inl same ↦ absurd (false≢true (sym (ap is_ascii_digit same) ∙ digit))
  | inr other ↦ ne_eqb b 32 other
]

no_spaces : (text : List ℕ) → list_all is_ascii_digit text ≡ true → has_byte 32 text ≡ false
no_spaces [] all = refl
no_spaces (b ∷ text) all =
    let parts = and_parts (is_ascii_digit b) (list_all is_ascii_digit text) all in
    ap (λ (t : Bool). t || has_byte 32 text) (no_space b parts.0) ∙ no_spaces text parts.1

all_digits : (text : List ℕ) (n : ℕ) → text ≡ decimal n → n ≤ 253402300799 → has_byte 32 text ≡ false
all_digits text n is small =
    let number : IsNumber text = subst IsNumber (sym is) (decimal_is_number n (omega arith)) in
    no_spaces text (list_all-from_AllPass is_ascii_digit text number.digits)

seconds_said : (word : List ℕ) (n : ℕ) (b : Bool) → (is_number word && nat_le (number_of word) 253402300799) ≡ b
    → (if b then Some (number_of word) else None) ≡ Some n → (word ≡ decimal n) × (n ≤ 253402300799)
seconds_said word n true is value =
    let parts = and_parts (is_number word) (nat_le (number_of word) 253402300799) is in
    let small : number_of word ≤ 253402300799 = leb-true (number_of word) 253402300799 parts.1 in
    let same : number_of word ≡ n = cc value in
    (written_number word (number_from_test word parts.0) (omega arith) ∙ ap decimal same, omega arith)
seconds_said word n false is value = absurd (cc value)

seconds_say : (word : List ℕ) (n : ℕ) → seconds_of word ≡ Some n → (word ≡ decimal n) × (n ≤ 253402300799)
unfolding seconds_of
seconds_say word n value = seconds_said word n (is_number word && nat_le (number_of word) 253402300799) refl value

said_by : (author : List ℕ) (n : ℕ) (o : Option (List ℕ)) → last_but_one (words author) ≡ o → option_and_then seconds_of o ≡ Some n → SaysTime author n
said_by author n None is value = absurd (cc value)
said_by author n (Some word) is value =
    let ends = end_of author word is in
    let number = seconds_say word n value in
    record {
      front = ends.front;
      zone = ends.zone;
      is = ends.is ∙ ap (λ (w : List ℕ). ends.front ++ (w ++ 32 ∷ ends.zone)) number.0;
      begins = ends.begins;
      last = ends.last;
      within = number.1;
    }

module _ (n : ℕ) (zone : List ℕ) (small : n ≤ 253402300799) (none : has_byte 32 zone ≡ false) where
  two_words : words (decimal n ++ 32 ∷ zone) ≡ decimal n ∷ (zone ∷ [])
  two_words = words_more (decimal n) zone (all_digits (decimal n) n refl small) ∙ ap (λ (ws : List (List ℕ)). decimal n ∷ ws) (words_one zone none)

  word_there : (front : List ℕ) → BeginsWord front → last_but_one (words (front ++ (decimal n ++ 32 ∷ zone))) ≡ Some (decimal n)
  word_there front begins = elim begins [
    | inl nothing ↦ ap (λ (t : List ℕ). last_but_one (words (t ++ (decimal n ++ 32 ∷ zone)))) nothing ∙ ap last_but_one two_words
    | inr some ↦
        let all = words_behind some.0 (decimal n ++ 32 ∷ zone) in
        ap (λ (t : List ℕ). last_but_one (words (t ++ (decimal n ++ 32 ∷ zone)))) some.1
        ∙ ap (λ (t : List ℕ). last_but_one (words t)) (append_assoc some.0 (32 ∷ []) (decimal n ++ 32 ∷ zone))
        ∙ ap last_but_one all.2 ∙ ap (λ (ws : List (List ℕ)). last_but_one (all.0 ∷ (all.1 ++ ws))) two_words
        ∙ last_two all.0 all.1 (decimal n) zone
  ]

told : (author : List ℕ) (n : ℕ) → SaysTime author n → time_of author ≡ Some n
told author n says =
    ap time_of says.is ∙ ap (option_and_then seconds_of) (word_there n says.zone says.within says.last says.front says.begins)
    ∙ seconds_there (decimal n) n refl says.within

pub time_where : TimeWhere
time_where author n = (said_by author n (last_but_one (words author)) refl, told author n)
