-- The lines of a body, one by one, and what the table makes of them.
use Rattle.std.proofs.Common.{◌≡◌, ℕ, ◌+◌, ◌≤◌, ◌==◌, Bool, true, false, ◌&&◌, ◌||◌, List, [], ◌∷◌, ◌++◌, length, Option, Some, None, Err, refl, ap, ◌∙◌, arith, length-append}
use Rattle.std.specs.Prelude.{cond}
use Rattle.std.proofs.lemmas.Bool.{true≢false}
use Rattle.text_reader.specs.Line.{has_byte}
use Rattle.rsl_chain.specs.Grammar.{may_end, start, step}
use Rattle.rsl_chain.specs.Lines.{lines, onto_lines}
use Rattle.rsl_chain.specs.Reading.{IsReadTo, at_end, goes_on, judge, no_parts, put, reading}
use Rattle.rsl_chain.specs.declared.parts.Parts.{Parts}
use Rattle.rsl_chain.specs.declared.places.Place.{Place}
use Rattle.rsl_chain.specs.declared.places.Step.{Step}

or_false : (a b : Bool) → (a || b) ≡ false → (a ≡ false) × (b ≡ false)
or_false true b never = absurd (true≢false never)
or_false false b is = (refl, is)

-- a line in front
pub lines_more : (line rest : List ℕ) → has_byte 10 line ≡ false → lines (line ++ 10 ∷ rest) ≡ (line ∷ (lines rest).0, (lines rest).1)
lines_more [] rest none = refl
lines_more (b ∷ line) rest none =
    let parts = or_false (b == 10) (has_byte 10 line) none in
    let later = lines_more line rest parts.1 in
    let all = lines (line ++ 10 ∷ rest) in
    ap (λ (t : Bool). cond t ([] ∷ all.0, all.1) (onto_lines b all.0 all.1)) parts.0 ∙ ap (λ (ls : List (List ℕ) × List ℕ). onto_lines b ls.0 ls.1) later

-- no line
pub lines_none : (text : List ℕ) → has_byte 10 text ≡ false → lines text ≡ ([], text)
lines_none [] none = refl
lines_none (b ∷ text) none =
    let parts = or_false (b == 10) (has_byte 10 text) none in
    let later = lines_none text parts.1 in
    let all = lines text in
    ap (λ (t : Bool). cond t ([] ∷ all.0, all.1) (onto_lines b all.0 all.1)) parts.0 ∙ ap (λ (ls : List (List ℕ) × List ℕ). onto_lines b ls.0 ls.1) later

-- the lines so far were as wanted, and the rest decides
pub record IsOn (body : List ℕ) (keep : Bool) (place : Place) (kept : Parts) (rest : List ℕ) (n : ℕ) : Type 0 where
  pub parts : Parts
  pub reads : reading body ≡ judge (lines rest).1 (lines rest).0 place parts n
  pub kept_are : keep ≡ true → kept ≡ parts
  pub none_kept : keep ≡ false → kept ≡ no_parts
  pub few : n + length rest ≤ length body + 1

pub on_start : (body : List ℕ) (keep : Bool) → IsOn body keep start no_parts body 1
on_start body keep = record { parts = no_parts; reads = refl; kept_are = λ _. refl; none_kept = λ _. refl; few = omega arith }

on_line : (line more : List ℕ) (place : Place) (parts : Parts) (n : ℕ) (rest : List ℕ) → rest ≡ line ++ 10 ∷ more → has_byte 10 line ≡ false
    → judge (lines rest).1 (lines rest).0 place parts n ≡ goes_on (step place line) n (λ s. judge (lines more).1 (lines more).0 s.place (put s.part line parts) (n + 1))
on_line line more place parts n rest is none =
    ap (λ (t : List ℕ). judge (lines t).1 (lines t).0 place parts n) is
    ∙ ap (λ (ls : List (List ℕ) × List ℕ). judge ls.1 ls.0 place parts n) (lines_more line more none)

pub on_next : (body : List ℕ) (keep : Bool) (place : Place) (kept : Parts) (rest : List ℕ) (n : ℕ) (line more : List ℕ) (next : Step) (now : Parts)
    → IsOn body keep place kept rest n → rest ≡ line ++ 10 ∷ more → has_byte 10 line ≡ false → step place line ≡ Some next
    → (keep ≡ true → now ≡ put next.part line kept) → (keep ≡ false → now ≡ kept) → IsOn body keep next.place now more (n + 1)
on_next body keep place kept rest n line more next now on is none steps puts spares = record {
  parts = put next.part line on.parts;
  reads = on.reads ∙ on_line line more place on.parts n rest is none
      ∙ ap (λ (o : Option Step). goes_on o n (λ s. judge (lines more).1 (lines more).0 s.place (put s.part line on.parts) (n + 1))) steps;
  kept_are = λ keeps. puts keeps ∙ ap (put next.part line) (on.kept_are keeps);
  none_kept = λ no. spares no ∙ on.none_kept no;
  few = few_more on.few (ap length is);
}
  where
    few_more : n + length rest ≤ length body + 1 → length rest ≡ length (line ++ 10 ∷ more) → n + 1 + length more ≤ length body + 1
    few_more few is = let all = length-append line (10 ∷ more) in omega (arith, few, is, all)

pub on_bad : (body : List ℕ) (keep : Bool) (place : Place) (kept : Parts) (rest : List ℕ) (n : ℕ) (line more : List ℕ)
    → IsOn body keep place kept rest n → rest ≡ line ++ 10 ∷ more → has_byte 10 line ≡ false → step place line ≡ None → reading body ≡ Err n
on_bad body keep place kept rest n line more on is none steps =
    on.reads ∙ on_line line more place on.parts n rest is none
    ∙ ap (λ (o : Option Step). goes_on o n (λ s. judge (lines more).1 (lines more).0 s.place (put s.part line on.parts) (n + 1))) steps

on_tail : (place : Place) (parts : Parts) (n : ℕ) (rest : List ℕ) (b : Bool) → has_byte 10 rest ≡ false → (may_end place.want && length rest == 0) ≡ b
    → judge (lines rest).1 (lines rest).0 place parts n ≡ at_end b place parts n
on_tail place parts n rest b none test =
    ap (λ (ls : List (List ℕ) × List ℕ). judge ls.1 ls.0 place parts n) (lines_none rest none) ∙ ap (λ (t : Bool). at_end t place parts n) test

pub on_end : (body : List ℕ) (keep : Bool) (place : Place) (kept : Parts) (rest : List ℕ) (n : ℕ)
    → IsOn body keep place kept rest n → has_byte 10 rest ≡ false → (may_end place.want && length rest == 0) ≡ true → IsReadTo (reading body) keep place kept
on_end body keep place kept rest n on none test =
    record { parts = on.parts; read_is = on.reads ∙ on_tail place on.parts n rest true none test; kept_are = on.kept_are; none_kept = on.none_kept }

pub on_short : (body : List ℕ) (keep : Bool) (place : Place) (kept : Parts) (rest : List ℕ) (n : ℕ)
    → IsOn body keep place kept rest n → has_byte 10 rest ≡ false → (may_end place.want && length rest == 0) ≡ false → reading body ≡ Err n
on_short body keep place kept rest n on none test = on.reads ∙ on_tail place on.parts n rest false none test
