-- What holds of the author and of the time of an entry.
use Rattle.std.specs.Prelude.{◌≡◌, ◌↔◌, ◌++◌, ◌∷◌, ℕ, false, List, Some, None, codes}
use Rattle.text_reader.specs.Line.{has_byte}
use Rattle.rsl_chain.specs.Lines.{begins}
use Rattle.account_lines.specs.Authors.{author_of}
use Rattle.account_lines.specs.Times.{SaysTime, time_of}

-- the author is what stands behind `author ` in the first line that begins so
pub record AuthorWhere : Type 0 where
  pub first : (text rest : List ℕ) → has_byte 10 text ≡ false
      → author_of ((codes "author " ++ text) ++ 10 ∷ rest) ≡ Some text
  pub later : (line rest : List ℕ) → has_byte 10 line ≡ false → begins (codes "author ") line ≡ false
      → author_of (line ++ 10 ∷ rest) ≡ author_of rest
  pub none : (text : List ℕ) → has_byte 10 text ≡ false → author_of text ≡ None

-- a text has a time exactly where it says one, and has the one that it says
abbrev pub TimeWhere : Type 0
TimeWhere = (author : List ℕ) (seconds : ℕ) → (time_of author ≡ Some seconds) ↔ SaysTime author seconds
