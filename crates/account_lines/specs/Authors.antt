-- Who an entry says made it: the line of its commit's author, as Git writes it.
use Rattle.std.specs.Prelude.{[], ◌∷◌, ℕ, List, Option, Some, None, codes}
use Rattle.rsl_chain.specs.Lines.{lines, strip}

abbrev pub or_later : Option (List ℕ) → Option (List ℕ) → Option (List ℕ)
or_later (Some text) later = Some text
or_later None later = later

-- what stands behind the word in the first of the lines that begins so
abbrev pub author_in : List (List ℕ) → Option (List ℕ)
author_in [] = None
author_in (line ∷ lines) = or_later (strip (codes "author ") line) (author_in lines)

-- in the bytes of an entry that are signed
abbrev pub author_of : List ℕ → Option (List ℕ)
author_of signed = author_in (lines signed).0
