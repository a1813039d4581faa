-- Patterns: the prefix of a space and a glob.
use Rattle.std.specs.Prelude.{ℕ, ◌+◌, ◌==◌, ◌||◌, Bool, true, false, List, [], ◌∷◌, length, drop, codes, nat_lt, nat_eq}
use Rattle.std.specs.Prelude.{Option, Some, None, Result, Ok, Err, if◌then◌else◌}
use Rattle.std.specs.List.{position, starts_with}
use Rattle.ref_patterns.specs.declared.pattern.PatternFault.{PatternFault}
use Rattle.ref_patterns.specs.declared.pattern.PatternFault.TheVariants.{BadPattern, Memory}
use Rattle.ref_patterns.specs.declared.space.Space.{Space}
use Rattle.ref_patterns.specs.declared.space.Space.TheVariants.{Git, File}

pub record Parts : Type 0 where
  pub space : Space
  pub glob : List ℕ

-- what a pattern of this space begins with
abbrev pub prefix : Space → List ℕ
prefix Git = codes "git:"
prefix File = codes "file:"

abbrev pub same_space : Space → Space → Bool
same_space Git Git = true
same_space Git File = false
same_space File Git = false
same_space File File = true

-- the space whose prefix stands in front
abbrev pub space_of : List ℕ → Option Space
space_of text =
    (if starts_with nat_eq text (codes "git:") then Some Git else
    (if starts_with nat_eq text (codes "file:") then Some File else None))

-- `[` and `\`, which are kept for later
abbrev pub is_bracket : ℕ → Bool
is_bracket b = b == 91 || b == 92

-- a glob in which the first bracket stands here, or none
abbrev pub from_bracket : Space → List ℕ → Option ℕ → Result Parts PatternFault
from_bracket space glob None = Ok (record { space = space; glob = glob })
from_bracket space glob (Some at) = Err (BadPattern (length (prefix space) + at))

abbrev pub from_glob : Space → List ℕ → Result Parts PatternFault
from_glob space [] = Err (BadPattern (length (prefix space)))
from_glob space (b ∷ bs) = from_bracket space (b ∷ bs) (position is_bracket (b ∷ bs))

abbrev pub from_space : List ℕ → Option Space → Result Parts PatternFault
from_space text None = Err (BadPattern 0)
from_space text (Some space) =
    (if nat_lt 512 (length text) then Err (BadPattern 512) else from_glob space (drop (length (prefix space)) text))

-- what a text is read as, want of memory aside
abbrev pub reading : List ℕ → Result Parts PatternFault
reading text = from_space text (space_of text)
