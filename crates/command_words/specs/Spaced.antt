-- Names in a space in the text of an argument.
use Rattle.std.specs.Prelude.{◌≡◌, ◌++◌, ℕ, List}
use Rattle.ref_patterns.specs.Patterns.{prefix}
use Rattle.ref_patterns.specs.declared.space.Space.{Space}

-- the text is what the names of a space begin with, and then this name, which may be empty
pub record IsSpaced (text : List ℕ) (space : Space) (name : List ℕ) : Type 0 where
  pub written : text ≡ prefix space ++ name
