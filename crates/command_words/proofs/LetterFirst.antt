-- A reference name begins with a letter, so it is neither a flag nor `--`.
use Rattle.std.proofs.Common.{◌≡◌, List, ℕ, ◌∷◌, refl}
use Rattle.std.specs.Prelude.{codes}
use Rattle.std.proofs.lemmas.Bool.Decides.{Decides-eqb}
use Rattle.std.proofs.lemmas.Slice.Eq.{starts_is}
use Rattle.git_object.specs.Names.{IsRefName}

pub letter_first : (name : List ℕ) → IsRefName name → (rest : List ℕ) × (name ≡ 114 ∷ rest)
letter_first name is = (_, (starts_is Decides-eqb name (codes "refs/") _ refl).0 is.begins)
