-- What holds of the texts of values.
use Rattle.std.specs.Prelude.{◌≡◌, ◌<◌, ◌^◌, ℕ, List}
use Rattle.ref_patterns.specs.declared.space.Space.{Space}
use Rattle.command_words.specs.Ids.{AreIds}
use Rattle.command_words.specs.Numbers.{IsCount}
use Rattle.command_words.specs.Spaced.{IsSpaced}

-- a text writes one value at most
pub record OneValue : Type 0 where
  pub ids : (most : ℕ) (text : List ℕ) (a b : List (List ℕ)) → AreIds most text a → AreIds most text b → a ≡ b
  pub count : (most : ℕ) (text : List ℕ) (a b : ℕ) → most < 2 ^ 64 → IsCount most text a → IsCount most text b → a ≡ b
  pub space : (text : List ℕ) (s t : Space) (a b : List ℕ) → IsSpaced text s a → IsSpaced text t b → s ≡ t
  pub name : (text : List ℕ) (s t : Space) (a b : List ℕ) → IsSpaced text s a → IsSpaced text t b → a ≡ b
