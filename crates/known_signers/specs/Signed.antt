-- A signature of bytes by a key.
use Rattle.std.specs.Prelude.{ℕ, List}

-- a public key, bytes that were signed, and their signature
pub record Signed : Type 0 where
  pub public : List ℕ
  pub signed : List ℕ
  pub signature : List ℕ
