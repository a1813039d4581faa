-- What a format is: which texts stand for a value, and at which place every other text is first wrong.
use Rattle.std.specs.Prelude.{◌≡◌, ◌⊎◌, ℕ, List}

-- a value has one text and a text one value; each text is read or refused, never both, and it is refused at one place
pub record IsGrammar {V : Type 0} (IsText : V → List ℕ → Type 0) (IsFault : List ℕ → ℕ → Type 0) : Type 0 where
  pub one_text : (v : V) (a b : List ℕ) → IsText v a → IsText v b → a ≡ b
  pub one_value : (v w : V) (text : List ℕ) → IsText v text → IsText w text → v ≡ w
  pub apart : (v : V) (text : List ℕ) (at : ℕ) → IsText v text → IsFault text at → ⊥
  pub one_place : (text : List ℕ) (m n : ℕ) → IsFault text m → IsFault text n → m ≡ n
  pub decided : (text : List ℕ) → ((v : V) × IsText v text) ⊎ ((at : ℕ) × IsFault text at)
