-- Texts of any lengths as blocks.
use Rattle.std.specs.Prelude.{◌≡◌, ℕ, ◌*◌, ◌-◌, ◌/◌, List, [], ◌++◌, length, take, drop, slice_index_or}
use Rattle.sha2.specs.Sha256.{padded_message}

-- how many blocks a text and its padding are
abbrev pub blocks_of : List ℕ → ℕ
blocks_of m = length (padded_message m) / 64

-- block k of a text and its padding
abbrev pub block_of : List ℕ → ℕ → List ℕ
block_of m k = take 64 (drop (k * 64) (padded_message m))

-- bytes that begin with what follows a text's whole blocks, padded
abbrev pub IsTail : List ℕ → List ℕ → Type 0
IsTail m tail = take (64 * (blocks_of m - length m / 64)) tail ≡ drop (length m / 64 * 64) (padded_message m)

-- text i of a row of heads and a row of bodies
abbrev pub joined : List (List ℕ) → List (List ℕ) → ℕ → List ℕ
joined heads bodies i = slice_index_or heads i [] ++ slice_index_or bodies i []
