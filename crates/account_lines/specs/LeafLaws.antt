-- What holds of the greatest leaf.
use Rattle.std.specs.Prelude.{◌≡◌, ◌⊎◌, ◌≤◌, ◌∷◌, [], ℕ, List, Option, Some, None}
use Rattle.rsl_chain.specs.declared.entries.Entry.{Entry}
use Rattle.account_lines.specs.Used.{leaf_in, used_in}

-- the entry is one of these
abbrev pub IsAmong : List Entry → Entry → Type 0
IsAmong [] entry = ⊥
IsAmong (other ∷ others) entry = (other ≡ entry) ⊎ IsAmong others entry

-- some entry is signed by it, and none by a greater one; where there is none, none is signed by the key
pub record IsGreatest (id public : List ℕ) (entries : List Entry) : Type 0 where
  pub some : (most : ℕ) → used_in id public entries ≡ Some most
      → (entry : Entry) × IsAmong entries entry × (leaf_in id public entry ≡ Some most)
  pub most : (most leaf : ℕ) (entry : Entry) → used_in id public entries ≡ Some most → IsAmong entries entry
      → leaf_in id public entry ≡ Some leaf → leaf ≤ most
  pub none : (entry : Entry) → used_in id public entries ≡ None → IsAmong entries entry
      → leaf_in id public entry ≡ None
