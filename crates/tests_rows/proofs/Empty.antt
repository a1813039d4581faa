-- The map that holds nothing has no entries.
use Rattle.std.proofs.Common.{◌≡◌, List, [], ◌∷◌, length, refl, sym, ◌∙◌, arith}
use Rattle.std.specs.FinMap.{empty, entries, len-empty, len-entries}
use Rattle.octets.specs.BytesMap.{by_bytes}

none : {A : Type 0} (xs : List A) → length xs ≡ 0 → xs ≡ []
none [] e = refl
none (x ∷ xs) e = absurd (omega arith)

pub no_entries : {X : Type 0} → entries {R = by_bytes} (empty {X = X}) ≡ []
no_entries {X = X} = none (entries empty) (sym (len-entries empty) ∙ len-empty by_bytes X)
