-- Texts that were read, and what each was read as.
use Rattle.std.specs.Prelude.{◌≡◌, ℕ, List, Option, Some}
use Rattle.std.specs.BTreeMap as tree
use Rattle.std.specs.BTreeMap.{BTreeMap}
use Rattle.octets.specs.BytesMap.{by_bytes}

-- beside each text stands what it is read as, or that it is refused
abbrev pub AreRead : {T : Type 0} → (List ℕ → Option T) → BTreeMap (List ℕ) (Option T) → Type 0
AreRead {T} reading rows = (text : List ℕ) (found : Option T) → tree.get by_bytes rows text ≡ Some found
    → found ≡ reading text
