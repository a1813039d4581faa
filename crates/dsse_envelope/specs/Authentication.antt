-- What the signatures of an envelope are over (DSSE's pre-authentication encoding).
use Rattle.std.specs.Prelude.{◌++◌, ℕ, List, length, codes, decimal}

-- the length of a text in decimal, a space, the text
abbrev pub counted : List ℕ → List ℕ
counted text = decimal (length text) ++ codes " " ++ text

abbrev pub pae : List ℕ → List ℕ → List ℕ
pae payload_type body = codes "DSSEv1 " ++ counted payload_type ++ codes " " ++ counted body
