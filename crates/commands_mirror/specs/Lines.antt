-- The lines that these commands print.
use Rattle.std.specs.Prelude.{◌++◌, [], ℕ, List, Option, Some, None, codes, decimal}
use Rattle.hex.specs.Hex.{encode_lower}
use Rattle.evidence.specs.declared.findings.Finding.{Finding}
use Rattle.mirror.specs.declared.offers.Offer.{Offer}
use Rattle.mirror.specs.declared.offers.Offer.TheVariants.{Taken, Same, Behind, Forked}

-- ---- an offer
abbrev pub same_line : ℕ → List ℕ
same_line count = codes "same " ++ (decimal count ++ codes "\n")

-- a word and two numbers
abbrev pub numbers_line : List ℕ → ℕ → ℕ → List ℕ
numbers_line word first second = (word ++ (decimal first ++ codes " ")) ++ (decimal second ++ codes "\n")

-- two ids
abbrev pub ids_line : List ℕ → List ℕ → List ℕ
ids_line kept offered = (encode_lower kept ++ codes " ") ++ (encode_lower offered ++ codes "\n")

-- the number at which two logs part, and the ids of both entries
abbrev pub fork_line : ℕ → List ℕ → List ℕ → List ℕ
fork_line number kept offered = (codes "forked " ++ (decimal number ++ codes " ")) ++ ids_line kept offered

abbrev pub offer_line : Offer → List ℕ
offer_line (Taken from to) = numbers_line (codes "taken ") from to
offer_line (Same count) = same_line count
offer_line (Behind kept offered) = numbers_line (codes "behind ") kept offered
offer_line (Forked number kept offered) = fork_line number kept offered

-- ---- a finding
abbrev pub found_fork : Option ℕ → List ℕ
found_fork None = []
found_fork (Some number) = codes "fork " ++ (decimal number ++ codes "\n")

abbrev pub found_reuse : Option ℕ → List ℕ
found_reuse None = []
found_reuse (Some leaf) = codes "reuse " ++ (decimal leaf ++ codes "\n")

-- a line for what is found of each, or one that says that nothing is
abbrev pub lines_of : Option ℕ → Option ℕ → List ℕ
lines_of None None = codes "nothing\n"
lines_of (Some number) reuse = found_fork (Some number) ++ found_reuse reuse
lines_of None (Some leaf) = found_reuse (Some leaf)

abbrev pub finding_lines : Finding → List ℕ
finding_lines finding = lines_of finding.fork finding.reuse
