-- The verdicts of `verify-ref`, and the ids of keys that it is given.
use Rattle.std.specs.Prelude.{ℕ, List, Option, Some, None}
use Rattle.judging.specs.declared.verdicts.Verdict.{Verdict}
use Rattle.root_metadata.specs.Shapes.{set_of}
use Rattle.entry_rules.specs.declared.faults.Fault.{Fault}

abbrev pub RefVerdict : Type 0
RefVerdict = Verdict Fault

-- the ids as a set, where they are given
abbrev pub anchor_of : Option (List (List ℕ)) → Option (List (List ℕ))
anchor_of None = None
anchor_of (Some ids) = Some (set_of ids)
