-- The calls of an object in memory: which fail, how many were made, how many failed.
use Rattle.std.specs.Prelude.{ℕ, ◌==◌, Bool, List, if◌then◌else◌}
use Rattle.std.specs.List.{list_any}
use Rattle.octets.specs.Causes.{one_more}

-- calls are numbered from 1; a count stands still at the end of its type
pub record Calls : Type 0 where
  pub listed : List ℕ
  pub made : ℕ
  pub faults : ℕ

-- whether the next call is one that fails
abbrev pub fails_next : Calls → Bool
fails_next calls = list_any (λ number. number == one_more calls.made) calls.listed

-- what the next call makes of it
abbrev pub after_call : Calls → Calls
after_call calls = record {
  listed = calls.listed;
  made = one_more calls.made;
  faults = (if fails_next calls then one_more calls.faults else calls.faults);
}

-- what a call makes of it that fails for another cause than its number
abbrev pub after_other : Calls → Calls
after_other calls = record { listed = calls.listed; made = one_more calls.made; faults = calls.faults }

-- one more fault
abbrev pub with_fault : Calls → Calls
with_fault calls = record { listed = calls.listed; made = calls.made; faults = one_more calls.faults }
