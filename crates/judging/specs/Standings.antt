-- Where a reference stands, by what is kept.
use Rattle.std.specs.Prelude.{ℕ, List, Option, Some, None, unwrap_or}
use Rattle.git_object.specs.Ids.{zeros}
use Rattle.recovery.specs.Lanes.{lane_of, last_of}
use Rattle.judging.specs.Books.{Kept, kept_target}
use Rattle.judging.specs.declared.references.Standing.{Standing}

abbrev pub standing_at : {F : Type 0} → Kept F → Option ℕ → Standing
standing_at kept None = record { above = 0; from = zeros }
standing_at kept (Some number) = record { above = number; from = unwrap_or (kept_target kept number) zeros }

-- by its last number that is not skipped
abbrev pub standing_of : {F : Type 0} → Kept F → List ℕ → Standing
standing_of kept name = standing_at kept (last_of (lane_of kept.marks name).unskipped)
