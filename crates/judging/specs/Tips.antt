-- The verdict on a reference of which nothing is pending, by what is kept.
use Rattle.std.specs.Prelude.{◌≡◌, ◌≢◌, ℕ, List, length}
use Rattle.recovery.specs.Lanes.{lane_of}
use Rattle.judging.specs.Books.{Kept}
use Rattle.judging.specs.Standings.{standing_of}
use Rattle.judging.specs.declared.verdicts.Verdict.{Verdict}
use Rattle.judging.specs.declared.verdicts.Verdict.TheVariants.{Violation, TipDiffers, Accepted}

abbrev pub IsTip : {F : Type 0} → Kept F → List ℕ → List ℕ → Verdict F → Type 0
IsTip kept name value (Violation number fault) = ⊥
IsTip kept name value (TipDiffers stands recorded) = (stands ≡ value) × (recorded ≡ (standing_of kept name).from)
    × (value ≢ (standing_of kept name).from)
IsTip kept name value (Accepted count) = (value ≡ (standing_of kept name).from)
    × (count ≡ length (lane_of kept.marks name).pushed)
