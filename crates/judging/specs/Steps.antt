-- What one entry makes of what is kept of its reference.
use Rattle.std.specs.Prelude.{ℕ, Bool, if◌then◌else◌}
use Rattle.recovery.specs.Lanes.{Lane, with_fix, with_number}

-- one entry more, refused or not, that completes a recovery or not, of the numbers after its prior's
abbrev pub recorded : ℕ → Bool → Bool → ℕ → Lane → Lane
recorded number refused completes above lane =
    if completes then with_fix above number (with_number number refused lane) else with_number number refused lane
