-- What a rule tells that is not met.
use Rattle.std.specs.Prelude.{Bool, if◌then◌else◌}
use Rattle.rule_delegations.specs.declared.meeting.Told.{Told}
use Rattle.rule_delegations.specs.declared.meeting.Told.TheVariants.{Stopped, Passed}

-- that the search ended, where the rule is terminating
abbrev pub ended : Bool → Told
ended terminating = (if terminating then Stopped else Passed)
