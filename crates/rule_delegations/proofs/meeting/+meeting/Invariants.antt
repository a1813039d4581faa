use Rattle.std.proofs.Common.{◌≡◌, ◌+◌, ◌-◌, ◌*◌, drop}
use Rattle.rule_delegations.specs.Forests.{place_named}
use Rattle.rule_delegations.specs.Reached.{Name}
use Rattle.rule_delegations.specs.Walks.{test_of, told, walk, walk_rules}
use Rattle.rule_delegations.proofs.meeting.+meeting.Given as goal

abbrev pub decreases-tell_file : goal.decreases-tell_file
decreases-tell_file l = 2 * l.left

abbrev pub decreases-tell_rule : goal.decreases-tell_rule
decreases-tell_rule l = 2 * l.left + 1

-- what the whole tells is what is told from this rule on
abbrev pub invariant-tell_file-loop-at : goal.invariant-tell_file-loop-at
invariant-tell_file-loop-at l =
    let name : Name = record { space = l.space; text = l.text } in
    told l.forest (test_of l.asked) (walk l.forest name l.left l.file)
    ≡ told l.forest (test_of l.asked) (walk_rules (walk l.forest name (l.left - 1)) (place_named l.forest) name l.file l.at (drop l.at l.rules))
