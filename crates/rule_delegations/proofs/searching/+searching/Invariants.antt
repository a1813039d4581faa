use Rattle.std.proofs.Common.{◌+◌, ◌-◌, ◌*◌, drop}
use Rattle.rule_delegations.specs.Forests.{place_named}
use Rattle.rule_delegations.specs.Reached.{Name}
use Rattle.rule_delegations.specs.Walks.{GoesOn, walk, walk_rules}
use Rattle.rule_delegations.proofs.searching.+searching.Given as goal

abbrev pub decreases-search_file : goal.decreases-search_file
decreases-search_file l = 2 * l.left

abbrev pub decreases-search_rule : goal.decreases-search_rule
decreases-search_rule l = 2 * l.left + 1

-- the whole is what was found, and what is found from this rule on
abbrev pub invariant-search_file-loop-at : goal.invariant-search_file-loop-at
invariant-search_file-loop-at l =
    let name : Name = record { space = l.space; text = l.text } in
    GoesOn l.fn.found.items (walk l.forest name l.left l.file) l.found.items
    (walk_rules (walk l.forest name (l.left - 1)) (place_named l.forest) name l.file l.at (drop l.at l.rules))
