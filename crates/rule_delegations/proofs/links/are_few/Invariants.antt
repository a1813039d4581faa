use Rattle.std.proofs.Common.{drop}
use Rattle.std.specs.List.{AllByRecursion}
use Rattle.rule_delegations.specs.Forests.{IsShort}
use Rattle.rule_delegations.proofs.links.are_few.Given as goal

-- where those that are left are few, all are
abbrev pub invariant-loop-file : goal.invariant-loop-file
invariant-loop-file l = AllByRecursion IsShort (drop l.file-index l.files) → AllByRecursion IsShort l.files
