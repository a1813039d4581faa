use Rattle.std.proofs.Common.{◌≡◌, map, take}
use Rattle.rule_delegations.specs.Forests.{links_of}
use Rattle.rule_delegations.proofs.links.all_links.Given as goal

abbrev pub invariant-loop-file : goal.invariant-loop-file
invariant-loop-file l = l.below ≡ map (links_of l.files) (take l.file-index l.files)
