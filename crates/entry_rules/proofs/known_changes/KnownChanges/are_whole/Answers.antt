use Rattle.std.proofs.Common.{subst, sym}
use Rattle.std.specs.List.{AllByRecursion}
use Rattle.entry_rules.specs.Learning.{IsRow}
use Rattle.entry_rules.proofs.known_changes.KnownChanges.are_whole.Goals as goal

pub returns : goal.returns
returns c = λ has trees hold.
    let files = c.args.self.now.files in
    c.has_pair.ensures has trees files (subst (AllByRecursion (IsRow trees files)) (sym c.as_slice.ensures) hold)
