use Rattle.std.proofs.Common.{take}
use Rattle.std.specs.List.{AllByRecursion}
use Rattle.text_reader.specs.Line.{Begins}
use Rattle.object_making.proofs.listed.split_run.Given as goal

abbrev pub invariant-listing : goal.invariant-listing
invariant-listing l = AllByRecursion (λ listed. Begins l.place listed.path) (take l.i l.listing)
