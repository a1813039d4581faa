use Rattle.std.proofs.Common.{length}
use Rattle.keeper_directory.proofs.journals.Journal.of_lines.Given as goal

abbrev pub decreases-lines : goal.decreases-lines
decreases-lines l = length l.rest
