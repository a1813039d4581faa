use Rattle.std.proofs.Common.{length}
use Rattle.approvals.proofs.surveys.+survey.Given as goal

abbrev pub decreases-survey : goal.decreases-survey
decreases-survey g l = length l.path.now
