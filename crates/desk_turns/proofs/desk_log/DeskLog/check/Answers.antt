use Rattle.std.proofs.Common.{rules}
use Rattle.pushes.proofs.Finding.{are_rising}
use Rattle.desk_turns.proofs.desk_log.DeskLog.check.Goals as goal

pub first_missing-requires : goal.first_missing-requires
first_missing-requires g c = rw c.as_slice.ensures (are_rising c.requires.spelled.es c.args.push.now.objects c.requires.spelled.own)
