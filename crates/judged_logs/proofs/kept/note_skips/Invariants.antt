use Rattle.std.proofs.Common.{List, take}
use Rattle.rsl_chain.specs.Entries.{Taken}
use Rattle.judging.specs.Engines.{Stands}
use Rattle.judging.specs.Rules.{Rules}
use Rattle.judged_logs.specs.Keeping.{IsNoted, is_skipped_among}
use Rattle.judged_logs.proofs.kept.note_skips.Given as goal

abbrev pub invariant-ids : goal.invariant-ids
invariant-ids g l = (rules : Rules g.row.P.Denot g.row.F.Denot) (log : List Taken) → Stands rules log l.engine → IsNoted (is_skipped_among rules log (take l.id-index l.ids)) l.by l.fn.skippers l.skippers
