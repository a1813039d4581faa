use Rattle.std.proofs.Common.{◌≡◌, ◌&&◌, ℕ, true, not, List, take}
use Rattle.rsl_chain.specs.Entries.{Taken}
use Rattle.recovery.specs.Lanes.{is_in}
use Rattle.judging.specs.Engines.{Stands}
use Rattle.judging.specs.Logs.{pending}
use Rattle.judging.specs.Rules.{Rules}
use Rattle.judged_logs.specs.Keeping.{HasOwn, IsNoted}
use Rattle.judged_logs.proofs.kept.note_rescues.Given as goal

abbrev pub invariant-numbers : goal.invariant-numbers
invariant-numbers g l =
    (rules : Rules g.row.P.Denot g.row.F.Denot) (log : List Taken) → Stands rules log l.engine → ((b : ℕ) → is_in b l.numbers ≡ true → HasOwn log b)
    → IsNoted (λ b. is_in b (take l.number-index l.numbers) && not (pending rules log b)) l.by l.fn.rescuers l.rescuers
