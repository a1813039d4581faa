use Rattle.std.proofs.Common.{All, subst}
use Rattle.desk_turns.specs.Seats.{IsIdle}
use Rattle.tests_turns.proofs.Seating.{all_but_last, all_last}
use Rattle.tests_turns.proofs.workers.last_of.Goals as goal

pub returns : goal.returns
returns c =
    let items = c.pop.ensures.items in
    let left = c.pop.new.self.items in record {
      left = λ t all. all_but_last (IsIdle t) left c.pop.result (subst (All (IsIdle t)) items all);
      seat = λ t all. all_last (IsIdle t) left c.pop.result (subst (All (IsIdle t)) items all);
    }
