use Rattle.std.proofs.Common.{All, subst}
use Rattle.desk_turns.specs.Seats.{IsIdle}
use Rattle.desk_http.specs.Served.{IsFirst}
use Rattle.desk_http.proofs.Seating.{all_but_last, all_last, one_fewer}
use Rattle.desk_http.proofs.staffing.last_of.Goals as goal

pub returns-clause-left : goal.returns-clause-left
returns-clause-left c = λ t all. all_but_last (IsIdle t) c.pop.new.self.items c.pop.result (subst (All (IsIdle t)) c.pop.ensures.items all)

pub returns-clause-seat : goal.returns-clause-seat
returns-clause-seat c = λ t all. all_last (IsIdle t) c.pop.new.self.items c.pop.result (subst (All (IsIdle t)) c.pop.ensures.items all)

pub returns-clause-left_first : goal.returns-clause-left_first
returns-clause-left_first c = λ t all. all_but_last (IsFirst t) c.pop.new.self.items c.pop.result (subst (All (IsFirst t)) c.pop.ensures.items all)

pub returns-clause-first : goal.returns-clause-first
returns-clause-first c = λ t all. all_last (IsFirst t) c.pop.new.self.items c.pop.result (subst (All (IsFirst t)) c.pop.ensures.items all)

pub returns-clause-fewer : goal.returns-clause-fewer
returns-clause-fewer c = one_fewer c.pop.new.self.items c.args.seats.now.items c.pop.result c.pop.ensures.items
