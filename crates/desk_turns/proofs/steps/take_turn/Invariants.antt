use Rattle.std.proofs.Common.{◌≡◌}
use Rattle.desk_turns.proofs.steps.take_turn.Given as goal

-- while it waits, the seat stays as it is
abbrev pub invariant-loop : goal.invariant-loop
invariant-loop g l =
    (goal.iterator-loop g).can_next l.iterator' × (goal.iterator-loop g).is_finite l.iterator' × (l.token.table_id ≡ l.fn.token.table_id) × (l.token.me ≡ l.fn.token.me)
