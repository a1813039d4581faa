use Rattle.std.proofs.Common.{◌≡◌, ◌+◌, length}
use Rattle.desk_turns.specs.Seats.{AreNew}
use Rattle.desk_turns.specs.Steps.{IsFirst}
use Rattle.desk_turns.proofs.turns.Turn.new.Given as goal

-- the seats below this number are given, and the first seat has this number
abbrev pub invariant-seats : goal.invariant-seats
invariant-seats g l = record {
  table : l.token.table_id ≡ l.board.shared.table_id;
  words : l.board.shared.table_id.words ≡ 2;
  first : IsFirst g.S.Chronicle.is_legal l.number l.token.me;
  count : length l.given.items + 1 ≡ l.number;
  each : AreNew g.S.Chronicle.is_legal l.board.shared.table_id l.given.items;
}
