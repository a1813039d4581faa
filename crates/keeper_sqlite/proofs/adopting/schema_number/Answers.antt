use Rattle.std.proofs.Common.{SFits, w64, to_z-of_z, sym, subst, rules}
use Rattle.sqlite.specs.Held.{state}
use Rattle.keeper_sqlite.specs.Adopting.{TellsNumber}
use Rattle.keeper_sqlite.proofs.Numbering.{number_told, number_untold}
use Rattle.keeper_sqlite.proofs.adopting.schema_number.Goals as goal

pub returns-in-Err-QueryReturnedNoRows-clause-number : goal.returns-in-Err-QueryReturnedNoRows-clause-number
returns-in-Err-QueryReturnedNoRows-clause-number g c = λ clean has. number_untold (state g.S.Store c.args.conn.now) (state g.S.Store c.schema_row.new.conn) has (rw c.in-Err-QueryReturnedNoRows.field-0-is at (c.in-Err-QueryReturnedNoRows.ensures.row clean))

pub returns-in-Ok-number_in-clause-number : goal.returns-in-Ok-number_in-clause-number
returns-in-Ok-number_in-clause-number g c = λ clean has.
    let fits : SFits w64 c.in-Ok-number_in.number = search rules in
    subst (TellsNumber ((state g.S.Store c.args.conn.now).now.trees 4)) (sym (to_z-of_z fits)) (number_told (state g.S.Store c.args.conn.now) (state g.S.Store c.schema_row.new.conn) has _ _ (c.in-Ok.ensures.row clean) c.in-Ok-number_in.ensures)
