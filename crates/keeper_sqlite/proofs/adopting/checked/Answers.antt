use Rattle.std.proofs.Common.{◌≡◌, List, pos, Ok, Err, Result, IfErr, refl, sym, ap, subst, ◌∙◌, arith}
use Rattle.sqlite.specs.Effect.{Database}
use Rattle.sqlite.specs.Held.{Held, state}
use Rattle.sqlite.specs.Order.{Row}
use Rattle.sqlite.specs.State.{HasCleanDisk}
use Rattle.keeper_sqlite.specs.Adopting.{HasNumber, IsUnnumbered, TellsNumber}
use Rattle.keeper_sqlite.specs.declared.sql_faults.SqlFault.{SqlFault}
use Rattle.keeper_sqlite.specs.declared.sql_faults.SqlFault.TheVariants.{BadSchema, Failed, Memory}
use Rattle.keeper_sqlite.proofs.Reopening.{same_committed, same_schema}
use Rattle.keeper_sqlite.proofs.Selecting.{if_ok, if_ok_both}
use Rattle.keeper_sqlite.proofs.adopting.checked.Goals as goal

pub returns-clause-kept : goal.returns-clause-kept
returns-clause-kept g c = if_ok c.reopened.result (λ conn again clean has.
    let it = again clean in
    let one : c.expect_tables.new.conn ≡ c.args.connection = c.expect_tables.ensures.kept has in
    let same = c.expect_number.ensures.same it.was_open (same_schema _ _ _ one has) in
    sym (ap (λ (d : Database). d.trees) it.settled) ∙ it.trees ∙ ap (λ (d : Database). d.trees) (same.committed ∙ same_committed g.S.Store _ _ one)) c.reopened.ensures.again

pub returns-clause-schema : goal.returns-clause-schema
returns-clause-schema g c = if_ok_both c.reopened.result (λ conn again schema clean has.
    let one : c.expect_tables.new.conn ≡ c.args.connection = c.expect_tables.ensures.kept has in
    let same = c.expect_number.ensures.same (again clean).was_open (same_schema _ _ _ one has) in
    schema clean c.expect_number.ensures.idle ∙ ap (λ (d : Database). d.schema) same.now ∙ same_schema _ _ _ one has) c.reopened.ensures.again c.reopened.ensures.schema

pub returns-clause-number : goal.returns-clause-number
returns-clause-number g c = if_ok c.reopened.result (λ conn low clean has.
    let one : c.expect_tables.new.conn ≡ c.args.connection = c.expect_tables.ensures.kept has in
    let clean_then : HasCleanDisk (state g.S.Store c.expect_number.new.conn) = omega (arith, low, clean) in
    subst (λ (h : Held _). TellsNumber ((state g.S.Store h).now.trees 4) (pos 1)) one (c.in_ok-expect_number.ensures.number clean_then (same_schema _ _ _ one has))) c.reopened.ensures.clean

numbered : {T : Type 0} (r : Result T SqlFault) (rows : List Row) → IfErr r IsUnnumbered → TellsNumber rows (pos 1) → HasNumber r rows
numbered (Ok x) rows other told = told
numbered (Err (BadSchema found)) rows other told = absurd (other found refl)
numbered (Err Failed) rows other told = tt
numbered (Err Memory) rows other told = tt

pub returns-clause-refused : goal.returns-clause-refused
returns-clause-refused g c = λ reliable has.
    let one : c.expect_tables.new.conn ≡ c.args.connection = c.expect_tables.ensures.kept has in
    let told = c.in_ok-expect_number.ensures.number (reliable c.expect_number.new.conn) (same_schema _ _ _ one has) in
    numbered c.reopened.result _ c.reopened.ensures.unnumbered (subst (λ (h : Held _). TellsNumber ((state g.S.Store h).now.trees 4) (pos 1)) one told)
