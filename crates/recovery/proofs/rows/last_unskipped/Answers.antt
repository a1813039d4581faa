use Rattle.std.proofs.Common.{◌≡◌, ◌<◌, ◌-◌, true, arith}
use Rattle.recovery.specs.Rows.{row_at}
use Rattle.recovery.proofs.RowLemmas.{back_step}
use Rattle.recovery.proofs.rows.last_unskipped.Goals as goal

pub rows-preserved : goal.rows-preserved
rows-preserved c =
    let some : 0 < c.rows.last = omega arith in
    let skipped : (row_at c.args.rows.now (c.rows.last - 1)).skipped ≡ true = c.if-rows-last.true in
    record {
      within = let l = (c.requires.linked (c.rows.last - 1) (let w = c.rows.invariant.within in omega arith)).within in let w = c.rows.invariant.within in omega arith;
      after = λ slot a. back_step c.args.rows.now slot c.rows.last c.requires.linked (c.rows.invariant.after slot a) some skipped;
    }

pub returns-else-rows-last : goal.returns-else-rows-last
returns-else-rows-last c = λ slot a. record { after = c.rows.invariant.after slot a; unskipped = λ some. c.if-rows-last.false }

pub returns-after-rows : goal.returns-after-rows
returns-after-rows c = λ slot a. record { after = c.rows.invariant.after slot a; unskipped = λ some. absurd (omega arith) }
