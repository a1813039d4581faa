use Rattle.std.proofs.Common.{◌++◌, ◌∙◌, List, ap, arith, subst, sym}
use Rattle.entry_rules.specs.RealRules.{real_rules}
use Rattle.verify_ref.specs.Logs.{AreEntries}
use Rattle.verify_ref.specs.Reading.{reads_behind}
use Rattle.desk_core.specs.Lagging.{AreBoundedBehind, BreaksBehind, TakesFront}
use Rattle.desk_core.proofs.Behind.{all_as_front, judged_by, no_rows, rows_same}
use Rattle.desk_core.proofs.catching_up.verdict_behind.Goals as goal

pub take_all-requires : goal.take_all-requires
take_all-requires g c = record { known = λ r told. c.forget.ensures.known r }

pub returns-in-Ok-verdict-clause-judges : goal.returns-in-Ok-verdict-clause-judges
returns-in-Ok-verdict-clause-judges g c = λ r log told follows.
    let all = c.in-Ok.ensures.takes r log (c.verdict.ensures.same.content r told) (c.forget.ensures.follows log follows) in
    let same = rows_same c.args.rows.now c.rows_behind-behind.result.now c.args.engine.now c.forget.new.self c.rows_behind-behind.ensures c.forget.ensures.count in
    judged_by r log _ _ c.take_all.new.engine c.args.name.now _ same all (c.in-Ok-verdict.ensures.judged r (log ++ all.more) told all.follows)

pub returns-in-Ok-verdict-clause-reads : goal.returns-in-Ok-verdict-clause-reads
returns-in-Ok-verdict-clause-reads g c = λ r log more told follows are bounded.
    let same = rows_same c.args.rows.now c.rows_behind-behind.result.now c.args.engine.now c.forget.new.self c.rows_behind-behind.ensures c.forget.ensures.count in
    let these = subst (λ (ids : List _). AreEntries r ids more) (sym same) are in
    let bound = subst (λ x. AreBoundedBehind (real_rules x.anchor) log more) (sym c.forget.ensures.rules) bounded in
    let took = c.in-Ok.ensures.reads r log more (c.verdict.ensures.same.content r told) (c.forget.ensures.follows log follows) these bound in
    let sum = ap (λ x. reads_behind (real_rules x.anchor) log more) c.forget.ensures.rules in
    omega (arith, took, sum, c.verdict.ensures.reads)

pub returns-in-Ok-verdict-clause-free : goal.returns-in-Ok-verdict-clause-free
returns-in-Ok-verdict-clause-free g c = λ none.
    let same = rows_same c.args.rows.now c.rows_behind-behind.result.now c.args.engine.now c.forget.new.self c.rows_behind-behind.ensures c.forget.ensures.count in
    c.verdict.ensures.reads ∙ c.take_all.ensures.free (no_rows c.rows_behind-behind.result.now (same ∙ none))

pub returns-in-Err-clause-front : goal.returns-in-Err-clause-front
returns-in-Err-clause-front g c = λ r log told follows.
    let same = rows_same c.args.rows.now c.rows_behind-behind.result.now c.args.engine.now c.forget.new.self c.rows_behind-behind.ensures c.forget.ensures.count in
    subst (λ ids. TakesFront r log ids c.take_all.new.engine) same (c.in-Err.ensures.front r log told (c.forget.ensures.follows log follows))

pub returns-in-Err-clause-broken : goal.returns-in-Err-clause-broken
returns-in-Err-clause-broken g c = λ r log told follows.
    let same = rows_same c.args.rows.now c.rows_behind-behind.result.now c.args.engine.now c.forget.new.self c.rows_behind-behind.ensures c.forget.ensures.count in
    subst (λ ids. BreaksBehind r log ids c.in-Err.fault) same (c.in-Err.ensures.broken r log told (c.forget.ensures.follows log follows))

pub returns-in-Err-clause-free : goal.returns-in-Err-clause-free
returns-in-Err-clause-free g c = λ none.
    let same = rows_same c.args.rows.now c.rows_behind-behind.result.now c.args.engine.now c.forget.new.self c.rows_behind-behind.ensures c.forget.ensures.count in
    c.take_all.ensures.free (no_rows c.rows_behind-behind.result.now (same ∙ none))

pub returns-in-Err-Failed-clause-front : goal.returns-in-Err-Failed-clause-front
returns-in-Err-Failed-clause-front g c = λ r log told follows.
    let all = c.in-Ok.ensures.takes r log (c.verdict.ensures.same.content r told) (c.forget.ensures.follows log follows) in
    let same = rows_same c.args.rows.now c.rows_behind-behind.result.now c.args.engine.now c.forget.new.self c.rows_behind-behind.ensures c.forget.ensures.count in
    all_as_front r log _ _ c.take_all.new.engine same all

pub returns-in-Err-Failed-clause-free : goal.returns-in-Err-Failed-clause-free
returns-in-Err-Failed-clause-free g c = λ none.
    let same = rows_same c.args.rows.now c.rows_behind-behind.result.now c.args.engine.now c.forget.new.self c.rows_behind-behind.ensures c.forget.ensures.count in
    c.verdict.ensures.reads ∙ c.take_all.ensures.free (no_rows c.rows_behind-behind.result.now (same ∙ none))

pub returns-in-Err-Memory-clause-front : goal.returns-in-Err-Memory-clause-front
returns-in-Err-Memory-clause-front g c = λ r log told follows.
    let all = c.in-Ok.ensures.takes r log (c.verdict.ensures.same.content r told) (c.forget.ensures.follows log follows) in
    let same = rows_same c.args.rows.now c.rows_behind-behind.result.now c.args.engine.now c.forget.new.self c.rows_behind-behind.ensures c.forget.ensures.count in
    all_as_front r log _ _ c.take_all.new.engine same all

pub returns-in-Err-Memory-clause-free : goal.returns-in-Err-Memory-clause-free
returns-in-Err-Memory-clause-free g c = λ none.
    let same = rows_same c.args.rows.now c.rows_behind-behind.result.now c.args.engine.now c.forget.new.self c.rows_behind-behind.ensures c.forget.ensures.count in
    c.verdict.ensures.reads ∙ c.take_all.ensures.free (no_rows c.rows_behind-behind.result.now (same ∙ none))
