use Rattle.std.proofs.Common.{◌+◌, ◌∙◌, List, [], Option, length, ap, arith, subst}
use Rattle.std.specs.List.{filter}
use Rattle.entry_rules.specs.RealRules.{real_rules}
use Rattle.global_rules.specs.declared.whys.GlobalWhy.{GlobalWhy}
use Rattle.global_verdicts.specs.Verdicts.{IsWhyAt}
use Rattle.global_verdicts.specs.declared.rows.Row.{Row}
use Rattle.global_verdicts.proofs.Concluded.{keep_all, keep_more, keep_none}
use Rattle.global_verdicts.proofs.Rowed.{own_count, rows_long}
use Rattle.global_verdicts.proofs.concluding.conclude.Goals as goal

pub places-init : goal.places-init
places-init c = λ log stands. keep_none (real_rules c.args.pass.now.engine.rules.anchor) log c.args.pass.now.name

pub places-preserved : goal.places-preserved
places-preserved c = λ log stands.
    let rules = real_rules c.args.pass.now.engine.rules.anchor in
    let next = subst (λ (why : Option GlobalWhy). IsWhyAt rules log c.args.pass.now.name (c.places.at + 1) why) c.in_default.is (c.in_ok-why.ensures log stands) in
    keep_more rules log c.args.pass.now.name c.places.at (c.places.invariant log stands) next

pub returns-in-Some : goal.returns-in-Some
returns-in-Some c = λ log stands.
    let rules = real_rules c.args.pass.now.engine.rules.anchor in
    let here = subst (λ (why : Option GlobalWhy). IsWhyAt rules log c.args.pass.now.name (c.places.at + 1) why) c.in-Some.is (c.in_ok-why.ensures log stands) in
    (here, λ other less. c.places.invariant log stands other (omega (arith, less)))

pub returns : goal.returns
returns c = λ log stands.
    let rules = real_rules c.args.pass.now.engine.rules.anchor in
    let name = c.args.pass.now.name in
    let long = rows_long rules name [] log c.args.pass.now.rows stands.rows in (
      keep_all rules log name c.places.at (omega (arith, long, c.places-test.false, c.len-at-end.ensures)) (c.places.invariant log stands),
      c.count_own-count.ensures ∙ ap (λ (rows : List Row). length (filter (λ row. row.own) rows)) c.as_slice.ensures ∙ own_count rules name [] log c.args.pass.now.rows stands.rows,
    )
