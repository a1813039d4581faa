use Rattle.std.proofs.Common.{length, refl, rules, sym}
use Rattle.std.proofs.lemmas.Option.{slice_get_read}
use Rattle.pushes.specs.Making.{is_missing}
use Rattle.pushes.proofs.Firsts.{first_at, kept_is, missing_is, none_more}
use Rattle.pushes.proofs.missing.first_missing.Goals as goal

pub returns-then-not-branch-clause-first : goal.returns-then-not-branch-clause-first
returns-then-not-branch-clause-first g c = λ r told.
    let ids = c.args.ids.now in
    let there = slice_get_read ids (length ids) c.ids.id-index c.id-item.result refl c.ids-test.true c.id-item.is in
    let none = c.ids.invariant.none r (c.in_ok-is_kept.ensures.same.content r told) in
    sym (first_at (is_missing r) ids c.ids.id-index c.id-item.result there none
    (missing_is r c.id-item.result (c.in_ok-is_kept.ensures.none c.if-not-branch.true r told)))

pub ids-preserved : goal.ids-preserved
ids-preserved g c = record {
  none = λ r told.
      let ids = c.args.ids.now in
      let there = slice_get_read ids (length ids) c.ids.id-index c.id-item.result refl c.ids-test.true c.id-item.is in
      let none = c.ids.invariant.none r (c.in_ok-is_kept.ensures.same.content r told) in
      none_more (is_missing r) ids c.ids.id-index c.id-item.result there none
      (kept_is r c.id-item.result (c.in_ok-is_kept.ensures.there c.if-not-branch.false r told));
  same = search rules;
  quiet = search rules;
}
