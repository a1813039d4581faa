use Rattle.std.proofs.Common.{◌≡◌, ◌-◌, ◌<◌, Some, ℕ, suc, length, refl, arith, rules}
use Rattle.std.proofs.lemmas.Option.{slice_get_read}
use Rattle.git_object.specs.Repository.{Repository}
use Rattle.clone_stream.proofs.Lacking.{gives}
use Rattle.pushes.specs.Going.{IsBreakAmong}
use Rattle.pushes.proofs.Values.{break_at, found_last, found_none, none_before}
use Rattle.pushes.proofs.going.value_after.Goals as goal

pub returns-in_err-entry-clause-broken : goal.returns-in_err-entry-clause-broken
returns-in_err-entry-clause-broken g c =
    let ids = c.args.before.now in
    let place : ℕ = c.entries.end - 1 in
    let less : place < length ids = omega (arith, c.entries.invariant.within, c.entries-test.true) in
    let there = slice_get_read ids (length ids) place c.index-before-end.result refl less c.index-before-end.is in
    gives c.from_residual.result c.in_err-entry.field-0.0
    (λ fault. (r : Repository) → g.R.Keeper.content c.read_entry.new.keeper ≡ Some r → IsBreakAmong r ids fault) c.from_residual.ensures.1
    (λ r told. break_at r ids place c.index-before-end.result c.in_err-entry.field-0.0 there
    (c.in_err-entry.ensures.broken r told) c.in_err-entry.ensures.named)

pub returns-in-Some-clause-value : goal.returns-in-Some-clause-value
returns-in-Some-clause-value g c = λ r told.
    let ids = c.args.before.now in
    let place : ℕ = c.entries.end - 1 in
    let less : place < length ids = omega (arith, c.entries.invariant.within, c.entries-test.true) in
    let next : c.entries.end ≡ suc place = omega (arith, c.entries-test.true) in
    let there = slice_get_read ids (length ids) place c.index-before-end.result refl less c.index-before-end.is in
    found_last r c.args.name.now ids c.entries.end place c.index-before-end.result c.in_ok-entry.entry c.in-Some.target next there
    (c.in_ok-entry.ensures.entry r told) c.in-Some.ensures.some
    (c.entries.invariant.from r (c.in_ok-entry.ensures.same.content r told))

pub entries-preserved : goal.entries-preserved
entries-preserved g c =
    let ids = c.args.before.now in
    let place : ℕ = c.entries.end - 1 in
    let less : place < length ids = omega (arith, c.entries.invariant.within, c.entries-test.true) in
    let next : c.entries.end ≡ suc place = omega (arith, c.entries-test.true) in
    let there = slice_get_read ids (length ids) place c.index-before-end.result refl less c.index-before-end.is in
    record {
      from = λ r told. none_before r c.args.name.now ids c.entries.end place c.index-before-end.result c.in_ok-entry.entry next there
          (c.in_ok-entry.ensures.entry r told) c.in_default.ensures.none
          (c.entries.invariant.from r (c.in_ok-entry.ensures.same.content r told));
      within = omega (arith, less);
      same = search rules;
      quiet = search rules;
    }

pub returns-clause-value : goal.returns-clause-value
returns-clause-value g c = λ r told.
    let start : c.entries.end ≡ 0 = omega (arith, c.entries-test.false) in
    found_none r c.args.name.now c.args.before.now c.entries.end c.zeros.result start c.zeros.ensures (c.entries.invariant.from r told)
