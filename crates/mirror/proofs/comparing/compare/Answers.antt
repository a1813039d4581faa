use Rattle.std.proofs.Common.{◌≢◌, ◌≡◌, refl, sym, arith, rules}
use Rattle.mirror.proofs.TwoLists.{goes_on, one_more, parted}
use Rattle.mirror.proofs.comparing.compare.Goals as goal

pub returns-then-at-offered : goal.returns-then-at-offered
returns-then-at-offered c = (
  refl,
  refl,
  goes_on c.args.offered.now c.args.kept.now c.entries.at c.if-at-offered.true c.entries-test.true c.entries.invariant.alike,
)

pub returns-then-ne : goal.returns-then-ne
returns-then-ne c =
    let differ : c.index-kept-at.result ≢ c.index-offered-at.result = search rules in
    parted c.args.kept.now c.args.offered.now c.entries.at c.index-kept-at.result c.index-offered-at.result c.entries-test.true (omega arith)
    c.entries.invariant.alike c.index-kept-at.is c.index-offered-at.is differ

pub entries-preserved : goal.entries-preserved
entries-preserved c =
    let same : c.index-kept-at.result ≡ c.index-offered-at.result = search rules in
    record {
      alike = one_more c.args.kept.now c.args.offered.now c.entries.at c.index-kept-at.result c.index-offered-at.result c.entries-test.true (omega arith)
          c.entries.invariant.alike c.index-kept-at.is c.index-offered-at.is same;
      within = omega arith;
    }

pub returns : goal.returns
returns c = (
  refl,
  refl,
  goes_on c.args.kept.now c.args.offered.now c.entries.at c.entries-test.false (omega arith) (sym c.entries.invariant.alike),
)
