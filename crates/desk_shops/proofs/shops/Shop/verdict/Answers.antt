use Rattle.desk_shops.proofs.Verdicts.{verdict_judged, verdict_stands, verdict_unbroken}
use Rattle.desk_shops.proofs.shops.Shop.verdict.Goals as goal

pub returns-clause-stands : goal.returns-clause-stands
returns-clause-stands g c =
    verdict_stands g.R.Keeper c.verdict.new.keeper c.args.self.now.state c.verdict.new.self c.args.name.now c.args.self.now.keeper c.verdict.ensures.same c.requires.clear c.verdict.ensures.rules c.verdict.result c.verdict.ensures.log c.verdict.ensures.cause
    c.verdict.ensures.judges c.verdict.ensures.front

pub returns-clause-judged : goal.returns-clause-judged
returns-clause-judged g c =
    verdict_judged g.R.Keeper c.verdict.new.keeper c.args.self.now.state c.verdict.new.self c.args.name.now c.args.self.now.keeper c.verdict.ensures.same c.requires.clear c.verdict.ensures.rules c.verdict.result c.verdict.ensures.judges

pub returns-clause-unbroken : goal.returns-clause-unbroken
returns-clause-unbroken g c =
    verdict_unbroken g.R.Keeper c.verdict.new.keeper c.args.self.now.state c.verdict.new.self c.args.name.now c.args.self.now.keeper c.verdict.ensures.same c.requires.clear c.verdict.ensures.rules c.verdict.result c.verdict.ensures.broken
