use Rattle.std.proofs.Common.{◌+◌, arith}
use Rattle.std.proofs.lemmas.Result.{IfOk-weaker}
use Rattle.tree_paths.specs.Repositories.{readings_of}
use Rattle.tree_paths.specs.States.{root_of}
use Rattle.global_rules.specs.Commits.{commit_parents}
use Rattle.global_rules.specs.declared.descents.Descent.TheVariants.{No, Yes}
use Rattle.global_rules.proofs.Peeling.{descent_in, few_reads, from_bad, from_nothing, of_bad, of_both, of_nothing, of_walk, reads_in, told_by, walked_from}
use Rattle.global_rules.proofs.targets.descends.Goals as goal

pub returns-in_err-start-clause-reads : goal.returns-in_err-start-clause-reads
returns-in_err-start-clause-reads g c = λ r told.
    few_reads c.args.most (commit_parents r) (root_of (readings_of r).heads c.args.target.now) (g.R.Keeper.reads c.args.keeper.now) (g.R.Keeper.reads c.root_of.new.keeper)
    (let a = c.root_of.ensures.reads in omega (arith, a))

pub returns-in_err-end-clause-reads : goal.returns-in_err-end-clause-reads
returns-in_err-end-clause-reads g c = λ r told.
    few_reads c.args.most (commit_parents r) (root_of (readings_of r).heads c.args.target.now) (g.R.Keeper.reads c.args.keeper.now) (g.R.Keeper.reads c.root_of-2.new.keeper)
    (let a = c.root_of.ensures.reads in let b = c.root_of-2.ensures.reads in omega (arith, a, b))

pub returns-in-Nothing-clause-descent : goal.returns-in-Nothing-clause-descent
returns-in-Nothing-clause-descent g c = λ r told.
    descent_in c.args.most r c.args.target.now c.args.from.now c.in_ok-end.end c.in_ok-start.start Yes (c.in_ok-end.ensures.root (readings_of r) (told_by r told))
    (c.in_ok-start.ensures.root (readings_of r) (told_by r (c.root_of-2.ensures.same.content r told)))
    (from_nothing c.args.most (commit_parents r) c.in_ok-end.end c.in_ok-start.start c.in-Nothing.is)

pub returns-in-Nothing-clause-reads : goal.returns-in-Nothing-clause-reads
returns-in-Nothing-clause-reads g c = λ r told.
    few_reads c.args.most (commit_parents r) (root_of (readings_of r).heads c.args.target.now) (g.R.Keeper.reads c.args.keeper.now) (g.R.Keeper.reads c.root_of-2.new.keeper)
    (let a = c.root_of.ensures.reads in let b = c.root_of-2.ensures.reads in omega (arith, a, b))

pub returns-in-Bad-clause-descent : goal.returns-in-Bad-clause-descent
returns-in-Bad-clause-descent g c = λ r told.
    descent_in c.args.most r c.args.target.now c.args.from.now c.in_ok-end.end c.in_ok-start.start No (c.in_ok-end.ensures.root (readings_of r) (told_by r told))
    (c.in_ok-start.ensures.root (readings_of r) (told_by r (c.root_of-2.ensures.same.content r told)))
    (from_bad c.args.most (commit_parents r) c.in_ok-end.end c.in_ok-start.start _ c.in-Bad.is)

pub returns-in-Bad-clause-reads : goal.returns-in-Bad-clause-reads
returns-in-Bad-clause-reads g c = λ r told.
    few_reads c.args.most (commit_parents r) (root_of (readings_of r).heads c.args.target.now) (g.R.Keeper.reads c.args.keeper.now) (g.R.Keeper.reads c.root_of-2.new.keeper)
    (let a = c.root_of.ensures.reads in let b = c.root_of-2.ensures.reads in omega (arith, a, b))

pub returns-in-Nothing-end-clause-descent : goal.returns-in-Nothing-end-clause-descent
returns-in-Nothing-end-clause-descent g c = λ r told.
    descent_in c.args.most r c.args.target.now c.args.from.now c.in_ok-end.end c.in_ok-start.start No (c.in_ok-end.ensures.root (readings_of r) (told_by r told))
    (c.in_ok-start.ensures.root (readings_of r) (told_by r (c.root_of-2.ensures.same.content r told)))
    (of_nothing c.args.most (commit_parents r) c.in_ok-end.end c.in_ok-start.start _ _ c.in-Nothing-end.is c.in-At.is)

pub returns-in-Nothing-end-clause-reads : goal.returns-in-Nothing-end-clause-reads
returns-in-Nothing-end-clause-reads g c = λ r told.
    few_reads c.args.most (commit_parents r) (root_of (readings_of r).heads c.args.target.now) (g.R.Keeper.reads c.args.keeper.now) (g.R.Keeper.reads c.root_of-2.new.keeper)
    (let a = c.root_of.ensures.reads in let b = c.root_of-2.ensures.reads in omega (arith, a, b))

pub returns-in-Bad-end-clause-descent : goal.returns-in-Bad-end-clause-descent
returns-in-Bad-end-clause-descent g c = λ r told.
    descent_in c.args.most r c.args.target.now c.args.from.now c.in_ok-end.end c.in_ok-start.start No (c.in_ok-end.ensures.root (readings_of r) (told_by r told))
    (c.in_ok-start.ensures.root (readings_of r) (told_by r (c.root_of-2.ensures.same.content r told)))
    (of_bad c.args.most (commit_parents r) c.in_ok-end.end c.in_ok-start.start _ _ _ c.in-Bad-end.is c.in-At.is)

pub returns-in-Bad-end-clause-reads : goal.returns-in-Bad-end-clause-reads
returns-in-Bad-end-clause-reads g c = λ r told.
    few_reads c.args.most (commit_parents r) (root_of (readings_of r).heads c.args.target.now) (g.R.Keeper.reads c.args.keeper.now) (g.R.Keeper.reads c.root_of-2.new.keeper)
    (let a = c.root_of.ensures.reads in let b = c.root_of-2.ensures.reads in omega (arith, a, b))

pub returns-in-At-end-clause-descent : goal.returns-in-At-end-clause-descent
returns-in-At-end-clause-descent g c =
    IfOk-weaker c.walk.result _ _ (λ descent is r told.
    let behind = c.walk.ensures.same.content r told in
    descent_in c.args.most r c.args.target.now c.args.from.now c.in_ok-end.end c.in_ok-start.start descent (c.in_ok-end.ensures.root (readings_of r) (told_by r behind))
    (c.in_ok-start.ensures.root (readings_of r) (told_by r (c.root_of-2.ensures.same.content r behind)))
    (of_both c.args.most (commit_parents r) c.in_ok-end.end c.in_ok-start.start _ _ _ _ descent c.in-At-end.is c.in-At.is (is r told))) c.walk.ensures.descent

pub returns-in-At-end-clause-reads : goal.returns-in-At-end-clause-reads
returns-in-At-end-clause-reads g c = λ r told.
    let behind = c.walk.ensures.same.content r told in
    reads_in c.args.most r c.args.target.now c.in_ok-end.end (g.R.Keeper.reads c.args.keeper.now) (g.R.Keeper.reads c.walk.new.keeper) (c.in_ok-end.ensures.root (readings_of r) (told_by r behind))
    (of_walk c.args.most (commit_parents r) c.in_ok-end.end _ _ (g.R.Keeper.reads c.args.keeper.now) (g.R.Keeper.reads c.walk.new.keeper) c.in-At-end.is
    (walked_from c.args.most (commit_parents r) _ (g.R.Keeper.reads c.args.keeper.now + 18) (g.R.Keeper.reads c.root_of-2.new.keeper) (g.R.Keeper.reads c.walk.new.keeper)
    (let a = c.root_of.ensures.reads in let b = c.root_of-2.ensures.reads in omega (arith, a, b)) (c.walk.ensures.walked r told)))
