use Rattle.std.proofs.Common.{◌≡◌, ◌≤◌, ◌+◌, Some, arith, rules}
use Rattle.entry_rules.specs.Learning.{IsLesson}
use Rattle.entry_rules.specs.RealRules.{real_rules}
use Rattle.rsl_chain.specs.Entries.{Taken}
use Rattle.tree_paths.specs.Repositories.{readings_of}
use Rattle.judging.proofs.Takes.{on_ok}
use Rattle.verify_ref.specs.Reading.{extending_reads}
use Rattle.judged_logs.proofs.Later.{reads_less}
use Rattle.accounts.proofs.later_engine.LaterEngine.extend.Goals as goal

pub returns-clause-known : goal.returns-clause-known
returns-clause-known g c = λ r told.
    let there : g.R.Keeper.content c.extend_in-verdict.new.store.keeper.now ≡ Some r = search rules in
    let taught : IsLesson (readings_of r).trees c.extend_in-verdict.new.store.lesson.now = c.extend_in-verdict.ensures.lesson r there (c.none-lesson.ensures (readings_of r).trees) in
    let known = c.learn_before.ensures.known r (c.extend_in-verdict.ensures.same.content r there) in
    search rules

pub returns-clause-reads : goal.returns-clause-reads
returns-clause-reads g c = on_ok c.extend_in-verdict.result c.extend_in-verdict.ensures.reads (λ fits. λ r log told follows numbered bounded.
    let there : g.R.Keeper.content c.extend_in-verdict.new.store.keeper.now ≡ Some r = search rules in
    let t : Taken = record { entry = c.args.entry.now; repository = r } in
    let rules_ = real_rules c.args.self.now.rules.anchor in
    let before = c.extend_in-verdict.ensures.same.content r there in
    let fits_here : g.R.Keeper.reads c.extend_in-verdict.new.store.keeper.now ≤ g.R.Keeper.reads c.args.keeper.now + extending_reads rules_ log t = omega (arith, c.learn_before.ensures.reads r rules_ log before follows numbered, fits r log there follows bounded, reads_less c.args.self.now.first rules_ log t) in
    search rules)
