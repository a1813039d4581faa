use Rattle.std.proofs.Common.{◌≡◌, ◌≤◌, ◌+◌, Option, List, ℕ, true, refl, rules, [], arith, subst, sym, ap, ◌∙◌}
use Rattle.std.proofs.lemmas.List.{take_all}
use Rattle.rsl_chain.specs.Entries.{Taken}
use Rattle.judging.specs.Reads.{is_bounded}
use Rattle.entry_rules.specs.RealRules.{real_rules}
use Rattle.keeper_api.proofs.Coming.{as_before_then}
use Rattle.verify_ref.specs.Logs.{AreEntries}
use Rattle.verify_ref.specs.Reading.{extending_reads}
use Rattle.verify_ref.proofs.Growing.{reads_more}
use Rattle.verify_ref.proofs.Walking.{unbroken}
use Rattle.judged_logs.specs.LaterRules.{rules_from}
use Rattle.accounts.specs.Later.{StandsFrom}
use Rattle.accounts.proofs.Walked.{judged_next}
use Rattle.accounts.proofs.later_pass.take_all.Goals as goal

pub ids-init : goal.ids-init
ids-init g c = record {
  so = λ r told. ([], refl, tt, c.requires.none);
  first = refl;
  rules = refl;
  known = c.requires.known;
  reads = λ r log told are bounded. omega arith;
  same = search rules;
  quiet = refl;
}

pub ids-preserved : goal.ids-preserved
ids-preserved g c = record {
  so = λ r told.
      let was = c.ids.invariant.so r (c.take.ensures.same.content r told) in
      judged_next r c.args.ids.now c.ids.id-index c.id-item.result c.ids-test.true c.id-item.is was.0 (λ log. StandsFrom log c.ids.judged) (λ log. StandsFrom log c.take.new.judged) was.1 was.2 was.3 (c.in-Ok.ensures.taken r told);
  first = c.take.ensures.first ∙ c.ids.invariant.first;
  rules = c.take.ensures.rules ∙ c.ids.invariant.rules;
  known = c.take.ensures.known;
  reads = λ r more told are bounded.
      let before = c.take.ensures.same.content r told in
      let was = c.ids.invariant.so r before in
      let step = c.in-Ok.ensures.taken r told in
      let t : Taken = record { entry = step.entry; repository = r } in
      let one = subst (λ (a : Option (List (List ℕ))). is_bounded (real_rules a) was.0 t ≡ true → g.R.Keeper.reads c.take.new.keeper ≤ g.R.Keeper.reads c.ids.keeper + (1 + extending_reads (real_rules a) was.0 t))
      (ap (λ rules. rules.anchor) c.ids.invariant.rules) (c.in-Ok.ensures.reads r was.0 step.entry told was.3.follows was.3.numbered step.there) in
      reads_more (real_rules c.args.judged.now.engine.rules.anchor) r c.args.ids.now c.ids.id-index c.id-item.result c.ids-test.true c.id-item.is was.0 was.1 step.entry step.there _ _ _
      (c.ids.invariant.reads r was.0 before was.1) one more are bounded;
  same = as_before_then g.R.Keeper c.args.keeper.now c.ids.keeper c.take.new.keeper
      c.ids.invariant.same c.take.ensures.same;
  quiet = search rules;
}

pub returns-in-Err-clause-unbroken : goal.returns-in-Err-clause-unbroken
returns-in-Err-clause-unbroken g c = λ r told is_log.
    let was = c.ids.invariant.so r (c.take.ensures.same.content r told) in
    unbroken (rules_from c.ids.judged.engine.first (real_rules c.ids.judged.engine.rules.anchor)) r c.args.ids.now c.ids.id-index c.id-item.result c.ids-test.true c.id-item.is c.ids.judged.engine.entries was.0 was.1 was.3.follows c.in-Err.fault (c.in-Err.ensures.broken r told) is_log

pub returns-clause-stands : goal.returns-clause-stands
returns-clause-stands g c = λ r told.
    let was = c.ids.invariant.so r told in
    (was.0, subst (λ xs. AreEntries r xs was.0) (take_all c.ids.id-index c.args.ids.now c.ids-test.false) was.1, was.2, was.3)

pub returns-clause-reads : goal.returns-clause-reads
returns-clause-reads g c = λ r log told are bounded. c.ids.invariant.reads r log told (subst (λ xs. AreEntries r xs log) (sym (take_all c.ids.id-index c.args.ids.now c.ids-test.false)) are) bounded
