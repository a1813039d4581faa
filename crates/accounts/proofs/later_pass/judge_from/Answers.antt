use Rattle.std.proofs.Common.{◌≡◌, ◌∙◌, Option, List, ℕ, ap, arith, length, subst, sym}
use Rattle.std.specs.FinMap.{get}
use Rattle.git_object.specs.Names.{log_name}
use Rattle.rsl_chain.specs.Logs.{IsLogOf, heads_of}
use Rattle.rsl_chain.proofs.Chains.{one_log}
use Rattle.entry_rules.specs.RealRules.{real_rules}
use Rattle.verify_ref.specs.Logs.{AreEntries}
use Rattle.verify_ref.specs.Reading.{AreBounded, judging_reads}
use Rattle.accounts.proofs.Walked.{refusal_of}
use Rattle.accounts.proofs.later_pass.judge_from.Goals as goal

pub take_all-requires-clause-known : goal.take_all-requires-clause-known
take_all-requires-clause-known g c = λ r told. c.unjudged-judged.ensures.known r

pub returns-clause-broken : goal.returns-clause-broken
returns-clause-broken g c = λ r told.
    let found = c.in_ok-log.ensures.log r (c.take_all.ensures.same.content r told) in
    refusal_of r c.in-Err.fault (c.in-Err.ensures.unbroken r told (subst (IsLogOf r) (sym c.as_slice.ensures) found))

pub returns-in-Ok-clause-reads : goal.returns-in-Ok-clause-reads
returns-in-Ok-clause-reads g c = λ r told ids log is_log are bounded.
    let given : c.unjudged-judged.result.engine.rules.anchor ≡ c.args.anchor = c.unjudged-judged.ensures.anchor in
    let found = c.in_ok-log.ensures.log r (c.take_all.ensures.same.content r told) in
    let same : ids ≡ c.in_ok-log.log.ids = one_log (heads_of r) (get r.refs log_name) ids c.in_ok-log.log.ids is_log found in
    let these : AreEntries r c.as_slice.result.now log = subst (λ (xs : List (List ℕ)). AreEntries r xs log) (same ∙ sym c.as_slice.ensures) are in
    let all : AreBounded (real_rules c.unjudged-judged.result.engine.rules.anchor) log = subst (λ (a : Option (List (List ℕ))). AreBounded (real_rules a) log) (sym given) bounded in
    let taken = ap (λ (a : Option (List (List ℕ))). judging_reads (real_rules a) log) given in
    omega (arith, c.in-Ok.ensures.reads r log told these all, taken, ap length same, c.in_ok-log.ensures.reads)

pub returns-in-Ok-clause-judged : goal.returns-in-Ok-clause-judged
returns-in-Ok-clause-judged g c = λ r told.
    let found = c.in_ok-log.ensures.log r (c.take_all.ensures.same.content r told) in
    let was = c.in-Ok.ensures.stands r told in
    record {
      ids = c.in_ok-log.log.ids;
      is_log = found;
      log = was.0;
      entries = subst (λ (xs : List (List ℕ)). AreEntries r xs was.0) c.as_slice.ensures was.1;
      own = was.2;
      stands = was.3;
      anchored = ap (λ rules. rules.anchor) c.take_all.ensures.rules ∙ c.unjudged-judged.ensures.anchor;
      begun = c.take_all.ensures.first ∙ c.unjudged-judged.ensures.first;
    }
