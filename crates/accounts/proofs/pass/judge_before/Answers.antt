use Rattle.std.proofs.Common.{◌≡◌, ◌-◌, ◌++◌, ◌∙◌, Option, List, ℕ, ap, arith, drop, length, subst, sym, take}
use Rattle.std.specs.FinMap.{get}
use Rattle.std.proofs.lemmas.List.{take-append-drop}
use Rattle.git_object.specs.Names.{log_name}
use Rattle.rsl_chain.specs.Logs.{IsLogOf, heads_of}
use Rattle.rsl_chain.proofs.Chains.{one_log}
use Rattle.entry_rules.specs.RealRules.{real_rules}
use Rattle.verify_ref.specs.Logs.{AreEntries}
use Rattle.verify_ref.specs.Reading.{AreBounded, judging_reads}
use Rattle.accounts.proofs.Walked.{refusal_of}
use Rattle.accounts.proofs.pass.judge_before.Goals as goal

pub take_all-requires-clause-known : goal.take_all-requires-clause-known
take_all-requires-clause-known g c = λ r told. c.unjudged-judged.ensures.known r

pub returns-clause-broken : goal.returns-clause-broken
returns-clause-broken g c = λ r told.
    let found = c.in_ok-log.ensures.log r (c.take_all.ensures.same.content r told) in
    let n = c.args.number - 1 in
    let front : c.front_of-front.result.now ≡ take n c.in_ok-log.log.ids = c.front_of-front.ensures ∙ ap (λ (k : ℕ). take k c.as_slice.result.now) c.below.ensures ∙ ap (take n) c.as_slice.ensures in
    let rest = drop n c.in_ok-log.log.ids in
    let whole : c.in_ok-log.log.ids ≡ c.front_of-front.result.now ++ rest = sym (take-append-drop n c.in_ok-log.log.ids) ∙ ap (λ (xs : List (List ℕ)). xs ++ rest) (sym front) in
    refusal_of r c.in-Err.fault (c.in-Err.ensures.unbroken r told rest (subst (IsLogOf r) whole found))

pub returns-in-Ok-clause-judged : goal.returns-in-Ok-clause-judged
returns-in-Ok-clause-judged g c = λ r told.
    let found = c.in_ok-log.ensures.log r (c.take_all.ensures.same.content r told) in
    let n = c.args.number - 1 in
    let was = c.in-Ok.ensures.stands r told in
    record {
      ids = c.in_ok-log.log.ids;
      is_log = found;
      log = was.0;
      entries = subst (λ (xs : List (List ℕ)). AreEntries r xs was.0) (c.front_of-front.ensures ∙ ap (λ (k : ℕ). take k c.as_slice.result.now) c.below.ensures ∙ ap (take n) c.as_slice.ensures) was.1;
      stands = was.3;
      anchored = ap (λ rules. rules.anchor) c.take_all.ensures.rules ∙ c.unjudged-judged.ensures.anchor;
    }

pub returns-in-Ok-clause-reads : goal.returns-in-Ok-clause-reads
returns-in-Ok-clause-reads g c = λ r told ids log is_log are bounded.
    let n = c.args.number - 1 in
    let given : c.unjudged-judged.result.engine.rules.anchor ≡ c.args.anchor = c.unjudged-judged.ensures.anchor in
    let found = c.in_ok-log.ensures.log r (c.take_all.ensures.same.content r told) in
    let same : ids ≡ c.in_ok-log.log.ids = one_log (heads_of r) (get r.refs log_name) ids c.in_ok-log.log.ids is_log found in
    let front : c.front_of-front.result.now ≡ take n c.in_ok-log.log.ids = c.front_of-front.ensures ∙ ap (λ (k : ℕ). take k c.as_slice.result.now) c.below.ensures ∙ ap (take n) c.as_slice.ensures in
    let these : AreEntries r c.front_of-front.result.now log = subst (λ (xs : List (List ℕ)). AreEntries r xs log) (ap (take n) same ∙ sym front) are in
    let all : AreBounded (real_rules c.unjudged-judged.result.engine.rules.anchor) log = subst (λ (a : Option (List (List ℕ))). AreBounded (real_rules a) log) (sym given) bounded in
    let taken = ap (λ (a : Option (List (List ℕ))). judging_reads (real_rules a) log) given in
    omega (arith, c.in-Ok.ensures.reads r log told these all, taken, ap length same, c.in_ok-log.ensures.reads)
