use Rattle.std.proofs.Common.{◌≡◌, ◌∙◌, Result, Ok, Err, Option, List, ℕ, ap, arith, length, subst, sym}
use Rattle.std.specs.Prelude.{OnOk}
use Rattle.std.specs.FinMap.{get}
use Rattle.git_object.specs.Names.{log_name}
use Rattle.rsl_chain.specs.Logs.{heads_of}
use Rattle.rsl_chain.proofs.Chains.{one_log}
use Rattle.entry_rules.specs.RealRules.{real_rules}
use Rattle.verify_ref.specs.Logs.{AreEntries}
use Rattle.verify_ref.specs.Reading.{AreBounded, judging_reads}
use Rattle.verify_ref.proofs.verifying.verify.Goals as goal

by_ok : {T E : Type 0} (P Q : Type 0) (result : Result T E) → (P → Q) → OnOk result P → OnOk result Q
by_ok P Q (Ok x) f p = f p
by_ok P Q (Err e) f p = tt

pub returns-in-Ok-clause-reads : goal.returns-in-Ok-clause-reads
returns-in-Ok-clause-reads g c = by_ok _ _ c.judge_ids.result (λ reads r told ids log is_log are bounded.
    let given : c.new-rules.result.anchor ≡ c.args.anchor = c.new-rules.ensures in
    let found = c.in-Ok.ensures.log r (c.judge_ids.ensures.same.content r told) in
    let same : ids ≡ c.in-Ok.log.ids = one_log (heads_of r) (get r.refs log_name) ids c.in-Ok.log.ids is_log found in
    let these : AreEntries r c.as_slice.result.now log = subst (λ (xs : List (List ℕ)). AreEntries r xs log) (same ∙ sym c.as_slice.ensures) are in
    let all : AreBounded (real_rules c.new-rules.result.anchor) log = subst (λ (a : Option (List (List ℕ))). AreBounded (real_rules a) log) (sym given) bounded in
    let taken = ap (λ (a : Option (List (List ℕ))). judging_reads (real_rules a) log) given in
    omega (arith, reads r log told these all, taken, ap length same, c.in-Ok.ensures.reads)) c.judge_ids.ensures.reads
