use Rattle.std.proofs.Common.{◌≡◌, ◌+◌, ◌∙◌, Bool, false, Some, ap, sym, arith}
use Rattle.std.specs.Prelude.{if◌then◌else◌, unwrap_or}
use Rattle.git_object.specs.Ids.{zeros}
use Rattle.tree_paths.specs.Listings.{walk_visits}
use Rattle.tree_paths.specs.Repositories.{readings_of}
use Rattle.tree_paths.proofs.Existence.{are_readings}
use Rattle.judging.specs.Logs.{from, prior_target}
use Rattle.judging.specs.Reads.{may_rescue}
use Rattle.verify_ref.specs.Reading.{learning_reads}
use Rattle.verify_ref.proofs.next_entry.learn_before.Goals as goal

pub returns-in-Some-clause-reads : goal.returns-in-Some-clause-reads
returns-in-Some-clause-reads g c = λ r rules log told stands.
    let at : prior_target rules log c.in-Reference.name ≡ Some c.in-Some.from = sym (c.prior_target.ensures rules log stands) ∙ c.in-Some.is in
    let there : from rules log c.in-Reference.name ≡ c.in-Some.from = ap (λ o. unwrap_or o zeros) at in
    let visits = ap (walk_visits (readings_of r)) there in
    let alone : may_rescue rules log c.in-Reference.name ≡ false = sym (c.may_rescue.ensures rules log stands) ∙ c.if-may_rescue.false in
    let body = ap (learning_reads rules r log) c.in-Reference.is ∙ ap (λ (b : Bool). if b then 0 else 9 + walk_visits (readings_of r) (from rules log c.in-Reference.name)) alone in
    omega (arith, c.learn.ensures.visited (readings_of r) (record { repository = r; told = told; are = are_readings r }), body, visits)
