use Rattle.std.proofs.Common.{◌≡◌, ◌∙◌, ℕ, List, ap, subst, sym}
use Rattle.std.specs.Prelude.{Option, unwrap_or}
use Rattle.std.specs.FinMap.{get}
use Rattle.git_object.specs.Repository.{value_of}
use Rattle.rsl_chain.specs.Histories.{AreEntriesAt}
use Rattle.policy_reading.proofs.Passing.{unmissed}
use Rattle.policy_reading.specs.InForce.{MissesEntry}
use Rattle.commands_policy.proofs.Judging.{judges_epoch, judges_fault}
use Rattle.commands_policy.proofs.policies.judge_value.Goals as goal

pub returns-in-Ok-None-clause-judges : goal.returns-in-Ok-None-clause-judges
returns-in-Ok-None-clause-judges g c = λ r told is.
    let answer = c.in-Ok.ensures.answer r (c.in-Ok-None.ensures.same.content r told) in
    let value : c.unwrap_or-target.result ≡ value_of r c.args.name.now =
    c.unwrap_or-target.ensures ∙ ap (λ (o : Option (List ℕ)). unwrap_or o c.zeros.result) answer ∙ ap (λ (z : List ℕ). unwrap_or (get r.refs c.args.name.now) z) c.zeros.ensures in
    judges_epoch r c.args.ids.now c.args.name.now c.unwrap_or-target.result value is
    (λ entries are. sym c.in-Ok-None.field-0-is ∙ c.in-Ok-None.ensures.fault r told entries (subst (λ (ids : List (List ℕ)). AreEntriesAt r ids entries) (sym c.as_slice.ensures) are))

pub returns-in-Ok-Some-clause-judges : goal.returns-in-Ok-Some-clause-judges
returns-in-Ok-Some-clause-judges g c = λ r told is.
    let answer = c.in-Ok.ensures.answer r (c.in-Ok-Some.ensures.same.content r told) in
    let value : c.unwrap_or-target.result ≡ value_of r c.args.name.now =
    c.unwrap_or-target.ensures ∙ ap (λ (o : Option (List ℕ)). unwrap_or o c.zeros.result) answer ∙ ap (λ (z : List ℕ). unwrap_or (get r.refs c.args.name.now) z) c.zeros.ensures in
    judges_fault r c.args.ids.now c.args.name.now c.unwrap_or-target.result c.in-Ok-Some.why value is
    (λ entries are. sym c.in-Ok-Some.field-0-is ∙ c.in-Ok-Some.ensures.fault r told entries (subst (λ (ids : List (List ℕ)). AreEntriesAt r ids entries) (sym c.as_slice.ensures) are))

pub returns-in-Err-clause-broken : goal.returns-in-Err-clause-broken
returns-in-Err-clause-broken g c = λ r told is.
    unmissed r c.args.ids.now c.in-Err.fault is (subst (λ (ids : List (List ℕ)). MissesEntry r ids c.in-Err.fault) c.as_slice.ensures (c.in-Err.ensures.broken r told))
