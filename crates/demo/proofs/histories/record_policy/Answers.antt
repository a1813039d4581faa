use Rattle.std.proofs.Common.{◌≡◌, ◌∙◌, ap}
use Rattle.std.specs.Prelude.{None}
use Rattle.git_object.specs.References.{policy_name}
use Rattle.demo.specs.Journals.{uses_of, with_use}
use Rattle.demo.specs.Histories.{draft_of, signed_entry, uses_after}
use Rattle.demo.specs.Policies.{policy_id}
use Rattle.demo.proofs.histories.record_policy.Goals as goal

pub returns-clause-keys : goal.returns-clause-keys
unfolding uses_after
returns-clause-keys c = c.in_ok-entry.ensures.next ∙ ap (with_use 0) c.requires

pub returns-clause-entry : goal.returns-clause-entry
returns-clause-entry c = λ same.
    let draft : c.in_ok-draft.draft ≡ draft_of 1 None 0 policy_name policy_id =
    c.in_ok-draft.ensures ∙ (λ j. draft_of 1 None 0 (c.in_ok-name.ensures j) (same j)) in
    c.in_ok-entry.ensures.entry ∙ (λ j. signed_entry 0 (uses_of 0 (c.requires j)) (draft j))
