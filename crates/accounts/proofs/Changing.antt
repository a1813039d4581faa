-- What a policy entry changes, told by what the policy before it said.
use Rattle.std.proofs.Common.{◌≡◌, ◌&&◌, ◌++◌, Bool, true, false, cond, is_none, List, [], ◌∷◌, Option, Some, None, refl, ap, ◌∙◌}
use Rattle.git_object.specs.References.{policy_name}
use Rattle.rsl_chain.specs.Entries.{Taken, is_of}
use Rattle.judging.specs.Logs.{fault_of, policy_after}
use Rattle.judging.specs.Rules.{Rules}
use Rattle.judging.specs.Verdicts.{verdict_of}
use Rattle.judging.specs.declared.verdicts.EntryVerdict.{EntryVerdict}
use Rattle.policy_changes.specs.declared.changes.PolicyChange.{PolicyChange}
use Rattle.policy_changes.specs.declared.says.PolicySays.{PolicySays}
use Rattle.policy_epochs.specs.declared.policies.Policy.{Policy}
use Rattle.entry_rules.specs.declared.faults.Fault.{Fault}
use Rattle.accounts.specs.Rows.{changed_between, changed_of}
use Rattle.accounts.specs.Steps.{changed_then, is_authorised, said_before}
use Rattle.accounts.proofs.Taking.{authorised_is}

by_both : (own lawful : Bool) (was now : Option Policy) → changed_then (own && lawful) (said_before was own) now ≡ cond (own && lawful) (changed_between was now) None
by_both false lawful was now = refl
by_both true false was now = refl
by_both true true None now = refl
by_both true true (Some was) None = refl
by_both true true (Some was) (Some now) = refl

pub changed_found : (rules : Rules Policy Fault) (log : List Taken) (t : Taken) (verdict : EntryVerdict Fault) (opens : Bool) (said : Option PolicySays) (now : Option Policy) (changed : Option PolicyChange)
    → verdict ≡ verdict_of rules log t → opens ≡ (is_of t.entry.body policy_name && is_authorised verdict)
    → said ≡ said_before (policy_after rules log) (is_of t.entry.body policy_name) → now ≡ policy_after rules (log ++ t ∷ []) → changed ≡ changed_then opens said now
    → changed ≡ changed_of rules log t
changed_found rules log t verdict opens said now changed verdict_is opens_is said_is now_is is =
    let own = is_of t.entry.body policy_name in
    is ∙ ap (λ (b : Bool). changed_then b said now) (opens_is ∙ ap (λ (v : EntryVerdict Fault). own && is_authorised v) verdict_is ∙ authorised_is t.entry.body (fault_of rules log (Some t)))
    ∙ ap (λ (s : Option PolicySays). changed_then (own && is_none (fault_of rules log (Some t))) s now) said_is
    ∙ by_both own (is_none (fault_of rules log (Some t))) (policy_after rules log) now
    ∙ ap (λ (p : Option Policy). cond (own && is_none (fault_of rules log (Some t))) (changed_between (policy_after rules log) p) None) now_is
