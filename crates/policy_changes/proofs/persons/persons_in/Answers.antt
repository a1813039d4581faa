use Rattle.std.proofs.Common.{ap, List, ℕ, ◌∙◌}
use Rattle.std.specs.List.{fold}
use Rattle.rule_files.specs.declared.rules.RuleFile.{RuleFile}
use Rattle.policy_changes.specs.Names.{with_name}
use Rattle.policy_changes.specs.Persons.{file_holders, holders}
use Rattle.policy_changes.proofs.Naming.{both_parts}
use Rattle.policy_changes.proofs.persons.persons_in.Goals as goal

pub returns : goal.returns
returns c =
    let keys = c.args.keys.now in
    let policy = c.args.policy.now in
    both_parts keys c.add_persons.new.names c.add_files.new.names policy
    (c.in_ok-add_persons.ensures ∙ ap (λ (ns : List (List ℕ)). fold with_name ns (holders keys policy.root.persons)) c.new-names.ensures)
    (c.in_ok-add_files.ensures ∙ ap (λ (fs : List RuleFile). fold with_name c.add_persons.new.names (file_holders keys fs)) c.files.ensures.value)
