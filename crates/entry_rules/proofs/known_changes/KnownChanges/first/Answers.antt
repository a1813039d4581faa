use Rattle.std.proofs.Common.{◌≡◌, List, subst, sym, ◌∙◌}
use Rattle.std.specs.List.{AllByRecursion}
use Rattle.rule_files.specs.declared.rules.RuleFile.{RuleFile}
use Rattle.entry_rules.specs.Learning.{IsFirst, IsRow}
use Rattle.entry_rules.proofs.known_changes.KnownChanges.first.Goals as goal

pub returns : goal.returns
returns c = λ trees hold.
    let files = c.args.self.now.files in
    let same : files ≡ c.args.rules.now = sym c.as_slice-2.ensures ∙ c.same_items.ensures.0 c.if-not-same_items.false ∙ c.files.ensures.value in
    subst (λ (fs : List RuleFile). IsFirst trees fs c.args.signers.now c.args.roots.now c.in_ok-found.found.now.first) same
    (c.in_ok-found.ensures trees files (subst (AllByRecursion (IsRow trees files)) (sym c.as_slice.ensures) hold))
