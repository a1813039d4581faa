use Rattle.std.proofs.Common.{◌≡◌, ◌∙◌, ◌++◌, ◌∷◌, [], List, subst, sym}
use Rattle.std.specs.Prelude.{All, IsUtf8}
use Rattle.std.proofs.lemmas.List.Elements.{All-nil}
use Rattle.root_metadata.specs.declared.persons.Person.{Person}
use Rattle.rule_files.specs.declared.rules.Rule.{Rule}
use Rattle.metadata_writing.specs.Texts.{HasRuleTexts, IsNamed}
use Rattle.demo.proofs.RuleTexts.{both, top_named}
use Rattle.demo.proofs.rules.demo_top.Goals as goal

pub returns-clause-texts : goal.returns-clause-texts
returns-clause-texts c =
    let rules : c.push-2.new.self ≡ c.in_ok-keys_rule.field-0 ∷ c.in_ok-main_rule.field-0 ∷ [] =
    c.in_ok-push-2.ensures.added
    ∙ (λ j. ((c.in_ok-push.ensures.added ∙ (λ k. (c.new-rules.ensures k) ++ c.in_ok-keys_rule.field-0 ∷ [])) j) ++ c.in_ok-main_rule.field-0 ∷ []) in
    record {
      name = subst IsUtf8 (sym c.in_ok-name.ensures) top_named;
      persons = subst (λ (persons : List Person). All IsNamed persons) (sym c.new.ensures) (All-nil IsNamed);
      rules = subst (λ (rules : List Rule). All HasRuleTexts rules) (sym rules) (both c.in_ok-keys_rule.field-0 c.in_ok-main_rule.field-0 c.in_ok-keys_rule.ensures.texts c.in_ok-main_rule.ensures.texts);
    }
