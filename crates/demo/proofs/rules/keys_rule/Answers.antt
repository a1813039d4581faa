use Rattle.std.proofs.Common.{◌≡◌, ◌∙◌, ◌∷◌, [], ap, refl, sym, subst, true, codes, List, ℕ}
use Rattle.ref_patterns.specs.declared.space.Space.TheVariants as space
use Rattle.metadata_writing.specs.Texts.{HasRuleTexts}
use Rattle.demo.specs.Keys.{key_id}
use Rattle.demo.specs.Policies.{person_of}
use Rattle.demo.proofs.RuleTexts.{keys_texts}
use Rattle.demo.proofs.rules.keys_rule.Goals as goal

pub returns-clause-rule : goal.returns-clause-rule
returns-clause-rule c =
    let patterns : c.in_ok-patterns.patterns ≡ record { space = space.File; glob = codes "keys/*" } ∷ [] = c.in_ok-patterns.ensures (record { space = space.File; glob = codes "keys/*" }) refl in
    let persons : c.in_ok-persons.persons ≡ person_of (key_id 1) ∷ [] = c.in_ok-persons.ensures.persons ∙ ap (λ (i : List ℕ). person_of i ∷ []) c.id_of.ensures in
    λ j. record { name = c.in_ok-name.ensures j; patterns = patterns j; terminating = true; persons = persons j; threshold = 1 }

pub returns-clause-texts : goal.returns-clause-texts
returns-clause-texts c =
    let patterns : c.in_ok-patterns.patterns ≡ record { space = space.File; glob = codes "keys/*" } ∷ [] = c.in_ok-patterns.ensures (record { space = space.File; glob = codes "keys/*" }) refl in
    let same : record { name = c.in_ok-name.name; patterns = c.in_ok-patterns.patterns; terminating = true; persons = c.in_ok-persons.persons; threshold = 1 }
    ≡ record { name = codes "keys"; patterns = record { space = space.File; glob = codes "keys/*" } ∷ []; terminating = true; persons = c.in_ok-persons.persons; threshold = 1 } =
    λ j. record { name = c.in_ok-name.ensures j; patterns = patterns j; terminating = true; persons = c.in_ok-persons.persons; threshold = 1 } in
    subst HasRuleTexts (sym same) (keys_texts c.in_ok-persons.persons c.in_ok-persons.ensures.named)
