use Rattle.std.proofs.Common.{◌≡◌, ◌∙◌, ◌∷◌, [], refl, sym, subst, false, codes, map}
use Rattle.ref_patterns.specs.declared.space.Space.TheVariants as space
use Rattle.root_metadata.specs.Shapes.{set_of}
use Rattle.metadata_writing.specs.Texts.{HasRuleTexts}
use Rattle.demo.specs.Keys.{key_id}
use Rattle.demo.specs.Policies.{person_of}
use Rattle.demo.proofs.RuleTexts.{main_texts}
use Rattle.demo.proofs.rules.main_rule.Goals as goal

pub returns-clause-rule : goal.returns-clause-rule
returns-clause-rule c =
    let patterns : c.in_ok-patterns.patterns ≡ record { space = space.Git; glob = codes "refs/heads/main" } ∷ [] = c.in_ok-patterns.ensures (record { space = space.Git; glob = codes "refs/heads/main" }) refl in
    let persons : c.in_ok-persons.persons ≡ map person_of (set_of (key_id 0 ∷ key_id 1 ∷ key_id 2 ∷ [])) =
    c.in_ok-persons.ensures.persons ∙ (λ j. map person_of (set_of (c.id_of.ensures j ∷ c.id_of-2.ensures j ∷ c.id_of-3.ensures j ∷ []))) in
    λ j. record { name = c.in_ok-name.ensures j; patterns = patterns j; terminating = false; persons = persons j; threshold = 1 }

pub returns-clause-texts : goal.returns-clause-texts
returns-clause-texts c =
    let patterns : c.in_ok-patterns.patterns ≡ record { space = space.Git; glob = codes "refs/heads/main" } ∷ [] = c.in_ok-patterns.ensures (record { space = space.Git; glob = codes "refs/heads/main" }) refl in
    let same : record { name = c.in_ok-name.name; patterns = c.in_ok-patterns.patterns; terminating = false; persons = c.in_ok-persons.persons; threshold = 1 }
    ≡ record { name = codes "main"; patterns = record { space = space.Git; glob = codes "refs/heads/main" } ∷ []; terminating = false; persons = c.in_ok-persons.persons; threshold = 1 } =
    λ j. record { name = c.in_ok-name.ensures j; patterns = patterns j; terminating = false; persons = c.in_ok-persons.persons; threshold = 1 } in
    subst HasRuleTexts (sym same) (main_texts c.in_ok-persons.persons c.in_ok-persons.ensures.named)
