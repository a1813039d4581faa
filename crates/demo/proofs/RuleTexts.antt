-- The names and the patterns of the rules are UTF-8.
use Rattle.std.proofs.Common.{List, [], ◌∷◌, true, false, codes, refl}
use Rattle.std.specs.Prelude.{All, IsUtf8}
use Rattle.std.proofs.Math.Utf8.{encode}
use Rattle.std.proofs.lemmas.List.Elements.{All-cons, All-nil}
use Rattle.ref_patterns.specs.Patterns.{Parts}
use Rattle.ref_patterns.specs.declared.space.Space.TheVariants as space
use Rattle.root_metadata.specs.declared.persons.Person.{Person}
use Rattle.rule_files.specs.declared.rules.Rule.{Rule}
use Rattle.metadata_writing.specs.Texts.{HasRuleTexts, HasText, IsNamed}

one : (P : Parts → Type 0) (x : Parts) → P x → All P (x ∷ [])
one P x here = All-cons P x [] here (All-nil P)

pub keys_texts : (persons : List Person) → All IsNamed persons
    → HasRuleTexts (record { name = codes "keys"; patterns = record { space = space.File; glob = codes "keys/*" } ∷ []; terminating = true; persons = persons; threshold = 1 })
unfolding encode
keys_texts persons named = record {
  name = (codes "keys", (refl, refl));
  patterns = one HasText (record { space = space.File; glob = codes "keys/*" }) (codes "file:keys/*", (refl, refl));
  persons = named;
}

pub main_texts : (persons : List Person) → All IsNamed persons
    → HasRuleTexts (record { name = codes "main"; patterns = record { space = space.Git; glob = codes "refs/heads/main" } ∷ []; terminating = false; persons = persons; threshold = 1 })
unfolding encode
main_texts persons named = record {
  name = (codes "main", (refl, refl));
  patterns = one HasText (record { space = space.Git; glob = codes "refs/heads/main" }) (codes "git:refs/heads/main", (refl, refl));
  persons = named;
}

pub top_named : IsUtf8 (codes "targets")
unfolding encode
top_named = (codes "targets", (refl, refl))

pub both : (a b : Rule) → HasRuleTexts a → HasRuleTexts b → All HasRuleTexts (a ∷ b ∷ [])
both a b first second = All-cons HasRuleTexts a (b ∷ []) first (All-cons HasRuleTexts b [] second (All-nil HasRuleTexts))
