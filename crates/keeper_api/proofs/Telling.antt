-- What is told again where telling goes on.
use Rattle.std.proofs.Common.{◌≡◌, refl, sym, ◌∙◌}
use Rattle.std.specs.Prelude.{IsSome, Option, Some, None}
use Rattle.std.proofs.lemmas.Bool.{false≢true}
use Rattle.octets.specs.Content.{Stays}

pub told_again : {X : Type 0} (before after : Option X) (r : X) → Stays before after → IsSome after → before ≡ Some r → after ≡ Some r
told_again before None r stays some held = absurd (false≢true some)
told_again before (Some now) r stays some held = sym (stays now refl) ∙ held

pub was_some : {X : Type 0} (before : Option X) (r : X) → before ≡ Some r → IsSome before
was_some None r held = let bad : None ≡ Some r = held in cc
was_some (Some now) r held = refl
