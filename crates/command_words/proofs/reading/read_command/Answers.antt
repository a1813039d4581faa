use Rattle.std.proofs.lemmas.Result.{IfOk-weaker}
use Rattle.command_words.proofs.OneCommand.{found, none_after, none_named, within_after}
use Rattle.command_words.proofs.reading.read_command.Goals as goal

pub returns-in_default-named-clause-outside : goal.returns-in_default-named-clause-outside
returns-in_default-named-clause-outside c =
    λ _. none_named _ _ _ c.in-Some.ensures.found c.in_default-named.ensures.none

pub returns-clause-found : goal.returns-clause-found
returns-clause-found c =
    IfOk-weaker c.read_rest.result _ _ (found _ _ _ _ c.in-Some.ensures.found c.in-Some-named.ensures.found) c.read_rest.ensures.found

pub returns-clause-outside : goal.returns-clause-outside
returns-clause-outside c =
    λ is_outside. none_after _ _ _ _ c.in-Some.ensures.found c.in-Some-named.ensures.found (c.read_rest.ensures.outside is_outside)

pub returns-clause-within : goal.returns-clause-within
returns-clause-within c =
    IfOk-weaker c.read_rest.result _ _ (within_after _ _) c.read_rest.ensures.found
