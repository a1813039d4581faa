use Rattle.std.proofs.Common.{List, ℕ, ◌++◌, reverse, sym, ap, ◌∙◌}
use Rattle.pushes.proofs.Visiting.{names_nowhere, names_there}
use Rattle.pushes.proofs.walking.follow.Goals as goal

pub returns-in_ok-put_names-in-Some-clause-goes : goal.returns-in_ok-put_names-in-Some-clause-goes
returns-in_ok-put_names-in-Some-clause-goes g c = λ r told.
    let same = names_there r c.args.id.now c.in_ok-object.field-0 c.in-Some.object c.in-Some.is (c.in_ok-object.ensures.found r told) in
    c.in_ok-put_names-in-Some.ensures ∙ ap (λ (names : List (List ℕ)). names ++ reverse c.args.ahead.now.items) same

pub returns-in-None-clause-goes : goal.returns-in-None-clause-goes
returns-in-None-clause-goes g c = λ r told.
    let none = names_nowhere r c.args.id.now c.in_ok-object.field-0 c.in-None.is (c.in_ok-object.ensures.none r told) in
    sym (ap (λ (names : List (List ℕ)). names ++ reverse c.args.ahead.now.items) none)
