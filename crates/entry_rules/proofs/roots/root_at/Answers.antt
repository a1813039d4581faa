use Rattle.std.proofs.Common.{ap, sym, ◌∙◌}
use Rattle.policy_reading.proofs.Told.{told_readings}
use Rattle.tree_paths.specs.Repositories.{readings_of}
use Rattle.tree_paths.specs.States.{ended, is_sound}
use Rattle.entry_rules.proofs.roots.root_at.Goals as goal

pub returns-in-Bad-clause-bad : goal.returns-in-Bad-clause-bad
returns-in-Bad-clause-bad g c = λ none r told.
    ap (λ p. is_sound (ended (readings_of r).trees p)) (sym (c.in_ok-root_of.ensures.root (readings_of r) (told_readings r _ told)) ∙ c.in-Bad.is)

pub returns-in-Nothing-clause-root : goal.returns-in-Nothing-clause-root
returns-in-Nothing-clause-root g c = λ r told.
    ap (ended (readings_of r).trees) (sym (c.in_ok-root_of.ensures.root (readings_of r) (told_readings r _ told)) ∙ c.in-Nothing.is)

pub returns-in-At-clause-root : goal.returns-in-At-clause-root
returns-in-At-clause-root g c = λ r told.
    ap (ended (readings_of r).trees) (sym (c.in_ok-root_of.ensures.root (readings_of r) (told_readings r _ told)) ∙ c.in-At.is)
