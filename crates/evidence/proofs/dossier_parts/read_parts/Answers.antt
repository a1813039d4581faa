use Rattle.std.proofs.Common.{◌++◌, List, ℕ, inl, refl, ap, ◌∙◌}
use Rattle.evidence.proofs.dossier_parts.read_parts.Goals as goal

pub returns-in_default-clause-bad : goal.returns-in_default-clause-bad
returns-in_default-clause-bad c = inl ((λ part more is same. c.in_default.ensures.none more (same ∙ ap (λ (p : List ℕ). p ++ more) is)), refl)
