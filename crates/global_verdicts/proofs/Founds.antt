-- What stands for the global rules behind one entry more.
use Rattle.std.proofs.Common.{◌≡◌, ◌++◌, List, [], ◌∷◌, ap, sym, append_assoc, ◌∙◌}
use Rattle.std.proofs.lemmas.List.{append-nil}
use Rattle.rsl_chain.specs.Entries.{Taken}
use Rattle.judging.specs.Rules.{Rules}
use Rattle.policy_epochs.specs.declared.policies.Policy.{Policy}
use Rattle.entry_rules.specs.declared.faults.Fault.{Fault}
use Rattle.global_rules.specs.declared.found_files.FoundFile.{FoundFile}
use Rattle.global_rules.specs.declared.found_files.FoundFile.TheVariants.{Absent}
use Rattle.global_verdicts.specs.InForce.{found_after, found_behind, next_found}

module _ (rules : Rules Policy Fault) where
  behind_push : (earlier later : List Taken) (found : FoundFile) (t : Taken) → found_behind rules earlier found (later ++ t ∷ []) ≡ next_found rules (earlier ++ later) (found_behind rules earlier found later) t
  behind_push earlier [] found t = ap (λ (xs : List Taken). next_found rules xs found t) (sym (append-nil earlier))
  behind_push earlier (u ∷ later) found t =
      behind_push (earlier ++ u ∷ []) later (next_found rules earlier found u) t
      ∙ ap (λ (xs : List Taken). next_found rules xs (found_behind rules (earlier ++ u ∷ []) (next_found rules earlier found u) later) t) (append_assoc earlier (u ∷ []) later)

  pub found_push : (log : List Taken) (t : Taken) → found_after rules (log ++ t ∷ []) ≡ next_found rules log (found_after rules log) t
  found_push log t = behind_push [] log Absent t
