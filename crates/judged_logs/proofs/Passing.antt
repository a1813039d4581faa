-- Changes that a gate lets pass are entries without fault, each in a larger repository.
use Rattle.std.proofs.Common.{◌≡◌, ◌++◌, List, subst, [], ◌∷◌, Option, Some, None, refl}
use Rattle.std.specs.List.{AllByRecursion}
use Rattle.git_object.specs.Repository.{Repository}
use Rattle.keeper_api.specs.Changes.{changed}
use Rattle.rsl_chain.specs.Entries.{Taken}
use Rattle.rsl_chain.specs.declared.entries.EntryBody.{EntryBody}
use Rattle.rsl_chain.specs.declared.entries.EntryBody.TheVariants.{Reference, Annotation}
use Rattle.judging.specs.Logs.{body_fault, fault_of}
use Rattle.judging.specs.Rules.{Rules}
use Rattle.judging.specs.Verdicts.{answer_of, body_verdict, verdict_of}
use Rattle.judging.specs.declared.verdicts.EntryVerdict.TheVariants.{Refused}
use Rattle.keeper_api.proofs.Growing.{grows}
use Rattle.judged_logs.specs.Gates.{AreEpochs, AreTaken, HasNoViolation, all_in, repository_after}
use Rattle.judged_logs.specs.Growing.{Lasting}
use Rattle.judged_logs.proofs.Gated.{holds}
use Rattle.judged_logs.specs.Changes.{Added, ArePassed, Nothing, Outcome, added, store_after, taken_by}

module _ {P F : Type 0} (rules : Rules P F) where
  faultless : (log : List Taken) (t : Taken) → ((fault : F) → verdict_of rules log t ≡ Refused fault → ⊥) → fault_of rules log (Some t) ≡ None
  faultless log t not_denied = by_body t.entry.body not_denied where
    by_fault : (x : Option F) → ((fault : F) → answer_of x ≡ Refused fault → ⊥) → x ≡ None
    by_fault None none = refl
    by_fault (Some fault) none = absurd (none fault refl)

    by_body : (body : EntryBody) → ((fault : F) → body_verdict (body_fault rules log t body) body ≡ Refused fault → ⊥) → body_fault rules log t body ≡ None
    by_body (Annotation ids skip message) none = refl
    by_body (Reference name target) none = by_fault (body_fault rules log t (Reference name target)) none

  pub are_taken : (log : List Taken) (r : Repository) (outcomes : List Outcome) → ArePassed rules log r outcomes → AreTaken rules log r (added r outcomes)
  are_taken log r [] all = tt
  are_taken log r (Nothing ∷ more) all = are_taken log r more all
  are_taken log r (Added addition ∷ more) all = (
    record { larger = grows addition.change r all.0.none_clash; lawful = faultless log (taken_by r addition) all.0.not_denied },
    are_taken (log ++ taken_by r addition ∷ []) (changed addition.change r) more all.1,
  )

pub same_store : (r : Repository) (outcomes : List Outcome) → repository_after r (added r outcomes) ≡ store_after r outcomes
same_store r [] = refl
same_store r (Nothing ∷ more) = same_store r more
same_store r (Added addition ∷ more) = same_store (changed addition.change r) more

-- ---- all of them
module _ {P F : Type 0} (rules : Rules P F) (lasting : Lasting rules) where
  pub gate_holds : (loaded : List Taken) (r : Repository) (outcomes : List Outcome) → AllByRecursion (λ t. t.repository ≡ r) loaded
      → HasNoViolation rules loaded → AreEpochs rules loaded → ArePassed rules loaded r outcomes
      → HasNoViolation rules (all_in (store_after r outcomes) (loaded ++ added r outcomes)) × AreEpochs rules (all_in (store_after r outcomes) (loaded ++ added r outcomes))
  gate_holds loaded r outcomes in_one none epochs all =
      let end = holds rules lasting loaded (added r outcomes) r in_one none epochs (are_taken rules loaded r outcomes all) in
      subst (λ (s : Repository). HasNoViolation rules (all_in s (loaded ++ added r outcomes)) × AreEpochs rules (all_in s (loaded ++ added r outcomes)))
      (same_store r outcomes) end
