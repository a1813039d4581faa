-- What is found of a change, by what its states differ in.
use Rattle.std.proofs.Common.{◌≡◌, ◌&&◌, ◌++◌, ℕ, Bool, true, false, List, [], Option, Some, refl, ap, sym, subst, ◌∙◌, inl, inr}
use Rattle.std.proofs.lemmas.Bool.{true≢false}
use Rattle.git_object.specs.Repository.{Repository}
use Rattle.tree_paths.specs.Changes.{IsChange, IsComparison}
use Rattle.tree_paths.specs.Repositories.{readings_of}
use Rattle.tree_paths.specs.States.{Ended, Faulty, is_sound, walk_of}
use Rattle.tree_paths.specs.declared.states.Comparison.TheVariants as comparison
use Rattle.policy_epochs.specs.declared.policies.Policy.{Policy}
use Rattle.entry_rules.specs.Signing.{tree_in}
use Rattle.entry_rules.specs.declared.faults.Fault.{Fault}
use Rattle.entry_rules.specs.declared.faults.Fault.TheVariants.{Broken}
use Rattle.entry_rules.proofs.Comparing.{broken_fault, sound_tree}
use Rattle.would_be.specs.Would as would
use Rattle.would_be.specs.Would.{all_told, one, signers_to, would_signers}
use Rattle.would_be.specs.declared.proposals.Proposed.{Proposed}
use Rattle.would_be.specs.declared.proposals.Stood.{Stood}
use Rattle.would_be.specs.declared.proposals.Would.{Would}

not_both : (s t : Ended) (id : List ℕ) → IsComparison s t (comparison.Broken id) → (is_sound s && is_sound t) ≡ false
not_both s t id is = elim is [
  | inl from ↦ ap (λ (e : Ended). is_sound e && is_sound t) from
  | inr to ↦ ap (λ b. b && is_sound t) to.0 ∙ ap is_sound to.1
]

module _ (r : Repository) (policy : Policy) (stood : Stood) (p : Proposed) (found : Would) where
  pub broken_is : (id : List ℕ) → IsComparison (walk_of (readings_of r) stood.from) (walk_of (readings_of r) p.target) (comparison.Broken id)
      → found ≡ record { faults = one (Some (Broken id)); signers = [] } → would.IsChange r policy stood p found
  broken_is id is made =
      let s = walk_of (readings_of r) stood.from in
      let t = walk_of (readings_of r) p.target in
      record {
        broken = λ _. made ∙ ap (λ (o : Option Fault). record { faults = one o; signers = [] }) (sym (broken_fault policy.rules p.name (would_signers r policy stood p) s t id is));
        signers = λ sound. absurd (true≢false (sym sound ∙ not_both s t id is));
        all = λ sound. absurd (true≢false (sym sound ∙ not_both s t id is));
      }

  pub changed_is : (from to : List ℕ) (paths : List (List ℕ)) → IsChange (walk_of (readings_of r) stood.from) (walk_of (readings_of r) p.target) from to paths
      → found.signers ≡ signers_to r policy stood p (Some to) → found.faults ≡ all_told policy.rules p.name found.signers paths → would.IsChange r policy stood p found
  changed_is from to paths change signed told =
      let s = walk_of (readings_of r) stood.from in
      let t = walk_of (readings_of r) p.target in
      let sound : (is_sound s && is_sound t) ≡ true = ap (λ b. b && is_sound t) change.from_sound ∙ change.to_sound in
      let who : found.signers ≡ would_signers r policy stood p = signed ∙ ap (signers_to r policy stood p) (sym (sound_tree t to change.to_sound change.to_is)) in
      record {
        broken = λ broken. absurd (true≢false (sym sound ∙ broken));
        signers = λ _. who;
        all = λ _. record { paths = paths; changed = change.changed; told = told ∙ ap (λ (ids : List (List ℕ)). all_told policy.rules p.name ids paths) who };
      }
