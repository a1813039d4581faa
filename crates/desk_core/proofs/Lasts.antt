-- The rules of entries last.
use Rattle.std.proofs.Common.{◌≡◌, ℕ, List, Option, Some, None, Result, Ok, Err, refl, ap, ◌∙◌}
use Rattle.git_object.specs.Repository.{Repository}
use Rattle.rsl_chain.specs.Entries.{target_of}
use Rattle.tree_paths.specs.Repositories.{readings_of}
use Rattle.tree_paths.specs.States.{Ended, Faulty, Gone, Sound, is_sound, walk_of}
use Rattle.policy_epochs.specs.declared.faults.PolicyFault.{PolicyFault}
use Rattle.policy_epochs.specs.declared.policies.Policy.{Policy}
use Rattle.policy_reading.specs.Policies.{policy_of}
use Rattle.entry_rules.specs.RealRules.{epoch_by, real_rules}
use Rattle.entry_rules.specs.Signing.{tree_in}
use Rattle.entry_rules.specs.declared.faults.Fault.TheVariants.{NotEpoch}
use Rattle.keeper_api.specs.Growing.{Keeps, Larger}
use Rattle.tree_paths.proofs.GrowingPeels.{walk_same}
use Rattle.tree_paths.proofs.GrowingReadings.{more_read}
use Rattle.judged_logs.specs.Growing.{Lasting}
use Rattle.desk_core.proofs.Faultless.{fault_kept}
use Rattle.desk_core.proofs.Kept.{KeepsOk}
use Rattle.desk_core.proofs.Policies.{policy_kept}

epoch_kept : (anchor : Option (List (List ℕ))) (current : Option Policy) (few more : Result Policy PolicyFault) → KeepsOk few more → KeepsOk (epoch_by anchor current few) (epoch_by anchor current more)
epoch_kept anchor current (Ok policy) more keeps p e = ap (epoch_by anchor current) (keeps policy refl) ∙ e
epoch_kept anchor current (Err why) more keeps p e = let bad : Err (NotEpoch why) ≡ Ok p = e in cc

tree_kept : (small large : Repository) → Larger small large → (target : List ℕ) → Keeps (tree_in (walk_of (readings_of small) target)) (tree_in (walk_of (readings_of large) target))
tree_kept small large grown target tree e = by_walk (walk_of (readings_of small) target) refl e where
  by_walk : (w : Ended) → walk_of (readings_of small) target ≡ w → tree_in w ≡ Some tree → tree_in (walk_of (readings_of large) target) ≡ Some tree
  by_walk (Faulty id) is e = let bad : None ≡ Some tree = e in cc
  by_walk Gone is e = ap tree_in (walk_same (readings_of small) (readings_of large) (more_read small large grown) target (ap is_sound is) ∙ is) ∙ e
  by_walk (Sound root ss c) is e = ap tree_in (walk_same (readings_of small) (readings_of large) (more_read small large grown) target (ap is_sound is) ∙ is) ∙ e

pub last : (anchor : Option (List (List ℕ))) → Lasting (real_rules anchor)
last anchor = record {
  epoch = λ r s current entry policy grown e. epoch_kept anchor current (policy_of r (target_of entry.body)) (policy_of s (target_of entry.body)) (policy_kept r s grown (target_of entry.body)) policy e;
  fault = λ r s policy entry from attested grown none. fault_kept r s grown policy entry from attested none;
  tree = λ r s target tree grown e. tree_kept r s grown target tree e;
}
