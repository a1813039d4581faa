-- What an entry makes of the policy in force is the same for the engine of judging and for the epochs of a log.
use Rattle.std.proofs.Common.{◌≡◌, ◌∙◌, ℕ, Bool, true, false, cond, List, [], ◌∷◌, Option, Some, None, Result, Ok, Err, map, refl, ap, sym}
use Rattle.std.specs.List.{fold}
use Rattle.git_object.specs.Repository.{Repository}
use Rattle.rsl_chain.specs.Entries.{Taken, is_of, target_of}
use Rattle.git_object.specs.References.{policy_name}
use Rattle.rsl_chain.specs.declared.entries.Entry.{Entry}
use Rattle.judging.specs.Logs as judged
use Rattle.policy_epochs.specs.Epochs as epochs
use Rattle.policy_epochs.specs.Succession.{succession}
use Rattle.policy_epochs.specs.declared.faults.PolicyFault.{PolicyFault}
use Rattle.policy_epochs.specs.declared.policies.Policy.{Policy}
use Rattle.policy_reading.specs.Policies.{policy_of}
use Rattle.entry_rules.specs.RealRules.{epoch_by, opens, real_rules}
use Rattle.policy_reading.specs.InForce.{in_force, next_in}
use Rattle.policy_reading.proofs.InTurn.{in_turn}

module _ (anchor : Option (List (List ℕ))) (r : Repository) where
  kept : (policy : Policy) (current : Option Policy) (fault : Option PolicyFault) → judged.opened (real_rules anchor) current (opens policy fault) ≡ epochs.kept_by policy current fault
  kept policy current None = refl
  kept policy current (Some fault) = refl

  found : (current : Option Policy) (what : Result Policy PolicyFault) → judged.opened (real_rules anchor) current (epoch_by anchor current what) ≡ epochs.next_policy (succession anchor) current (Some what)
  found current (Ok policy) = kept policy current (succession anchor current policy)
  found current (Err fault) = refl

  by_kind : (b : Bool) (current : Option Policy) (what : Result Policy PolicyFault)
      → cond b (judged.opened (real_rules anchor) current (epoch_by anchor current what)) current ≡ epochs.next_policy (succession anchor) current (cond b (Some what) None)
  by_kind true current what = found current what
  by_kind false current what = refl

  abbrev taken : Entry → Taken
  taken entry = record { entry = entry; repository = r }

  pub one_more : (current : Option Policy) (entry : Entry) → judged.next_policy (real_rules anchor) current (taken entry) ≡ next_in anchor r current entry
  one_more current entry = by_kind (is_of entry.body policy_name) current (policy_of r (target_of entry.body))

  in_both : (current : Option Policy) (entries : List Entry) → fold (judged.next_policy (real_rules anchor)) current (map taken entries) ≡ fold (next_in anchor r) current entries
  in_both current [] = refl
  in_both current (entry ∷ entries) =
      ap (λ (now : Option Policy). fold (judged.next_policy (real_rules anchor)) now (map taken entries)) (one_more current entry) ∙ in_both (next_in anchor r current entry) entries

  pub agree : (entries : List Entry) → judged.policy_after (real_rules anchor) (map (λ (entry : Entry). record { entry = entry; repository = r }) entries) ≡ in_force anchor r entries
  agree entries = in_both None entries ∙ sym (in_turn anchor r entries)
