-- The policy of the last of the epochs is the one that is kept entry by entry.
use Rattle.std.proofs.Common.{◌≡◌, ◌++◌, ℕ, suc, zero, Bool, true, false, cond, List, [], ◌∷◌, Option, Some, None, Result, Ok, Err, is_none, option_and_then, refl, ap, ◌∙◌}
use Rattle.std.proofs.lemmas.List.{append-nil}
use Rattle.policy_epochs.specs.Epochs.{AreEpochs, OneList, kept_by, next_policy, opens, policy_after, policy_in, valid}
use Rattle.policy_epochs.proofs.Numbers.{last_push}
use Rattle.policy_epochs.proofs.OneList.{epochs, meets, only}

module _ {P F : Type 0} (checked : ℕ → Option (Result P F)) (succession : Option P → P → Option F) where
  -- whether entry k takes effect after the policy of these entries
  abbrev pub opens_after : List ℕ → ℕ → Bool
  opens_after list k = opens succession (policy_in checked list) (checked k)

  pub one_list : (n : ℕ) → OneList checked succession n
  one_list n = (epochs opens_after n, (meets opens_after n, λ other is. only opens_after n other is))

  pushed : (xs : List ℕ) (k : ℕ) (b : Bool) → policy_in checked (xs ++ cond b (k ∷ []) []) ≡ cond b (valid (checked k)) (policy_in checked xs)
  pushed xs k true = ap (option_and_then (λ i. valid (checked i))) (last_push xs k)
  pushed xs k false = ap (policy_in checked) (append-nil xs)

  chosen : (current : Option P) (found : Option (Result P F)) → cond (opens succession current found) (valid found) current ≡ next_policy succession current found
  chosen current None = refl
  chosen current (Some (Err fault)) = refl
  chosen current (Some (Ok policy)) = by_fault (succession current policy) where
    by_fault : (fault : Option F) → cond (is_none fault) (Some policy) current ≡ kept_by policy current fault
    by_fault None = refl
    by_fault (Some fault) = refl

  pub kept : (n : ℕ) → policy_in checked (epochs opens_after n) ≡ policy_after checked succession n
  kept zero = refl
  kept (suc n) =
      pushed (epochs opens_after n) (suc n) (opens_after (epochs opens_after n) (suc n))
      ∙ ap (λ current. cond (opens succession current (checked (suc n))) (valid (checked (suc n))) current) (kept n)
      ∙ chosen (policy_after checked succession n) (checked (suc n))

  pub last_policy : (n : ℕ) (list : List ℕ) → AreEpochs checked succession n list → policy_in checked list ≡ policy_after checked succession n
  last_policy n list is = ap (policy_in checked) (only opens_after n list is) ∙ kept n
