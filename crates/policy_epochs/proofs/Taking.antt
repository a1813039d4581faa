-- What the next entry makes of the policy in force, where those between are not for the policy.
use Rattle.std.proofs.Common.{◌≡◌, ◌<◌, ◌≤◌, ℕ, suc, zero, nat_lt, Bool, true, false, List, Option, Some, None, Result, refl, ap, sym, ◌∙◌, arith}
use Rattle.std.proofs.lemmas.Bool.{ltb-false, ltb-true}
use Rattle.policy_epochs.specs.Epochs.{AreEpochs, below, next_policy, policy_after, policy_in}
use Rattle.policy_epochs.proofs.OneList.{agrees}
use Rattle.policy_epochs.proofs.LastPolicy.{kept, opens_after}

module _ {P F : Type 0} (checked : ℕ → Option (Result P F)) (succession : Option P → P → Option F) where
  -- after more entries that are not for the policy it is as it was
  stays : (n m : ℕ) → n ≤ m → ((k : ℕ) → n < k → k ≤ m → checked k ≡ None) → policy_after checked succession m ≡ policy_after checked succession n
  stays n zero h none = let e : n ≡ 0 = omega arith in ap (policy_after checked succession) (sym e)
  stays n (suc m) h none = by_test (λ le. stays n m le (λ k a b. none k a (omega arith))) (nat_lt m n) refl where
    by_test : (n ≤ m → policy_after checked succession m ≡ policy_after checked succession n) → (v : Bool) → nat_lt m n ≡ v → policy_after checked succession (suc m) ≡ policy_after checked succession n
    by_test more true is = let lt = ltb-true m n is in let e : suc m ≡ n = omega arith in ap (policy_after checked succession) e
    by_test more false is =
        let le = ltb-false m n is in
        ap (next_policy succession (policy_after checked succession m)) (none (suc m) (omega arith) (omega arith)) ∙ more le

  pub taken : (n number : ℕ) (found : Result P F) (current : Option P) → n < number → ((k : ℕ) → n < k → k < number → checked k ≡ None) → checked number ≡ Some found → current ≡ policy_after checked succession n → next_policy succession current (Some found) ≡ policy_after checked succession number
  taken n zero found current lt between there stands = absurd (omega arith)
  taken n (suc m) found current lt between there stands =
      ap (λ c. next_policy succession c (Some found)) (stands ∙ sym (stays n m (omega arith) (λ k a b. between k a (omega arith))))
      ∙ ap (next_policy succession (policy_after checked succession m)) (sym there)

  pub in_force_below : (n number : ℕ) (list : List ℕ) → n < number → ((k : ℕ) → n < k → k < number → checked k ≡ None) → AreEpochs checked succession number list → policy_in checked (below number list) ≡ policy_after checked succession n
  in_force_below n zero list lt between are = absurd (omega arith)
  in_force_below n (suc m) list lt between are =
      ap (policy_in checked) (agrees (opens_after checked succession) (suc m) m list are (omega arith))
      ∙ kept checked succession m
      ∙ stays n m (omega arith) (λ k a b. between k a (omega arith))
