-- The policy in force, entry by entry, where each is judged in a repository of its own.
use Rattle.std.proofs.Common.{◌≡◌, ◌<◌, ◌≤◌, ◌+◌, ◌-◌, ◌∙◌, ℕ, suc, zero, List, [], ◌∷◌, length, get_or, take, Option, None, ap, option_and_then, refl, sym, add-one, arith}
use Rattle.std.specs.List.{fold, slice_get}
use Rattle.std.proofs.lemmas.List.Sums.{fold_more}
use Rattle.std.proofs.lemmas.Option.{slice_get-get_or}
use Rattle.rsl_chain.specs.Entries.{Taken}
use Rattle.judging.specs.Logs as judged
use Rattle.policy_epochs.specs.Epochs.{below, next_policy, policy_after, policy_in}
use Rattle.policy_epochs.specs.Succession.{succession}
use Rattle.policy_epochs.specs.declared.policies.Policy.{Policy}
use Rattle.policy_epochs.proofs.LastPolicy.{kept, one_list, opens_after}
use Rattle.policy_epochs.proofs.OneList.{agrees}
use Rattle.entry_rules.specs.RealRules.{real_rules}
use Rattle.policy_reading.specs.InForce.{found_in}
use Rattle.verify_ref.specs.OneList.{AreEpochsOf, found_each}
use Rattle.verify_ref.proofs.Agreeing.{one_more}

module _ (anchor : Option (List (List ℕ))) where
  found_at : (log : List Taken) (n : ℕ) (d : Taken) → n < length log → found_each log (suc n) ≡ found_in (get_or log n d).repository (get_or log n d).entry
  found_at log n d less =
      let back : suc n - 1 ≡ n = omega arith in
      ap (λ (k : ℕ). option_and_then (λ (t : Taken). found_in t.repository t.entry) (slice_get log k)) back
      ∙ ap (λ (o : Option Taken). option_and_then (λ (t : Taken). found_in t.repository t.entry) o) (slice_get-get_or log n d less)

  one_taken : (current : Option Policy) (t : Taken) → judged.next_policy (real_rules anchor) current t ≡ next_policy (succession anchor) current (found_in t.repository t.entry)
  one_taken current t = one_more anchor t.repository current t.entry

  up_to : (e : Taken) (es : List Taken) (n : ℕ) → n ≤ length (e ∷ es)
      → policy_after (found_each (e ∷ es)) (succession anchor) n ≡ fold (judged.next_policy (real_rules anchor)) None (take n (e ∷ es))
  up_to e es zero within = refl
  up_to e es (suc n) within =
      let less : n < length (e ∷ es) = omega arith in
      let was = fold (judged.next_policy (real_rules anchor)) None (take n (e ∷ es)) in
      ap (λ (c : Option Policy). next_policy (succession anchor) c (found_each (e ∷ es) (suc n))) (up_to e es n (omega arith))
      ∙ ap (next_policy (succession anchor) was) (found_at (e ∷ es) n e less)
      ∙ sym (one_taken was (get_or (e ∷ es) n e))
      ∙ sym (fold_more (judged.next_policy (real_rules anchor)) None (e ∷ es) n e less)
      ∙ ap (λ (k : ℕ). fold (judged.next_policy (real_rules anchor)) None (take k (e ∷ es))) (add-one n)

  up_to_each : (log : List Taken) (n : ℕ) → n ≤ length log → policy_after (found_each log) (succession anchor) n ≡ judged.policy_after (real_rules anchor) (take n log)
  up_to_each [] zero within = refl
  up_to_each [] (suc n) within = absurd (omega arith)
  up_to_each (e ∷ es) n within = up_to e es n within

  pub one_of_epochs : (log : List Taken) → (list : List ℕ) × (AreEpochsOf anchor log list × ((other : List ℕ) → AreEpochsOf anchor log other → other ≡ list))
  one_of_epochs log = one_list (found_each log) (succession anchor) (length log)

  pub in_each : (log : List Taken) (list : List ℕ) → AreEpochsOf anchor log list → (i : ℕ) → 1 ≤ i → i ≤ length log + 1
      → judged.policy_after (real_rules anchor) (judged.before log i) ≡ policy_in (found_each log) (below i list)
  in_each log list are zero some within = absurd (omega (arith, some))
  in_each log list are (suc n) some within =
      let few : n ≤ length log = omega (arith, within) in
      let back : suc n - 1 ≡ n = omega arith in
      ap (λ (k : ℕ). judged.policy_after (real_rules anchor) (take k log)) back
      ∙ sym (up_to_each log n few)
      ∙ sym (kept (found_each log) (succession anchor) n)
      ∙ ap (policy_in (found_each log)) (sym (agrees (opens_after (found_each log) (succession anchor)) (length log) n list are few))
