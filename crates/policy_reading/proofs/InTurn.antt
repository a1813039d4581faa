-- The policy in force, entry by entry.
use Rattle.std.proofs.Common.{◌≡◌, ◌<◌, ◌≤◌, ◌-◌, ◌∙◌, ℕ, suc, zero, List, [], ◌∷◌, length, get_or, take, Option, None, ap, option_and_then, refl, sym, add-one, arith}
use Rattle.std.specs.List.{fold, slice_get}
use Rattle.std.proofs.lemmas.List.{take_all}
use Rattle.std.proofs.lemmas.List.Sums.{fold_more}
use Rattle.std.proofs.lemmas.Option.{slice_get-get_or}
use Rattle.git_object.specs.Repository.{Repository}
use Rattle.rsl_chain.specs.declared.entries.Entry.{Entry}
use Rattle.policy_epochs.specs.Epochs.{next_policy, policy_after}
use Rattle.policy_epochs.specs.Succession.{succession}
use Rattle.policy_epochs.specs.declared.policies.Policy.{Policy}
use Rattle.policy_reading.specs.InForce.{found_in, found_of, in_force, next_in}

module _ (anchor : Option (List (List ℕ))) (r : Repository) where
  found_at : (entries : List Entry) (n : ℕ) (d : Entry) → n < length entries → found_of r entries (suc n) ≡ found_in r (get_or entries n d)
  found_at entries n d below =
      let back : suc n - 1 ≡ n = omega arith in
      ap (λ (k : ℕ). option_and_then (λ (entry : Entry). found_in r entry) (slice_get entries k)) back
      ∙ ap (λ (o : Option Entry). option_and_then (λ (entry : Entry). found_in r entry) o) (slice_get-get_or entries n d below)

  up_to : (e : Entry) (es : List Entry) (n : ℕ) → n ≤ length (e ∷ es) → policy_after (found_of r (e ∷ es)) (succession anchor) n ≡ fold (next_in anchor r) None (take n (e ∷ es))
  up_to e es zero within = refl
  up_to e es (suc n) within =
      let below : n < length (e ∷ es) = omega arith in
      let more = fold_more (next_in anchor r) None (e ∷ es) n e below in
      ap (λ (c : Option Policy). next_policy (succession anchor) c (found_of r (e ∷ es) (suc n))) (up_to e es n (omega arith))
      ∙ ap (next_policy (succession anchor) (fold (next_in anchor r) None (take n (e ∷ es)))) (found_at (e ∷ es) n e below)
      ∙ sym more
      ∙ ap (λ (k : ℕ). fold (next_in anchor r) None (take k (e ∷ es))) (add-one n)

  pub in_turn : (entries : List Entry) → in_force anchor r entries ≡ fold (next_in anchor r) None entries
  in_turn [] = refl
  in_turn (e ∷ es) =
      up_to e es (length (e ∷ es)) (omega arith)
      ∙ ap (λ (xs : List Entry). fold (next_in anchor r) None xs) (take_all (length (e ∷ es)) (e ∷ es) (omega arith))
