-- One more entry behind a log is an epoch exactly where nothing keeps it from being one.
use Rattle.std.proofs.Common.{◌≡◌, ◌↔◌, ◌<◌, ◌≤◌, ◌+◌, ◌-◌, ◌++◌, ◌∙◌, ℕ, suc, zero, Bool, true, false, cond, List, [], ◌∷◌, length, Option, Some, None, Result, add-one, ap, inl, inr, is_none, option_and_then, refl, subst, sym, arith}
use Rattle.std.specs.Prelude.{if◌then◌else◌}
use Rattle.std.specs.List.{Contains, slice_get}
use Rattle.git_object.specs.Repository.{Repository}
use Rattle.rsl_chain.specs.Entries.{is_of, target_of}
use Rattle.git_object.specs.References.{policy_name}
use Rattle.rsl_chain.specs.declared.entries.Entry.{Entry}
use Rattle.policy_epochs.proofs.LastPolicy.{kept, opens_after}
use Rattle.policy_epochs.proofs.Members.{In, from_contains, to_contains}
use Rattle.policy_epochs.proofs.Numbers.{from_filter, in_append, in_numbers}
use Rattle.policy_epochs.proofs.OneList.{epochs, meets, only, test}
use Rattle.policy_epochs.specs.Epochs.{AreEpochs, fault_under, next_policy, numbers, opens, policy_after}
use Rattle.policy_epochs.specs.Succession.{succession}
use Rattle.policy_epochs.specs.declared.policies.Policy.{Policy}
use Rattle.policy_reading.specs.Policies.{policy_of}
use Rattle.policy_reading.specs.InForce.{epoch_fault, found_in, found_of, in_force}

in_right : (xs ys : List ℕ) (x : ℕ) → In ys x → In (xs ++ ys) x
in_right [] ys x there = there
in_right (z ∷ xs) ys x there = inr (in_right xs ys x there)

module _ {P F : Type 0} (checked : ℕ → Option (Result P F)) (s : Option P → P → Option F) (m : ℕ) where
  -- no epoch up to m is above it
  low : (x : ℕ) → In (epochs (opens_after checked s) m) x → x ≤ m
  low x there =
      let here = from_filter (test (opens_after checked s) (epochs (opens_after checked s) m)) (numbers m) x (subst (λ (xs : List ℕ). In xs x) (meets (opens_after checked s) m) there) in
      let bounds = in_numbers m x here.0 in
      bounds.1

  split : (b : Bool) → In (epochs (opens_after checked s) m ++ cond b (suc m ∷ []) []) (suc m) → b ≡ true
  split true there = refl
  split false there = elim (in_append (epochs (opens_after checked s) m) [] (suc m) there) [
    | inl front ↦ (let le = low (suc m) front in absurd (omega arith))
    | inr none ↦ absurd none
  ]

  -- the number after m is among the epochs exactly where its entry takes effect
  pub is_member : (list : List ℕ) → AreEpochs checked s (suc m) list → Contains list (suc m) ↔ (opens s (policy_after checked s m) (checked (suc m)) ≡ true)
  is_member list are =
      let whole : list ≡ epochs (opens_after checked s) (suc m) = only (opens_after checked s) (suc m) list are in
      let same : opens_after checked s (epochs (opens_after checked s) m) (suc m) ≡ opens s (policy_after checked s m) (checked (suc m)) = ap (λ (c : Option P). opens s c (checked (suc m))) (kept checked s m) in (
        λ there. sym same ∙ split (opens_after checked s (epochs (opens_after checked s) m) (suc m)) (subst (λ (xs : List ℕ). In xs (suc m)) whole (from_contains list (suc m) there)),
        λ passes.
            to_contains list (suc m) (subst (λ (xs : List ℕ). In xs (suc m)) (sym whole)
            (subst (λ (b : Bool). In (epochs (opens_after checked s) m ++ cond b (suc m ∷ []) []) (suc m)) (sym (same ∙ passes))
            (in_right (epochs (opens_after checked s) m) (suc m ∷ []) (suc m) (inl refl)))),
      )

-- what is found up to m decides the policy after m
same_below : {P F : Type 0} (f g : ℕ → Option (Result P F)) (s : Option P → P → Option F) (n : ℕ) → ((k : ℕ) → k < n → f (suc k) ≡ g (suc k)) → policy_after f s n ≡ policy_after g s n
same_below f g s zero same = refl
same_below f g s (suc n) same =
    ap (λ c. next_policy s c (f (suc n))) (same_below f g s n (λ k below. same k (omega arith))) ∙ ap (next_policy s (policy_after g s n)) (same n (omega arith))

front_of : (xs ys : List Entry) (i : ℕ) → i < length xs → slice_get (xs ++ ys) i ≡ slice_get xs i
front_of [] ys i below = absurd (omega arith)
front_of (x ∷ xs) ys zero below = refl
front_of (x ∷ xs) ys (suc i) below = front_of xs ys i (omega arith)

last_of : (xs : List Entry) (x : Entry) → slice_get (xs ++ x ∷ []) (length xs) ≡ Some x
last_of [] x = refl
last_of (y ∷ xs) x = last_of xs x

none_is : {F : Type 0} (fault : Option F) → (is_none fault ≡ true) ↔ (fault ≡ None)
none_is None = (λ is. refl, λ is. refl)
none_is (Some f) = (λ is. cc is, λ is. cc is)

module _ (anchor : Option (List (List ℕ))) (r : Repository) (entries : List Entry) (entry : Entry) where
  found_at : (i : ℕ) → found_of r (entries ++ entry ∷ []) (suc i) ≡ option_and_then (λ (e : Entry). found_in r e) (slice_get (entries ++ entry ∷ []) i)
  found_at i =
      let back : suc i - 1 ≡ i = omega arith in
      ap (λ (k : ℕ). option_and_then (λ (e : Entry). found_in r e) (slice_get (entries ++ entry ∷ []) k)) back

  found_before : (i : ℕ) → found_of r entries (suc i) ≡ option_and_then (λ (e : Entry). found_in r e) (slice_get entries i)
  found_before i =
      let back : suc i - 1 ≡ i = omega arith in
      ap (λ (k : ℕ). option_and_then (λ (e : Entry). found_in r e) (slice_get entries k)) back

  before : policy_after (found_of r (entries ++ entry ∷ [])) (succession anchor) (length entries) ≡ in_force anchor r entries
  before =
      same_below (found_of r (entries ++ entry ∷ [])) (found_of r entries) (succession anchor) (length entries)
      (λ i below. found_at i ∙ ap (option_and_then (λ (e : Entry). found_in r e)) (front_of entries (entry ∷ []) i below) ∙ sym (found_before i))

  last_found : is_of entry.body policy_name ≡ true → found_of r (entries ++ entry ∷ []) (suc (length entries)) ≡ Some (policy_of r (target_of entry.body))
  last_found named =
      found_at (length entries) ∙ ap (option_and_then (λ (e : Entry). found_in r e)) (last_of entries entry)
      ∙ ap (λ (b : Bool). if b then Some (policy_of r (target_of entry.body)) else None) named

  takes_effect : is_of entry.body policy_name ≡ true
      → opens (succession anchor) (policy_after (found_of r (entries ++ entry ∷ [])) (succession anchor) (length entries)) (found_of r (entries ++ entry ∷ []) (suc (length entries)))
      ≡ is_none (epoch_fault anchor r entries (target_of entry.body))
  takes_effect named =
      ap (opens (succession anchor) (policy_after (found_of r (entries ++ entry ∷ [])) (succession anchor) (length entries))) (last_found named)
      ∙ ap (λ (c : Option Policy). is_none (fault_under (succession anchor) c (policy_of r (target_of entry.body)))) before

  pub joins : (list : List ℕ) → is_of entry.body policy_name ≡ true → AreEpochs (found_of r (entries ++ entry ∷ [])) (succession anchor) (length entries + 1) list
      → Contains list (length entries + 1) ↔ (epoch_fault anchor r entries (target_of entry.body) ≡ None)
  joins list named are =
      let number : length entries + 1 ≡ suc (length entries) = add-one (length entries) in
      let member = is_member (found_of r (entries ++ entry ∷ [])) (succession anchor) (length entries) list (subst (λ (n : ℕ). AreEpochs (found_of r (entries ++ entry ∷ [])) (succession anchor) n list) number are) in
      let none = none_is (epoch_fault anchor r entries (target_of entry.body)) in (
        λ there. none.0 (sym (takes_effect named) ∙ member.0 (subst (Contains list) number there)),
        λ free. subst (Contains list) (sym number) (member.1 (takes_effect named ∙ none.1 free)),
      )
