-- Membership in the list of the epochs, read aloud.
use Rattle.std.proofs.Common.{◌≡◌, ◌↔◌, ◌<◌, ◌≤◌, ◌-◌, ◌++◌, ℕ, suc, zero, nat_lt, Bool, true, false, cond, List, [], ◌∷◌, Option, Some, None, Result, Ok, Err, is_none, option_and_then, refl, ap, sym, subst, inl, inr, ◌∙◌, arith}
use Rattle.std.specs.List.{Contains}
use Rattle.std.proofs.lemmas.Bool.{lt-ltb, ltb-true, true≢false}
use Rattle.std.proofs.lemmas.List.{append-nil}
use Rattle.policy_epochs.specs.Epochs.{AreEpochs, below, last_of, numbers, opens, policy_in, valid}
use Rattle.policy_epochs.specs.Readings.{IsEpoch, IsInForce}
use Rattle.policy_epochs.proofs.Members.{In, from_contains, to_contains}
use Rattle.policy_epochs.proofs.Numbers.{from_filter, in_append, in_numbers, last_in, last_none, last_push, to_filter, to_numbers}
use Rattle.policy_epochs.proofs.OneList.{agrees, epochs, test}
use Rattle.policy_epochs.proofs.LastPolicy.{opens_after}

module _ (t : List ℕ → ℕ → Bool) where
  bounded : (n x : ℕ) → In (epochs t n) x → x ≤ n
  bounded zero x h = absurd h
  bounded (suc n) x h = elim (in_append (epochs t n) (cond (t (epochs t n) (suc n)) (suc n ∷ []) []) x h) [
    | inl a ↦ (let le = bounded n x a in omega arith)
    | inr b ↦ at (t (epochs t n) (suc n)) b
  ] where
    at : (b : Bool) → In (cond b (suc n ∷ []) []) x → x ≤ suc n
    at true (inl is) = omega arith
    at true (inr none) = absurd none
    at false none = absurd none

  -- the last member is the greatest
  greatest : (n x o : ℕ) → last_of (epochs t n) ≡ Some x → In (epochs t n) o → o ≤ x
  greatest zero x o is h = absurd h
  greatest (suc n) x o is h = by_test (greatest n x o) (t (epochs t n) (suc n)) refl is h where
    by_test : (last_of (epochs t n) ≡ Some x → In (epochs t n) o → o ≤ x) → (b : Bool) → t (epochs t n) (suc n) ≡ b → last_of (epochs t n ++ cond b (suc n ∷ []) []) ≡ Some x → In (epochs t n ++ cond b (suc n ∷ []) []) o → o ≤ x
    by_test more true own last there =
        let e : Some (suc n) ≡ Some x = sym (last_push (epochs t n) (suc n)) ∙ last in
        let same : suc n ≡ x = cc in
        let le = bounded (suc n) o h in
        omega arith
    by_test more false own last there =
        let l = append-nil (epochs t n) in
        more (ap last_of (sym l) ∙ last) (let Q : List ℕ → Type 0 = λ xs. In xs o in subst Q l there)

module _ {P F : Type 0} (checked : ℕ → Option (Result P F)) (succession : Option P → P → Option F) where
  record Opening (current : Option P) (found : Option (Result P F)) : Type 0 where
    policy : P
    brings : found ≡ Some (Ok policy)
    follows : succession current policy ≡ None

  opening : (current : Option P) (found : Option (Result P F)) → opens succession current found ≡ true → Opening current found
  opening current None h = absurd (true≢false (sym h))
  opening current (Some (Err fault)) h = absurd (true≢false (sym h))
  opening current (Some (Ok policy)) h = record { policy = policy; brings = refl; follows = by_fault (succession current policy) h } where
    by_fault : (fault : Option F) → is_none fault ≡ true → fault ≡ None
    by_fault None is = refl
    by_fault (Some fault) is = absurd (true≢false (sym is))

  opened : (current : Option P) (found : Option (Result P F)) (policy : P) → found ≡ Some (Ok policy) → succession current policy ≡ None → opens succession current found ≡ true
  opened current found policy is none = ap (opens succession current) is ∙ ap is_none none

  module _ (n : ℕ) (list : List ℕ) (are : AreEpochs checked succession n list) where
    member : (k : ℕ) → In list k → In (numbers n) k × (test (opens_after checked succession) list k ≡ true)
    member k h = from_filter (test (opens_after checked succession) list) (numbers n) k (let Q : List ℕ → Type 0 = λ xs. In xs k in subst Q are h)

    below_is : (k : ℕ) → 1 ≤ k → k ≤ n → below k list ≡ epochs (opens_after checked succession) (k - 1)
    below_is k a b = let e : k ≡ suc (k - 1) = omega arith in ap (λ i. below i list) e ∙ agrees (opens_after checked succession) n (k - 1) list are (omega arith)

    -- the policy of the list below k is in force
    in_force : (k : ℕ) → 1 ≤ k → k ≤ n → IsInForce checked list k (policy_in checked (below k list))
    in_force k a b = by_last (last_of (below k list)) refl where
      by_last : (last : Option ℕ) → last_of (below k list) ≡ last → IsInForce checked list k (option_and_then (λ i. valid (checked i)) last)
      by_last None is = λ m there lt. last_none (below k list) m is (to_filter (λ i. nat_lt i k) list m (from_contains list m there) (lt-ltb m k lt))
      by_last (Some m) is = by_found (checked m) refl where
        here : In list m × (nat_lt m k ≡ true)
        here = from_filter (λ i. nat_lt i k) list m (last_in (below k list) m is)

        best : (o : ℕ) → Contains list o → o < k → o ≤ m
        best o there lt =
            let e = below_is k a b in
            greatest (opens_after checked succession) (k - 1) m o (ap last_of (sym e) ∙ is)
            (let Q : List ℕ → Type 0 = λ xs. In xs o in subst Q e (to_filter (λ i. nat_lt i k) list o (from_contains list o there) (lt-ltb o k lt)))

        own : Opening (policy_in checked (below m list)) (checked m)
        own = opening (policy_in checked (below m list)) (checked m) (member m here.0).1

        by_found : (found : Option (Result P F)) → checked m ≡ found → IsInForce checked list k (valid found)
        by_found None was = absurd (let w : Some (Ok own.policy) ≡ checked m = sym own.brings in cc)
        by_found (Some (Err fault)) was = absurd (let w : Some (Ok own.policy) ≡ checked m = sym own.brings in cc)
        by_found (Some (Ok policy)) was = record { member = m; there = to_contains list m here.0; below = ltb-true m k here.1; greatest = best; brought = was }

    -- and no other is
    same : (k : ℕ) (x y : Option P) → IsInForce checked list k x → IsInForce checked list k y → x ≡ y
    same k None None a b = refl
    same k None (Some q) a b = absurd (a b.member b.there b.below)
    same k (Some p) None a b = absurd (b a.member a.there a.below)
    same k (Some p) (Some q) a b =
        let l = b.greatest a.member a.there a.below in
        let r = a.greatest b.member b.there b.below in
        let e : a.member ≡ b.member = omega arith in
        let f : Some (Ok p) ≡ Some (Ok q) = sym a.brought ∙ ap checked e ∙ b.brought in
        cc

    reads_in : (k : ℕ) → Contains list k → IsEpoch checked succession n list k
    reads_in k there =
        let h = member k (from_contains list k there) in
        let w = in_numbers n k h.0 in
        let own = opening (policy_in checked (below k list)) (checked k) h.1 in
        record { first = w.0; within = w.1; policy = own.policy; brings = own.brings; current = policy_in checked (below k list); in_force = in_force k w.0 w.1; follows = own.follows }

    reads_out : (k : ℕ) → IsEpoch checked succession n list k → Contains list k
    reads_out k is =
        let e = same k is.current (policy_in checked (below k list)) is.in_force (in_force k is.first is.within) in
        let passes = opened (policy_in checked (below k list)) (checked k) is.policy is.brings (ap (λ c. succession c is.policy) (sym e) ∙ is.follows) in
        to_contains list k (let Q : List ℕ → Type 0 = λ xs. In xs k in subst Q (sym are) (to_filter (test (opens_after checked succession) list) (numbers n) k (to_numbers n k is.first is.within) passes))

    pub reads : (k : ℕ) → Contains list k ↔ IsEpoch checked succession n list k
    reads k = (reads_in k, reads_out k)
