-- Exactly one list is a filter of the rising numbers by a test that looks at the members below.
use Rattle.std.proofs.Common.{◌≡◌, ◌<◌, ◌≤◌, ◌++◌, ℕ, suc, zero, nat_lt, Bool, true, false, cond, List, [], ◌∷◌, refl, ap, sym, ◌∙◌, arith}
use Rattle.std.specs.List.{filter}
use Rattle.std.proofs.lemmas.Bool.{le-ltb, lt-ltb, ltb-false, ltb-true}
use Rattle.std.proofs.lemmas.List.{append-nil}
use Rattle.std.proofs.lemmas.List.Elements.{filter-append}
use Rattle.policy_epochs.specs.Epochs.{below, numbers}
use Rattle.policy_epochs.proofs.Numbers.{cut, swap}

module _ (t : List ℕ → ℕ → Bool) where
  -- whether k passes over the members below it
  abbrev pub test : List ℕ → ℕ → Bool
  test list k = t (below k list) k

  -- the list, number by number
  abbrev pub epochs : ℕ → List ℕ
  epochs zero = []
  epochs (suc n) = epochs n ++ cond (t (epochs n) (suc n)) (suc n ∷ []) []

  -- what was given, up to m, is the filter of the numbers up to m
  given_cut : (n m : ℕ) (list : List ℕ) → list ≡ filter (test list) (numbers n) → m ≤ n → below (suc m) list ≡ filter (test list) (numbers m)
  given_cut n m list is h =
      ap (below (suc m)) is ∙ swap (λ i. nat_lt i (suc m)) (test list) (numbers n) ∙ ap (filter (test list)) (cut m n h)

  -- and so it is the list up to m
  pub agrees : (n m : ℕ) (list : List ℕ) → list ≡ filter (test list) (numbers n) → m ≤ n → below (suc m) list ≡ epochs m
  agrees n zero list is h = given_cut n zero list is h
  agrees n (suc m) list is h =
      let same = agrees n m list is (omega arith) in
      given_cut n (suc m) list is h
      ∙ filter-append (test list) (numbers m) (suc m ∷ [])
      ∙ ap (λ l. l ++ filter (test list) (suc m ∷ [])) (sym (given_cut n m list is (omega arith)) ∙ same)
      ∙ ap (λ l. epochs m ++ cond (t l (suc m)) (suc m ∷ []) []) same

  pub only : (n : ℕ) (list : List ℕ) → list ≡ filter (test list) (numbers n) → list ≡ epochs n
  only n list is = is ∙ sym (given_cut n n list is (omega arith)) ∙ agrees n n list is (omega arith)

  whole_epochs : (m n : ℕ) → n < m → below m (epochs n) ≡ epochs n
  whole_epochs m zero h = refl
  whole_epochs m (suc n) h =
      filter-append (λ i. nat_lt i m) (epochs n) (cond (t (epochs n) (suc n)) (suc n ∷ []) [])
      ∙ ap (λ l. l ++ below m (cond (t (epochs n) (suc n)) (suc n ∷ []) [])) (whole_epochs m n (omega arith))
      ∙ ap (λ l. epochs n ++ l) (kept (t (epochs n) (suc n)))
    where
      kept : (b : Bool) → below m (cond b (suc n ∷ []) []) ≡ cond b (suc n ∷ []) []
      kept true = ap (λ b. cond b (suc n ∷ []) []) (lt-ltb (suc n) m h)
      kept false = refl

  cut_epochs : (m n : ℕ) → m ≤ n → below (suc m) (epochs n) ≡ epochs m
  cut_epochs m zero h = let e : m ≡ 0 = omega arith in ap epochs (sym e)
  cut_epochs m (suc n) h = by_test (cut_epochs m n) (nat_lt n m) refl where
    gone : m ≤ n → (b : Bool) → below (suc m) (cond b (suc n ∷ []) []) ≡ []
    gone le true = ap (λ b. cond b (suc n ∷ []) []) (le-ltb (suc n) (suc m) (omega arith))
    gone le false = refl

    by_test : (m ≤ n → below (suc m) (epochs n) ≡ epochs m) → (v : Bool) → nat_lt n m ≡ v → below (suc m) (epochs (suc n)) ≡ epochs m
    by_test more true is = let lt = ltb-true n m is in let e : suc n ≡ m = omega arith in whole_epochs (suc m) (suc n) (omega arith) ∙ ap epochs e
    by_test more false is =
        let le = ltb-false n m is in
        filter-append (λ i. nat_lt i (suc m)) (epochs n) (cond (t (epochs n) (suc n)) (suc n ∷ []) [])
        ∙ ap (λ l. below (suc m) (epochs n) ++ l) (gone le (t (epochs n) (suc n)))
        ∙ append-nil (below (suc m) (epochs n))
        ∙ more le

  meets_up_to : (n m : ℕ) → m ≤ n → filter (test (epochs n)) (numbers m) ≡ epochs m
  meets_up_to n zero h = refl
  meets_up_to n (suc m) h =
      filter-append (test (epochs n)) (numbers m) (suc m ∷ [])
      ∙ ap (λ l. l ++ filter (test (epochs n)) (suc m ∷ [])) (meets_up_to n m (omega arith))
      ∙ ap (λ l. epochs m ++ cond (t l (suc m)) (suc m ∷ []) []) (cut_epochs m n (omega arith))

  pub meets : (n : ℕ) → epochs n ≡ filter (test (epochs n)) (numbers n)
  meets n = sym (meets_up_to n n (omega arith))
