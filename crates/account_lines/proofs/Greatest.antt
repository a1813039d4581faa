-- The greatest of the leaves of some entries.
use Rattle.std.proofs.Common.{◌≡◌, ◌<◌, ◌≤◌, ◌+◌, ◌++◌, ℕ, Bool, true, false, cond, List, [], ◌∷◌, Option, Some, None, length, map, take, get_or, refl, ap, sym, subst, ◌∙◌, inl, inr, arith}
use Rattle.std.specs.Prelude.{◌⊎◌, nat_lt}
use Rattle.std.specs.List.{fold}
use Rattle.std.proofs.lemmas.Bool.{cases_lt, le-ltb, lt-ltb}
use Rattle.std.proofs.lemmas.List.{map-append, take_more}
use Rattle.std.proofs.lemmas.List.Sums.{fold-append}
use Rattle.git_object.specs.Repository.{Repository}
use Rattle.rsl_chain.specs.Logs.{entry_at}
use Rattle.rsl_chain.specs.declared.entries.Entry.{Entry}
use Rattle.account_lines.specs.LeafLaws.{IsAmong, IsGreatest}
use Rattle.account_lines.specs.Used.{AreEntries, IsUsed, greater, leaf_in, used_in}

-- ---- one entry more

module _ (r : Repository) (id public : List ℕ) (ids : List (List ℕ)) (i : ℕ) (place : List ℕ) (within : i < length ids) (at : place ≡ get_or ids i place) where
  pub used_more : (was : Option ℕ) (entry : Entry) → IsUsed r id public (take i ids) was → entry_at r place ≡ Some entry → (now : Option ℕ) → now ≡ greater was (leaf_in id public entry) → IsUsed r id public (take (i + 1) ids) now
  used_more was entry used there now is =
      let one_more : take (i + 1) ids ≡ take i ids ++ place ∷ [] = take_more ids i place within ∙ ap (λ (p : List ℕ). take i ids ++ p ∷ []) (sym at) in
      record {
        entries = used.entries ++ entry ∷ [];
        are = ap (map (entry_at r)) one_more ∙ map-append (entry_at r) (take i ids) (place ∷ [])
            ∙ (λ k. used.are k ++ there k ∷ []) ∙ sym (map-append (λ (e : Entry). Some e) used.entries (entry ∷ []));
        is = is ∙ ap (λ (o : Option ℕ). greater o (leaf_in id public entry)) used.is
            ∙ sym (fold-append (λ (most : Option ℕ) (e : Entry). greater most (leaf_in id public e)) None used.entries (entry ∷ []));
      }

-- ---- that none is greater

-- there is one, and it is at least this
abbrev AtLeast : Option ℕ → ℕ → Type 0
AtLeast o k = (n : ℕ) × (o ≡ Some n) × (k ≤ n)

left : (m k : ℕ) (leaf : Option ℕ) → k ≤ m → AtLeast (greater (Some m) leaf) k
left m k None few = (m, refl, few)
left m k (Some l) few =
    elim (cases_lt m l) [
      | inl above ↦ (l, ap (λ b. Some (cond b l m)) (lt-ltb m l above), omega (arith, above, few))
      | inr below ↦ (m, ap (λ b. Some (cond b l m)) (le-ltb m l below), few)
    ]

right : (most : Option ℕ) (k : ℕ) → AtLeast (greater most (Some k)) k
right None k = (k, refl, omega arith)
right (Some m) k =
    elim (cases_lt m k) [
      | inl above ↦ (k, ap (λ b. Some (cond b k m)) (lt-ltb m k above), omega arith)
      | inr below ↦ (m, ap (λ b. Some (cond b k m)) (le-ltb m k below), below)
    ]

either : (most leaf : Option ℕ) (n : ℕ) → greater most leaf ≡ Some n → (most ≡ Some n) ⊎ (leaf ≡ Some n)
either None leaf n is = inr is
either (Some m) None n is = inl is
either (Some m) (Some l) n is = by_test (nat_lt m l) is where
  by_test : (b : Bool) → Some (cond b l m) ≡ Some n → (Some m ≡ Some n) ⊎ (Some l ≡ Some n)
  by_test true is = inr is
  by_test false is = inl is

module _ (id public : List ℕ) where
  abbrev next : Option ℕ → Entry → Option ℕ
  next most entry = greater most (leaf_in id public entry)

  stays : (most : Option ℕ) (k : ℕ) (entries : List Entry) → AtLeast most k → AtLeast (fold next most entries) k
  stays most k [] is = is
  stays most k (x ∷ xs) is =
      let more = left is.0 k (leaf_in id public x) is.2 in
      stays (next most x) k xs (more.0, ap (λ (o : Option ℕ). greater o (leaf_in id public x)) is.1 ∙ more.1, more.2)

  reached : (most : Option ℕ) (entries : List Entry) (entry : Entry) (k : ℕ) → IsAmong entries entry → leaf_in id public entry ≡ Some k → AtLeast (fold next most entries) k
  reached most [] entry k among leaf = absurd among
  reached most (x ∷ xs) entry k among leaf =
      elim among [
        | inl here ↦
            let its : leaf_in id public x ≡ Some k = ap (leaf_in id public) here ∙ leaf in
            let more = right most k in
            stays (next most x) k xs (more.0, ap (greater most) its ∙ more.1, more.2)
        | inr later ↦ reached (next most x) xs entry k later leaf
      ]

  found : (most : Option ℕ) (entries : List Entry) (n : ℕ) → fold next most entries ≡ Some n → (most ≡ Some n) ⊎ ((entry : Entry) × IsAmong entries entry × (leaf_in id public entry ≡ Some n))
  found most [] n is = inl is
  found most (x ∷ xs) n is =
      elim (found (next most x) xs n is) [
        | inl first ↦ elim (either most (leaf_in id public x) n first) [ inl before ↦ inl before | inr own ↦ inr (x, inl refl, own) ]
        | inr later ↦ inr (later.0, inr later.1, later.2)
      ]

  none_there : (entries : List Entry) (entry : Entry) → fold next None entries ≡ None → IsAmong entries entry → (leaf : Option ℕ) → leaf_in id public entry ≡ leaf → leaf ≡ None
  none_there entries entry is among None its = refl
  none_there entries entry is among (Some k) its =
      let above = reached None entries entry k among its in
      absurd (let clash : Some above.0 ≡ None = sym above.1 ∙ is in cc)

  pub are_greatest : (entries : List Entry) → IsGreatest id public entries
  are_greatest entries = record {
    some = λ most is. elim (found None entries most is) [ inl none ↦ absurd (let clash : None ≡ Some most = none in cc) | inr there ↦ there ];
    most = λ most leaf entry is among its.
        let above = reached None entries entry leaf among its in
        let same : Some above.0 ≡ Some most = sym above.1 ∙ is in
        let number : above.0 ≡ most = cc in
        subst (λ (n : ℕ). leaf ≤ n) number above.2;
    none = λ entry is among. none_there entries entry is among (leaf_in id public entry) refl;
  }
