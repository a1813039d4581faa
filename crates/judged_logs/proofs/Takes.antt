-- The tables with what is noted in them, and the numbers that are open.
use Rattle.std.proofs.Common.{◌≡◌, ◌⊎◌, nat_lt, ◌==◌, ◌&&◌, ◌||◌, ◌<◌, ◌≤◌, ◌+◌, ◌++◌, ℕ, suc, Bool, true, false, cond, not, List, [], ◌∷◌, Option, Some, None, length, get_or, take, refl, ap, sym, subst, inl, inr, ◌∙◌, arith}
use Rattle.std.specs.BTreeMap as tree
use Rattle.std.specs.BTreeMap.{BTreeMap}
use Rattle.std.specs.List.{list_any}
use Rattle.std.specs.Ordering.{nat_cmp}
use Rattle.std.proofs.lemmas.Bool.{and_parts, cases_Bool, cases_eq, cases_lt, eq-eqb, lt-ltb, ne_eqb, true≢false}
use Rattle.std.proofs.lemmas.Bool.Decides.{Decides-eqb}
use Rattle.std.proofs.lemmas.List.{length-map}
use Rattle.std.proofs.lemmas.List.Folds.{list_any-append, list_any_at, list_any_more}
use Rattle.rsl_chain.specs.Entries.{Taken, target_of}
use Rattle.rsl_chain.specs.declared.entries.EntryBody.{EntryBody}
use Rattle.rsl_chain.specs.declared.entries.EntryBody.TheVariants.{Reference, Annotation}
use Rattle.recovery.specs.Lanes.{is_in}
use Rattle.judging.specs.Engines.{Stands, taken}
use Rattle.judging.specs.Logs.{above, entry_at, has_id, is_entry_of, lane, pending, skipped}
use Rattle.judging.specs.Reads.{may_rescue}
use Rattle.judging.specs.Rules.{Rules}
use Rattle.judging.specs.declared.engine.Engine.{Engine}
use Rattle.judging.proofs.Appends.{long, no_entry}
use Rattle.judging.proofs.Notes.{in_numbers}
use Rattle.judged_logs.specs.Keeping.{AreOpen, ArePending, IsAdded, IsNoted, IsPending, noted}
use Rattle.judged_logs.proofs.Firsts.{noted_none}

-- nothing is noted
pub noted_nothing : (hit : ℕ → Bool) (by : ℕ) (was : BTreeMap ℕ ℕ) → ((q : ℕ) → 0 < q → hit q ≡ false) → IsNoted hit by was was
noted_nothing hit by was none q some = sym (ap (λ b. noted (tree.get nat_cmp was q) b by) (none q some) ∙ noted_none (tree.get nat_cmp was q) by)

-- the same is noted by another test
pub noted_as : (hit other : ℕ → Bool) (by : ℕ) (was now : BTreeMap ℕ ℕ) → IsNoted hit by was now → ((q : ℕ) → 0 < q → hit q ≡ other q) → IsNoted other by was now
noted_as hit other by was now is same q some = is q some ∙ ap (λ b. noted (tree.get nat_cmp was q) b by) (same q some)

twice_noted : (o : Option ℕ) (a b : Bool) (by : ℕ) → noted (noted o a by) b by ≡ noted o (a || b) by
twice_noted None true b by = refl
twice_noted None false b by = refl
twice_noted (Some x) a b by = refl

-- one after the other
pub noted_then : (one two : ℕ → Bool) (by : ℕ) (was mid now : BTreeMap ℕ ℕ) → IsNoted one by was mid → IsNoted two by mid now → IsNoted (λ q. one q || two q) by was now
noted_then one two by was mid now first second q some =
    second q some ∙ ap (λ o. noted o (two q) by) (first q some) ∙ twice_noted (tree.get nat_cmp was q) (one q) (two q) by

pub and_eq : (n q : ℕ) (p : ℕ → Bool) → (n == q && p n) ≡ (n == q && p q)
and_eq n q p =
    elim (cases_eq n q) [
      | inl is ↦ ap (λ k. n == q && p k) is
      | inr isnt ↦ ap (λ b. b && p n) (ne_eqb n q isnt) ∙ sym (ap (λ b. b && p q) (ne_eqb n q isnt))
    ]

module _ {P F : Type 0} (rules : Rules P F) (log : List Taken) where
  within : (n : ℕ) (id : List ℕ) → has_id (entry_at log n) id ≡ true → n ≤ length log
  within n id has =
      elim (cases_lt (length log) n) [
        | inl past ↦ absurd (true≢false (sym has ∙ ap (λ x. has_id x id) (no_entry log n past)))
        | inr few ↦ few
      ]

  -- the entry of an id is the one of its place
  pub at_place : (place : Option ℕ) (id : List ℕ) → ((i : ℕ) → (place ≡ Some i → (0 < i) × (i ≤ length log) × (has_id (entry_at log i) id ≡ true)) × ((0 < i) × (i ≤ length log) × (has_id (entry_at log i) id ≡ true) → place ≡ Some i))
      → (n : ℕ) → place ≡ Some n → (q : ℕ) → 0 < q → (n == q) ≡ has_id (entry_at log q) id
  at_place place id are n is q some =
      elim (cases_eq n q) [
        | inl same ↦ eq-eqb n q same ∙ sym (ap (λ k. has_id (entry_at log k) id) (sym same) ∙ ((are n).0 is).2)
        | inr isnt ↦ ne_eqb n q isnt ∙ sym (elim (cases_Bool (has_id (entry_at log q) id)) [
          | inl has ↦ absurd (let other : place ≡ Some q = (are q).1 (some, within q id has, has) in let both : Some n ≡ Some q = sym is ∙ other in isnt (cc both))
          | inr hasnt ↦ hasnt
        ])
      ]

  pub no_place : (place : Option ℕ) (id : List ℕ) → ((i : ℕ) → (place ≡ Some i → (0 < i) × (i ≤ length log) × (has_id (entry_at log i) id ≡ true)) × ((0 < i) × (i ≤ length log) × (has_id (entry_at log i) id ≡ true) → place ≡ Some i))
      → place ≡ None → (q : ℕ) → 0 < q → has_id (entry_at log q) id ≡ false
  no_place place id are is q some =
      elim (cases_Bool (has_id (entry_at log q) id)) [
        | inl has ↦ absurd (let other : place ≡ Some q = (are q).1 (some, within q id has, has) in let both : None ≡ Some q = sym is ∙ other in cc both)
        | inr hasnt ↦ hasnt
      ]

pub long_taken : {P F : Type 0} (rules : Rules P F) (log : List Taken) (t : Taken) (e : Engine P F) → Stands rules (log ++ t ∷ []) e → taken e ≡ suc (length log)
long_taken rules log t e stands =
    let targets : Taken → List ℕ = λ u. target_of u.entry.body in
    ap length stands.targets ∙ length-map (log ++ t ∷ []) targets ∙ long log t

pub or_and : (a b c : Bool) → ((a && c) || (b && c)) ≡ ((a || b) && c)
or_and true b true = refl
or_and true true false = refl
or_and true false false = refl
or_and false b c = refl

pub in_more : (ns : List ℕ) (k n q : ℕ) → k < length ns → get_or ns k n ≡ n → (is_in q (take k ns) || n == q) ≡ is_in q (take (k + 1) ns)
in_more ns k n q h is = sym (list_any_more (λ m. m == q) ns k n h ∙ ap (λ x. is_in q (take k ns) || x == q) is)

pub in_at : (ns : List ℕ) (k n : ℕ) → k < length ns → get_or ns k n ≡ n → is_in n ns ≡ true
in_at ns k n h is = list_any_at (λ m. m == n) ns k n h (eq-eqb (get_or ns k n) n is)

-- ---- the numbers that are open

in_push : (ns : List ℕ) (n b : ℕ) → is_in b (ns ++ n ∷ []) ≡ (is_in b ns || n == b)
in_push ns n b = list_any-append (λ m. m == b) ns (n ∷ []) ∙ ap (λ c. is_in b ns || c) (or_no (n == b)) where
  or_no : (c : Bool) → (c || false) ≡ c
  or_no true = refl
  or_no false = refl

or_yes : (b : Bool) → (b || true) ≡ true
or_yes true = refl
or_yes false = refl

module _ {P F : Type 0} (rules : Rules P F) (log : List Taken) where
  pub added_pending : (number : ℕ) (was now : List ℕ) → now ≡ was ++ number ∷ [] → IsPending rules log number → IsAdded rules log number was now
  added_pending number was now added is = record {
    keeps = λ b h. ap (is_in b) added ∙ in_push was number b ∙ ap (λ c. c || number == b) h;
    adds = λ w. ap (is_in number) added ∙ in_push was number number ∙ ap (λ c. is_in number was || c) (eq-eqb number number refl) ∙ or_yes (is_in number was);
    only = λ b h. elim (cases_Bool (is_in b was)) [
      | inl old ↦ inl old
      | inr new ↦ inr (subst (λ (x : ℕ). IsPending rules log x) ((Decides-eqb number b).0 (sym (ap (λ c. c || number == b) new) ∙ sym (in_push was number b) ∙ sym (ap (is_in b) added) ∙ h)) is)
    ];
  }

  pub not_added : (number : ℕ) (was : List ℕ) → (IsPending rules log number → ⊥) → IsAdded rules log number was was
  not_added number was none = record { keeps = λ b h. h; adds = λ w. absurd (none w); only = λ b h. inl h }

  pub is_within : (b : ℕ) → IsPending rules log b → b ≤ length log
  is_within b w =
      elim (cases_lt (length log) b) [
        | inl past ↦ absurd (true≢false (sym w.2 ∙ ap (λ x. is_entry_of x w.1) (no_entry log b past)))
        | inr few ↦ few
      ]

  -- those up to a place
  pub record SoFar (from place : ℕ) (found : List ℕ) : Type 0 where
    pub all : (b : ℕ) → from < b → b ≤ place → IsPending rules log b → is_in b found ≡ true
    pub only : (b : ℕ) → is_in b found ≡ true → IsPending rules log b

  pub none_so_far : (from : ℕ) (found : List ℕ) → found ≡ [] → SoFar from from found
  none_so_far from found none = record {
    all = λ b up down w. absurd (omega (arith, up, down));
    only = λ b h. absurd (true≢false (sym h ∙ ap (is_in b) none));
  }

  pub one_further : (from place : ℕ) (was now : List ℕ) → SoFar from place was → IsAdded rules log (place + 1) was now → SoFar from (place + 1) now
  one_further from place was now so_far step = record {
    all = λ b up down w. elim (cases_eq b (place + 1)) [
      | inl is ↦ ap (λ (x : ℕ). is_in x now) is ∙ step.adds (subst (λ (x : ℕ). IsPending rules log x) is w)
      | inr isnt ↦ step.keeps b (so_far.all b up (let lt = isnt in omega arith) w)
    ];
    only = λ b h. elim (step.only b h) [ inl old ↦ so_far.only b old | inr new ↦ new ];
  }

  pub all_found : (from place : ℕ) (found : List ℕ) → length log ≤ place → SoFar from place found → ArePending rules log from found
  all_found from place found far so_far = record {
    all = λ b up w. so_far.all b up (let few = is_within b w in omega (arith, few, far)) w;
    only = so_far.only;
  }

  -- ---- what an entry of a reference may rescue
  module _ (name target : List ℕ) where
    same_name : (n t : List ℕ) → Reference name target ≡ Reference n t → n ≡ name
    same_name n t e = sym (ap (name_in name) e) where
      name_in : List ℕ → EntryBody → List ℕ
      name_in other (Reference m to) = m
      name_in other (Annotation ids skip message) = other

    pub open_from : (from : ℕ) (found : List ℕ) → from ≡ above rules log name → ArePending rules log from found → AreOpen rules log (Reference name target) found
    open_from from found at are = record {
      all = λ n t e b is up.
          let same = same_name n t e in
          let here : is_in b (lane rules log name).pending ≡ true = subst (λ (x : List ℕ). is_in b (lane rules log x).pending ≡ true) same is in
          let over : above rules log name < b = subst (λ (x : List ℕ). above rules log x < b) same up in
          let q = in_numbers (λ i. is_entry_of (entry_at log i) name && pending rules log i) (length log) b here in
          let r = and_parts (is_entry_of (entry_at log b) name) (pending rules log b) q.2 in
          are.all b (subst (λ (x : ℕ). x < b) (sym at) over) (q.0, name, r.0, r.1);
      only = are.only;
    }

    pub none_open : (found : List ℕ) → found ≡ [] → may_rescue rules log name ≡ false → AreOpen rules log (Reference name target) found
    none_open found none cannot = record {
      all = λ n t e b is up.
          let same = same_name n t e in
          let here : is_in b (lane rules log name).pending ≡ true = subst (λ (x : List ℕ). is_in b (lane rules log x).pending ≡ true) same is in
          let over : above rules log name < b = subst (λ (x : List ℕ). above rules log x < b) same up in
          absurd (true≢false (sym (passes (above rules log name) b over (lane rules log name).pending here) ∙ cannot));
      only = λ b h. absurd (true≢false (sym h ∙ ap (is_in b) none));
    } where
      passes : (low b : ℕ) → low < b → (ns : List ℕ) → is_in b ns ≡ true → list_any (nat_lt low) ns ≡ true
      passes low b up [] is = absurd (true≢false (sym is))
      passes low b up (n ∷ ns) is =
          elim (cases_eq n b) [
            | inl same ↦ ap (λ (x : ℕ). nat_lt low x || list_any (nat_lt low) ns) same ∙ ap (λ c. c || list_any (nat_lt low) ns) (lt-ltb low b up)
            | inr isnt ↦ ap (λ c. nat_lt low n || c) (passes low b up ns (sym (ap (λ c. c || is_in b ns) (ne_eqb n b isnt)) ∙ is)) ∙ or_yes (nat_lt low n)
          ]

  pub none_for_note : (body : EntryBody) (ids : List (List ℕ)) (skip : Bool) (message : List ℕ) (found : List ℕ) → body ≡ Annotation ids skip message → found ≡ [] → AreOpen rules log body found
  none_for_note body ids skip message found is none = record {
    all = λ n t e b h up. absurd (clash n t (sym is ∙ e));
    only = λ b h. absurd (true≢false (sym h ∙ ap (is_in b) none));
  } where
    is_note : EntryBody → Bool
    is_note (Reference n t) = false
    is_note (Annotation ids skip message) = true

    clash : (n t : List ℕ) → Annotation ids skip message ≡ Reference n t → ⊥
    clash n t e = true≢false (ap is_note e)

pub taken_is : {P F : Type 0} (rules : Rules P F) (log : List Taken) (e : Engine P F) → Stands rules log e → taken e ≡ length log
taken_is rules log e stands =
    let targets : Taken → List ℕ = λ u. target_of u.entry.body in
    ap length stands.targets ∙ length-map log targets
