-- More signers meet what fewer meet.
use Rattle.std.proofs.Common.{◌≡◌, ◌||◌, ◌≤◌, ◌++◌, ℕ, Bool, true, false, cond, List, [], ◌∷◌, Option, Some, None, refl, sym, ap, ◌∙◌, arith}
use Rattle.std.specs.Prelude.{count_by}
use Rattle.std.specs.List.{list_any}
use Rattle.std.specs.BTreeSet.{insert_key}
use Rattle.std.specs.FinMap.{nat_cmp-IsAntisymmetric, slice_cmp-IsAntisymmetric}
use Rattle.std.specs.Option.{option_map_or}
use Rattle.std.specs.Ordering.{match_ordering}
use Rattle.std.specs.declared.cmp.Ordering.{Ordering}
use Rattle.std.specs.declared.cmp.Ordering.TheVariants.{Less, Equal, Greater}
use Rattle.octets.specs.BytesMap.{by_bytes}
use Rattle.std.specs.Str.{bytes_eq}
use Rattle.std.proofs.lemmas.Bool.{false≢true, le-leb, leb-true}
use Rattle.std.proofs.lemmas.List.Sums.{sum_by-cons}
use Rattle.root_metadata.specs.Persons.{count_in, has_signed}
use Rattle.root_metadata.specs.Risings.{has_key}
use Rattle.root_metadata.specs.Shapes.{into_set, set_of}
use Rattle.root_metadata.specs.declared.persons.Person.{Person}
use Rattle.rule_files.specs.declared.rules.Rule.{Rule}
use Rattle.rule_files.specs.declared.rules.RuleFile.{RuleFile}
use Rattle.rule_delegations.specs.declared.places.RuleRef.{RuleRef}
use Rattle.rule_delegations.specs.Chains.{rule_at}
use Rattle.rule_delegations.specs.Reached.{Name}
use Rattle.rule_delegations.specs.Walks.{is_enough, passes_at}
use Rattle.entry_rules.specs.Meeting.{is_none_of, meets, passes, reached}
use Rattle.entry_rules.specs.Signing.{joined, listed}

-- ---- a set has what the list has
abbrev has : List (List ℕ) → List ℕ → Bool
has xs x = has_key (λ k. k) xs x

twice : (a b : Bool) → (a || b) ≡ (a || (a || b))
twice true b = refl
twice false b = refl

exchanged : (a b c : Bool) → (b || (a || c)) ≡ (a || (b || c))
exchanged true true c = refl
exchanged true false c = refl
exchanged false true c = refl
exchanged false false c = refl

regrouped : (a b c : Bool) → (a || (b || c)) ≡ ((b || a) || c)
regrouped true true c = refl
regrouped true false c = refl
regrouped false true c = refl
regrouped false false c = refl

nothing_more : (a : Bool) → (a || false) ≡ a
nothing_more true = refl
nothing_more false = refl

module _ (x : List ℕ) where
  at_place : (o : Ordering) (k y : List ℕ) (ys more : List (List ℕ)) → (o ≡ Equal → k ≡ y) → has more x ≡ (bytes_eq k x || has ys x)
      → has (match_ordering o (k ∷ y ∷ ys) (y ∷ ys) (y ∷ more)) x ≡ (bytes_eq k x || has (y ∷ ys) x)
  at_place Less k y ys more same later = refl
  at_place Equal k y ys more same later = twice (bytes_eq y x) (has ys x) ∙ ap (λ (key : List ℕ). bytes_eq key x || has (y ∷ ys) x) (sym (same refl))
  at_place Greater k y ys more same later = ap (λ (b : Bool). bytes_eq y x || b) later ∙ exchanged (bytes_eq k x) (bytes_eq y x) (has ys x)

  inserted : (k : List ℕ) (ys : List (List ℕ)) → has (insert_key by_bytes ys k) x ≡ (bytes_eq k x || has ys x)
  inserted k [] = refl
  inserted k (y ∷ ys) = at_place (by_bytes k y) k y ys (insert_key by_bytes ys k) (slice_cmp-IsAntisymmetric nat_cmp-IsAntisymmetric k y) (inserted k ys)

  into : (found xs : List (List ℕ)) → has (into_set found xs) x ≡ (has xs x || has found x)
  into found [] = refl
  into found (y ∷ ys) = into (insert_key by_bytes found y) ys ∙ ap (λ (b : Bool). has ys x || b) (inserted y found) ∙ regrouped (has ys x) (bytes_eq y x) (has found x)

  in_set : (xs : List (List ℕ)) → has (set_of xs) x ≡ has xs x
  in_set xs = into [] xs ∙ nothing_more (has xs x)

-- ---- more signers
-- the first set's ids are in the second
abbrev pub AreAmong : List (List ℕ) → List (List ℕ) → Type 0
AreAmong few more = (id : List ℕ) → has_key (λ other. other) few id ≡ true → has_key (λ other. other) more id ≡ true

any_more : {X : Type 0} (f g : X → Bool) (xs : List X) → ((x : X) → f x ≡ true → g x ≡ true) → list_any f xs ≡ true → list_any g xs ≡ true
any_more f g [] each e = absurd (false≢true e)
any_more f g (x ∷ xs) each e = by_first (f x) refl e (any_more f g xs each) where
  right : (b : Bool) → (b || true) ≡ true
  right true = refl
  right false = refl

  by_first : (b : Bool) → f x ≡ b → (b || list_any f xs) ≡ true → (list_any f xs ≡ true → list_any g xs ≡ true) → (g x || list_any g xs) ≡ true
  by_first true is e rest = ap (λ b. b || list_any g xs) (each x is)
  by_first false is e rest = ap (λ b. g x || b) (rest e) ∙ right (g x)

abbrev weight : Bool → ℕ
weight b = cond b 1 0

counted_more : {X : Type 0} (f g : X → Bool) (xs : List X) → ((x : X) → f x ≡ true → g x ≡ true) → count_by f xs ≤ count_by g xs
counted_more f g [] each = omega arith
counted_more f g (x ∷ xs) each =
    let rest = counted_more f g xs each in
    let a = sum_by-cons (λ y. cond (f y) 1 0) x xs in
    let b = sum_by-cons (λ y. cond (g y) 1 0) x xs in
    let one = by_first (f x) refl in
    omega (arith, rest, a, b, one)
  where
    small : (b : Bool) → 0 ≤ cond b 1 0
    small true = omega arith
    small false = omega arith

    by_first : (b : Bool) → f x ≡ b → cond (f x) 1 0 ≤ cond (g x) 1 0
    by_first true is = let e = ap weight is in let h = ap weight (each x is) in omega (arith, e, h)
    by_first false is = let e = ap weight is in let h = small (g x) in omega (arith, e, h)

signed_more : (few more : List (List ℕ)) → AreAmong few more → (person : Person) → has_signed few person ≡ true → has_signed more person ≡ true
signed_more few more among person = any_more (λ id. has_key (λ other. other) few id) (λ id. has_key (λ other. other) more id) person.keyids among

enough_more : (few more : List (List ℕ)) → AreAmong few more → (rule : Rule) → is_enough few rule ≡ true → is_enough more rule ≡ true
enough_more few more among rule e =
    let a = leb-true rule.threshold (count_in rule.persons few) e in
    let b = counted_more (has_signed few) (has_signed more) rule.persons (signed_more few more among) in
    le-leb rule.threshold (count_in rule.persons more) (omega (arith, a, b))

passes_more : (files : List RuleFile) (f g : Rule → Bool) → ((rule : Rule) → f rule ≡ true → g rule ≡ true) → (places : List RuleRef) → passes files f places ≡ true → passes files g places ≡ true
passes_more files f g each places e = by_none (is_none_of places) e where
  at_place : (rule : Option Rule) → option_map_or f rule false ≡ true → option_map_or g rule false ≡ true
  at_place None e = e
  at_place (Some rule) e = each rule e

  by_none : (b : Bool) → (b || list_any (passes_at files f) places) ≡ true → (b || list_any (passes_at files g) places) ≡ true
  by_none true e = refl
  by_none false e = any_more (passes_at files f) (passes_at files g) places (λ place. at_place (rule_at files place)) e

pub meets_more : (files : List RuleFile) (name : Name) (few more : List (List ℕ)) → AreAmong few more → meets files name few ≡ true → meets files name more ≡ true
meets_more files name few more among = passes_more files (is_enough few) (is_enough more) (enough_more few more among) (reached files name)

-- more approvers
any_longer : {X : Type 0} (f : X → Bool) (xs ys : List X) → list_any f (xs ++ []) ≡ true → list_any f (xs ++ ys) ≡ true
any_longer f [] ys e = absurd (false≢true e)
any_longer f (x ∷ xs) ys e = by_first (f x) e (any_longer f xs ys) where
  by_first : (b : Bool) → (b || list_any f (xs ++ [])) ≡ true → (list_any f (xs ++ []) ≡ true → list_any f (xs ++ ys) ≡ true) → (b || list_any f (xs ++ ys)) ≡ true
  by_first true e rest = refl
  by_first false e rest = rest e

pub joined_more : (signer : Option (List ℕ)) (approvers : List (List ℕ)) → AreAmong (joined signer []) (joined signer approvers)
joined_more signer approvers id e =
    in_set id (listed signer ++ approvers) ∙ any_longer (λ k. bytes_eq k id) (listed signer) approvers (sym (in_set id (listed signer ++ [])) ∙ e)

pub among_same : (few more : List (List ℕ)) → more ≡ few → AreAmong few more
among_same few more same id e = ap (λ ids. has_key (λ other. other) ids id) same ∙ e
