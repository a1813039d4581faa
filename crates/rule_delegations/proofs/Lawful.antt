-- One fault at most, and keys that are persons.
use Rattle.std.proofs.Common.{◌≡◌, ◌⊎◌, ◌+◌, ◌||◌, ℕ, suc, Bool, true, false, cond, List, [], ◌∷◌, Option, Some, None, refl, sym, ap, subst, ◌∙◌, inl, inr, arith, map}
use Prim.Native.Nat as Nat
use Rattle.std.specs.Prelude.{slice_get, count_by, option_and_then}
use Rattle.std.specs.List.{AllByRecursion, flat_map}
use Rattle.std.specs.Ordering.{ordering_reverse}
use Rattle.std.specs.declared.cmp.Ordering.{Ordering}
use Rattle.std.specs.declared.cmp.Ordering.TheVariants.{Less, Equal, Greater}
use Rattle.std.proofs.lemmas.Bool.{cases_lt}
use Rattle.std.proofs.lemmas.Cmp.{nat_list_cmp_total}
use Rattle.std.proofs.lemmas.List.Sums.{sum_by-append}
use Rattle.std.proofs.lemmas.Map.Lookups.{exact_bytes}
use Rattle.octets.specs.BytesMap.{by_bytes}
use Rattle.root_metadata.specs.Persons.{count_in, has_signed}
use Rattle.root_metadata.specs.Risings.{has_key}
use Rattle.root_metadata.specs.declared.persons.Person.{Person}
use Rattle.rule_files.specs.declared.rules.Rule.{Rule}
use Rattle.rule_files.specs.declared.rules.RuleFile.{RuleFile}
use Rattle.rule_delegations.specs.declared.places.RuleRef.{RuleRef}
use Rattle.rule_delegations.specs.declared.assembling.AssembleFault.TheVariants.{DuplicateName, Unreachable, TooDeep, TooMany, Memory}
use Rattle.rule_delegations.specs.Assembling.{IsCutOff, IsFirstDeep, IsLeast, IsTwice, OneFault}
use Rattle.rule_delegations.specs.Chains.{Before, IsBefore, last_place, last_rule, rule_at}
use Rattle.rule_delegations.specs.SchemaOne.{IsOfSchemaOne, ListsIds, SchemaOneSame, listed_ids, person_of}
use Rattle.rule_delegations.proofs.Orders.{Chain}

-- ---- one fault

one_least : (P : List ℕ → Type 0) (a b : List ℕ) → IsLeast P a → IsLeast P b → a ≡ b
one_least P a b first second = by_order (by_bytes a b) refl where
  by_order : (o : Ordering) → by_bytes a b ≡ o → a ≡ b
  by_order Less h = absurd (second.least a first.has h)
  by_order Equal h = exact_bytes a b h
  by_order Greater h = absurd (first.least b second.has (nat_list_cmp_total.antisymm b a ∙ ap ordering_reverse h))

places_ordered : (p q : RuleRef) → IsBefore p q ⊎ IsBefore q p ⊎ (p ≡ q)
places_ordered p q = elim (cases_lt p.file q.file) [
  | inl less ↦ inl (inl less)
  | inr no_less ↦ elim (cases_lt q.file p.file) [
    | inl more ↦ inr (inl (inl more))
    | inr no_more ↦
        let file : p.file ≡ q.file = omega (arith, no_less, no_more) in
        elim (cases_lt p.rule q.rule) [
          | inl early ↦ inl (inr (file, early))
          | inr no_early ↦ elim (cases_lt q.rule p.rule) [
            | inl late ↦ inr (inl (inr (sym file, late)))
            | inr no_late ↦ let rule : p.rule ≡ q.rule = omega (arith, no_early, no_late) in inr (inr (λ i. record { file = file i; rule = rule i }))
          ]
        ]
  ]
]

chains_ordered : (a b : Chain) → Before a b ⊎ Before b a ⊎ (a ≡ b)
chains_ordered [] [] = inr (inr refl)
chains_ordered [] (q ∷ qs) = inl tt
chains_ordered (p ∷ ps) [] = inr (inl tt)
chains_ordered (p ∷ ps) (q ∷ qs) = by_rest (chains_ordered ps qs) where
  by_rest : Before ps qs ⊎ Before qs ps ⊎ (ps ≡ qs) → Before (p ∷ ps) (q ∷ qs) ⊎ Before (q ∷ qs) (p ∷ ps) ⊎ (p ∷ ps ≡ q ∷ qs)
  by_rest rest = elim (places_ordered p q) [
    | inl before ↦ inl (inl before)
    | inr other ↦ elim other [
      | inl after ↦ inr (inl (inl after))
      | inr same ↦ elim rest [
        | inl before ↦ inl (inr (same, before))
        | inr more ↦ elim more [ inl after ↦ inr (inl (inr (sym same, after))) | inr rests ↦ inr (inr (cc)) ]
      ]
    ]
  ]

one_deep : (files : List RuleFile) (a b : List ℕ) → IsFirstDeep files a → IsFirstDeep files b → a ≡ b
one_deep files a b first second = elim (chains_ordered first.chain second.chain) [
  | inl before ↦ absurd (second.none_before first.chain first.deep before)
  | inr other ↦ elim other [
    | inl after ↦ absurd (first.none_before second.chain second.deep after)
    | inr same ↦
        let one : first.rule ≡ second.rule = let e : Some first.rule ≡ Some second.rule = sym first.last ∙ ap (last_rule files) same ∙ second.last in cc in
        sym first.named ∙ ap (λ (r : Rule). r.name) one ∙ second.named
  ]
]

pub one_fault : OneFault
one_fault files (DuplicateName a) (DuplicateName b) x y = ap DuplicateName (one_least (IsTwice files) a b x y)
one_fault files (DuplicateName a) (Unreachable b) x y = absurd (y.0 a x.has)
one_fault files (DuplicateName a) (TooDeep b) x y = absurd (y.0 a x.has)
one_fault files (DuplicateName a) (TooMany b) x y = absurd (y.0 a x.has)
one_fault files (DuplicateName a) Memory x y = absurd y
one_fault files (Unreachable a) (DuplicateName b) x y = absurd (x.0 b y.has)
one_fault files (Unreachable a) (Unreachable b) x y = ap Unreachable (one_least (IsCutOff files) a b x.1 y.1)
one_fault files (Unreachable a) (TooDeep b) x y = absurd (y.1 a x.1.has)
one_fault files (Unreachable a) (TooMany b) x y = absurd (y.1 a x.1.has)
one_fault files (Unreachable a) Memory x y = absurd y
one_fault files (TooDeep a) (DuplicateName b) x y = absurd (x.0 b y.has)
one_fault files (TooDeep a) (Unreachable b) x y = absurd (x.1 b y.1.has)
one_fault files (TooDeep a) (TooDeep b) x y = ap TooDeep (one_deep files a b x.2 y.2)
one_fault files (TooDeep a) (TooMany b) x y = absurd (y.2 a x.2)
one_fault files (TooDeep a) Memory x y = absurd y
one_fault files (TooMany a) (DuplicateName b) x y = absurd (x.0 b y.has)
one_fault files (TooMany a) (Unreachable b) x y = absurd (x.1 b y.1.has)
one_fault files (TooMany a) (TooDeep b) x y = absurd (x.2 b y.2)
one_fault files (TooMany a) (TooMany b) x y = let e : Some a ≡ Some b = sym x.3 ∙ y.3 in let same : a ≡ b = cc in ap TooMany same
one_fault files (TooMany a) Memory x y = absurd y
one_fault files Memory b x y = absurd x

-- ---- keys that are persons

or_none : (b : Bool) → (b || false) ≡ b
or_none true = refl
or_none false = refl

one_key : (signers : List (List ℕ)) (id : List ℕ) → has_signed signers (person_of id) ≡ has_key (λ other. other) signers id
one_key signers id = or_none (has_key (λ other. other) signers id)

count_front : {X : Type 0} (test : X → Bool) (x : X) (xs : List X) → count_by test (x ∷ xs) ≡ count_by test (x ∷ []) + count_by test xs
count_front test x xs = sum_by-append (λ y. cond (test y) 1 0) (x ∷ []) xs

count_persons : (signers : List (List ℕ)) (ids : List (List ℕ)) → count_in (map person_of ids) signers ≡ count_by (has_key (λ id. id) signers) (flat_map (λ (person : Person). person.keyids) (map person_of ids))
count_persons signers [] = refl
count_persons signers (id ∷ ids) =
    count_front (has_signed signers) (person_of id) (map person_of ids)
    ∙ ap (λ (b : Bool). 0 + cond b 1 0 + count_in (map person_of ids) signers) (one_key signers id)
    ∙ ap (λ (n : ℕ). count_by (has_key (λ other. other) signers) (id ∷ []) + n) (count_persons signers ids)
    ∙ sym (count_front (has_key (λ other. other) signers) id (flat_map (λ (person : Person). person.keyids) (map person_of ids)))

same_count : (rule : Rule) (signers : List (List ℕ)) → ListsIds rule → count_in rule.persons signers ≡ count_by (has_key (λ id. id) signers) (listed_ids rule)
same_count rule signers lists =
    ap (λ (ps : List Person). count_in ps signers) lists.persons ∙ count_persons signers lists.ids
    ∙ ap (λ (ps : List Person). count_by (has_key (λ id. id) signers) (flat_map (λ (person : Person). person.keyids) ps)) (sym lists.persons)

each_at : {X : Type 0} (P : X → Type 0) (xs : List X) (at : ℕ) (x : X) → AllByRecursion P xs → slice_get xs at ≡ Some x → P x
each_at P [] at x all is = absurd (cc is)
each_at P (y ∷ ys) Nat.zero x all is = let same : y ≡ x = cc in subst P same all.0
each_at P (y ∷ ys) (suc at) x all is = each_at P ys at x all.1 is

lists_at : (files : List RuleFile) (place : RuleRef) (rule : Rule) → AllByRecursion IsOfSchemaOne files → rule_at files place ≡ Some rule → ListsIds rule
lists_at files place rule all is = by_file (slice_get files place.file) refl is where
  by_file : (found : Option RuleFile) → slice_get files place.file ≡ found → option_and_then (λ file. slice_get file.rules place.rule) found ≡ Some rule → ListsIds rule
  by_file None h e = absurd (cc e)
  by_file (Some file) h e = each_at ListsIds file.rules place.rule rule (each_at IsOfSchemaOne files place.file file all h).lists e

pub schema_one_same : SchemaOneSame
schema_one_same files name signers all = (
  λ meets. elim meets [
    | inl none ↦ inl none
    | inr some ↦
        let (chain, met) = some in
        let same = same_count met.rule signers (lists_at files (last_place chain) met.rule all met.is) in
        inr (chain, record { reached = met.reached; rule = met.rule; is = met.is; enough = let e = met.enough in omega (arith, e, same) })
  ],
  λ meets. elim meets [
    | inl none ↦ inl none
    | inr some ↦
        let (chain, met) = some in
        let same = same_count met.rule signers (lists_at files (last_place chain) met.rule all met.is) in
        inr (chain, record { reached = met.reached; rule = met.rule; is = met.is; enough = let e = met.enough in omega (arith, e, same) })
  ],
)
