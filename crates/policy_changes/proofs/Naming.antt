-- Who is named, and who is not.
use Rattle.std.proofs.Common.{◌≡◌, ◌&&◌, ◌||◌, ◌++◌, ◌∷◌, ℕ, Bool, true, false, cond, not, map, List, [], Option, Some, None, refl, ap, sym, ◌∙◌, inl, inr, append_assoc}
use Rattle.std.specs.List.{filter, fold, list_any}
use Rattle.std.specs.Str.{bytes_eq}
use Rattle.std.proofs.Math.Bool.{or_assoc}
use Rattle.std.proofs.lemmas.Bool.{cases_Bool, true≢false}
use Rattle.std.proofs.lemmas.Grind.{fold-append}
use Rattle.std.proofs.lemmas.List.{append-nil}
use Rattle.std.proofs.lemmas.List.Elements.{filter-append}
use Rattle.std.proofs.lemmas.List.Folds.{list_any-append}
use Rattle.std.proofs.lemmas.Slice.Eq.{bytes_eq-Decides}
use Rattle.root_metadata.specs.declared.persons.Person.{Person}
use Rattle.rule_files.specs.declared.rules.RuleFile.{RuleFile}
use Rattle.policy_changes.specs.LogLaws.{AreApart}
use Rattle.policy_changes.specs.Names.{has_name, with_name}
use Rattle.policy_changes.proofs.LogNaming.{pushed_has, with_has}
use Rattle.policy_epochs.specs.declared.policies.Policy.{Policy}
use Rattle.policy_changes.specs.PersonLaws.{NamedWhere, is_held}
use Rattle.policy_changes.specs.Persons.{each_once, file_holders, holders, holds, others, persons_of}

or_false : (b : Bool) → (b || false) ≡ b
or_false true = refl
or_false false = refl

-- ---- what one is added to after the other has each once

abbrev without : List (List ℕ) → List (List ℕ) → List (List ℕ)
without names more = filter (λ name. not (has_name names name)) more

module _ (p q r : List ℕ → Bool) (same : (y : List ℕ) → (q y && p y) ≡ r y) where
  by_first : (b : Bool) (y : List ℕ) (us ws : List (List ℕ)) → filter p us ≡ ws → filter p (cond b (y ∷ us) us) ≡ cond (b && p y) (y ∷ ws) ws
  by_first true y us ws is = ap (λ (ts : List (List ℕ)). cond (p y) (y ∷ ts) ts) is
  by_first false y us ws is = is

  filter_both : (ys : List (List ℕ)) → filter p (filter q ys) ≡ filter r ys
  filter_both [] = refl
  filter_both (y ∷ ys) =
      by_first (q y) y (filter q ys) (filter r ys) (filter_both ys) ∙ ap (λ (b : Bool). cond b (y ∷ filter r ys) (filter r ys)) (same y)

neither : (a b : Bool) → (not b && not a) ≡ not (a || b)
neither true true = refl
neither true false = refl
neither false true = refl
neither false false = refl

among : (names : List (List ℕ)) (x y : List ℕ) → has_name names x ≡ true → (not (bytes_eq x y) && not (has_name names y)) ≡ not (has_name names y)
among names x y there = elim (cases_Bool (bytes_eq x y)) [
  | inl is ↦
      let has : has_name names y ≡ true = ap (has_name names) (sym ((bytes_eq-Decides x y).0 is)) ∙ there in
      ap (λ (b : Bool). not b && not (has_name names y)) is ∙ sym (ap not has)
  | inr isnt ↦ ap (λ (b : Bool). not b && not (has_name names y)) isnt
]

added : (names more : List (List ℕ)) → fold with_name names more ≡ names ++ without names (each_once more)
added names [] = sym (append-nil names)
added names (x ∷ more) = elim (cases_Bool (has_name names x)) [
  | inl there ↦
      let stays : with_name names x ≡ names = ap (λ (b : Bool). cond b names (names ++ x ∷ [])) there in
      let rest : without names (others x (each_once more)) ≡ without names (each_once more) =
      filter_both _ _ _ (λ y. among names x y there) (each_once more) in
      ap (λ (ns : List (List ℕ)). fold with_name ns more) stays ∙ added names more ∙ ap (λ (ns : List (List ℕ)). names ++ ns) (sym rest)
      ∙ ap (λ (b : Bool). names ++ cond (not b) (x ∷ without names (others x (each_once more))) (without names (others x (each_once more)))) (sym there)
  | inr isnt ↦
      let pushes : with_name names x ≡ names ++ x ∷ [] = ap (λ (b : Bool). cond b names (names ++ x ∷ [])) isnt in
      let rest : without names (others x (each_once more)) ≡ without (names ++ x ∷ []) (each_once more) =
      filter_both _ _ _ (λ y. neither (has_name names y) (bytes_eq x y) ∙ ap not (sym (pushed_has names x y))) (each_once more) in
      ap (λ (ns : List (List ℕ)). fold with_name ns more) pushes ∙ added (names ++ x ∷ []) more
      ∙ append_assoc names (x ∷ []) (without (names ++ x ∷ []) (each_once more)) ∙ ap (λ (ns : List (List ℕ)). names ++ x ∷ ns) (sym rest)
      ∙ ap (λ (b : Bool). names ++ cond (not b) (x ∷ without names (others x (each_once more))) (without names (others x (each_once more)))) (sym isnt)
]

all_stay : (names : List (List ℕ)) → without [] names ≡ names
all_stay [] = refl
all_stay (name ∷ names) = ap (λ (ns : List (List ℕ)). name ∷ ns) (all_stay names)

once_is : (names : List (List ℕ)) → fold with_name [] names ≡ each_once names
once_is names = added [] names ∙ all_stay (each_once names)

pub both_parts : (keys root now : List (List ℕ)) (policy : Policy) → root ≡ fold with_name [] (holders keys policy.root.persons)
    → now ≡ fold with_name root (file_holders keys policy.rules) → now ≡ persons_of (Some policy) keys
both_parts keys root now policy first next =
    next ∙ ap (λ (ns : List (List ℕ)). fold with_name ns (file_holders keys policy.rules)) first
    ∙ sym (fold-append with_name [] (holders keys policy.root.persons) (file_holders keys policy.rules))
    ∙ once_is (holders keys policy.root.persons ++ file_holders keys policy.rules)

-- ---- which are there

fold_has : (names more : List (List ℕ)) (q : List ℕ) → has_name (fold with_name names more) q ≡ (has_name names q || has_name more q)
fold_has names [] q = sym (or_false (has_name names q))
fold_has names (x ∷ more) q =
    fold_has (with_name names x) more q ∙ ap (λ (b : Bool). b || has_name more q) (with_has names x q)
    ∙ or_assoc (has_name names q) (bytes_eq x q) (has_name more q)

once_has : (names : List (List ℕ)) (q : List ℕ) → has_name (each_once names) q ≡ has_name names q
once_has names q = ap (λ (ns : List (List ℕ)). has_name ns q) (sym (once_is names)) ∙ fold_has [] names q

holders_have : (keys : List (List ℕ)) (q : List ℕ) (persons : List Person) → has_name (holders keys persons) q ≡ is_held keys q persons
holders_have keys q [] = refl
holders_have keys q (person ∷ persons) = by (holds keys person) ∙ ap (λ (b : Bool). (holds keys person && bytes_eq person.name q) || b) (holders_have keys q persons)
  where
    by : (b : Bool) → has_name (map (λ (p : Person). p.name) (cond b (person ∷ filter (holds keys) persons) (filter (holds keys) persons))) q
        ≡ ((b && bytes_eq person.name q) || has_name (holders keys persons) q)
    by true = refl
    by false = refl

files_have : (keys : List (List ℕ)) (q : List ℕ) (files : List RuleFile) → has_name (file_holders keys files) q ≡ list_any (λ file. is_held keys q file.persons) files
files_have keys q [] = refl
files_have keys q (file ∷ files) =
    list_any-append (λ other. bytes_eq other q) (holders keys file.persons) (file_holders keys files)
    ∙ ap (λ (b : Bool). b || has_name (file_holders keys files) q) (holders_have keys q file.persons)
    ∙ ap (λ (b : Bool). is_held keys q file.persons || b) (files_have keys q files)

named : (policy : Policy) (keys : List (List ℕ)) (name : List ℕ)
    → has_name (persons_of (Some policy) keys) name ≡ (is_held keys name policy.root.persons || list_any (λ file. is_held keys name file.persons) policy.rules)
named policy keys name =
    once_has (holders keys policy.root.persons ++ file_holders keys policy.rules) name
    ∙ list_any-append (λ other. bytes_eq other name) (holders keys policy.root.persons) (file_holders keys policy.rules)
    ∙ ap (λ (b : Bool). b || has_name (file_holders keys policy.rules) name) (holders_have keys name policy.root.persons)
    ∙ ap (λ (b : Bool). is_held keys name policy.root.persons || b) (files_have keys name policy.rules)

-- ---- each once

fewer : (p : List ℕ → Bool) (names : List (List ℕ)) (q : List ℕ) → has_name names q ≡ false → has_name (filter p names) q ≡ false
fewer p [] q none = refl
fewer p (x ∷ names) q none =
    let parts = or_parts (bytes_eq x q) (has_name names q) none in
    by (p x) parts.0 (fewer p names q parts.1)
  where
    or_parts : (a b : Bool) → (a || b) ≡ false → (a ≡ false) × (b ≡ false)
    or_parts true b never = absurd (true≢false never)
    or_parts false b is = (refl, is)

    by : (b : Bool) → bytes_eq x q ≡ false → has_name (filter p names) q ≡ false → has_name (cond b (x ∷ filter p names) (filter p names)) q ≡ false
    by true isnt rest = ap (λ (t : Bool). t || has_name (filter p names) q) isnt ∙ rest
    by false isnt rest = rest

apart_by : (p : List ℕ → Bool) (x : List ℕ) (names : List (List ℕ)) → has_name (filter p names) x ≡ false → AreApart (filter p names)
    → (b : Bool) → AreApart (cond b (x ∷ filter p names) (filter p names))
apart_by p x names none rest true = (none, rest)
apart_by p x names none rest false = rest

apart_filter : (p : List ℕ → Bool) (names : List (List ℕ)) → AreApart names → AreApart (filter p names)
apart_filter p [] apart = tt
apart_filter p (x ∷ names) apart = apart_by p x names (fewer p names x apart.0) (apart_filter p names apart.1) (p x)

turned : (a b : List ℕ) → bytes_eq a b ≡ false → bytes_eq b a ≡ false
turned a b isnt = elim (cases_Bool (bytes_eq b a)) [
  | inl is ↦ absurd (true≢false (sym ((bytes_eq-Decides a b).1 (sym ((bytes_eq-Decides b a).0 is))) ∙ isnt))
  | inr other ↦ other
]

no_more : (name : List ℕ) (names : List (List ℕ)) → has_name (others name names) name ≡ false
no_more name [] = refl
no_more name (x ∷ names) = elim (cases_Bool (bytes_eq name x)) [
  | inl is ↦ ap (λ (b : Bool). has_name (cond (not b) (x ∷ others name names) (others name names)) name) is ∙ no_more name names
  | inr isnt ↦
      ap (λ (b : Bool). has_name (cond (not b) (x ∷ others name names) (others name names)) name) isnt
      ∙ ap (λ (b : Bool). b || has_name (others name names) name) (turned name x isnt) ∙ no_more name names
]

once_apart : (names : List (List ℕ)) → AreApart (each_once names)
once_apart [] = tt
once_apart (name ∷ names) = (no_more name (each_once names), apart_filter (λ other. not (bytes_eq name other)) (each_once names) (once_apart names))

apart : (policy : Option Policy) (keys : List (List ℕ)) → AreApart (persons_of policy keys)
apart None keys = tt
apart (Some policy) keys = once_apart (holders keys policy.root.persons ++ file_holders keys policy.rules)

stay : (names more : List (List ℕ)) → (rest : List (List ℕ)) × (each_once (names ++ more) ≡ each_once names ++ rest)
stay [] more = (each_once more, refl)
stay (name ∷ names) more =
    let later = stay names more in
    (others name later.0, ap (λ (ns : List (List ℕ)). name ∷ ns) (ap (others name) later.1 ∙ filter-append (λ other. not (bytes_eq name other)) (each_once names) later.0))

-- ---- nobody

none_held : (ids : List (List ℕ)) → list_any (λ id. list_any (λ key. bytes_eq key id) []) ids ≡ false
none_held [] = refl
none_held (id ∷ ids) = none_held ids

no_holder : (persons : List Person) → holders [] persons ≡ []
no_holder [] = refl
no_holder (person ∷ persons) =
    ap (λ (b : Bool). map (λ (p : Person). p.name) (cond b (person ∷ filter (holds []) persons) (filter (holds []) persons))) (none_held person.keyids)
    ∙ no_holder persons

no_file : (files : List RuleFile) → file_holders [] files ≡ []
no_file [] = refl
no_file (file ∷ files) = ap (λ (ns : List (List ℕ)). ns ++ file_holders [] files) (no_holder file.persons) ∙ no_file files

pub nobody : (policy : Option Policy) → persons_of policy [] ≡ []
nobody None = refl
nobody (Some policy) =
    ap (λ (ns : List (List ℕ)). each_once (ns ++ file_holders [] policy.rules)) (no_holder policy.root.persons) ∙ ap each_once (no_file policy.rules)

pub named_where : NamedWhere
named_where = record { named = named; apart = apart; stay = stay; nobody = nobody }
