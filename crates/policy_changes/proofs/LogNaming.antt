-- The names with one more, and those of a longer log.
use Rattle.std.proofs.Common.{◌≡◌, ◌||◌, ◌++◌, ℕ, Bool, true, false, cond, List, [], ◌∷◌, refl, ap, sym, subst, ◌∙◌, inl, inr, append_assoc}
use Rattle.std.specs.List.{fold, list_any}
use Rattle.std.specs.Str.{bytes_eq}
use Rattle.std.proofs.Math.Bool.{or_assoc}
use Rattle.std.proofs.lemmas.Bool.{cases_Bool}
use Rattle.std.proofs.lemmas.List.{append-nil}
use Rattle.std.proofs.lemmas.List.Folds.{list_any-append}
use Rattle.std.proofs.lemmas.Slice.Eq.{bytes_eq-Decides}
use Rattle.rsl_chain.specs.Entries.{Taken, is_of}
use Rattle.rsl_chain.specs.declared.entries.EntryBody.{EntryBody}
use Rattle.rsl_chain.specs.declared.entries.EntryBody.TheVariants.{Reference, Annotation}
use Rattle.policy_changes.specs.LogLaws.{AreApart, AreNames}
use Rattle.policy_changes.specs.Names.{has_name, names_of, with_body, with_entry, with_name}

or_false : (b : Bool) → (b || false) ≡ b
or_false true = refl
or_false false = refl

or_true : (a b : Bool) → (a ≡ true) → (b ≡ true → a ≡ true) → (a || b) ≡ a
or_true true b is h = refl
or_true false b is h = absurd (cc is)

pub pushed_has : (names : List (List ℕ)) (name q : List ℕ) → has_name (names ++ name ∷ []) q ≡ (has_name names q || bytes_eq name q)
pushed_has names name q = list_any-append (λ other. bytes_eq other q) names (name ∷ []) ∙ ap (λ b. has_name names q || b) (or_false (bytes_eq name q))

there_is : (names : List (List ℕ)) (name q : List ℕ) → has_name names name ≡ true → has_name names q ≡ (has_name names q || bytes_eq name q)
there_is names name q there =
    elim (cases_Bool (bytes_eq name q)) [
      | inl is ↦
          let same : name ≡ q = (bytes_eq-Decides name q).0 is in
          let has : has_name names q ≡ true = ap (has_name names) (sym same) ∙ there in
          has ∙ sym (ap (λ b. b || bytes_eq name q) has)
      | inr isnt ↦ sym (ap (λ b. has_name names q || b) isnt ∙ or_false (has_name names q))
    ]

pub with_has : (names : List (List ℕ)) (name q : List ℕ) → has_name (with_name names name) q ≡ (has_name names q || bytes_eq name q)
with_has names name q =
    elim (cases_Bool (has_name names name)) [
      | inl there ↦ ap (λ b. has_name (cond b names (names ++ name ∷ [])) q) there ∙ there_is names name q there
      | inr isnt ↦ ap (λ b. has_name (cond b names (names ++ name ∷ [])) q) isnt ∙ pushed_has names name q
    ]

body_has : (names : List (List ℕ)) (body : EntryBody) (q : List ℕ) → has_name (with_body names body) q ≡ (has_name names q || is_of body q)
body_has names (Reference name target) q = with_has names name q
body_has names (Annotation ids skip message) q = sym (or_false (has_name names q))

from_has : (names : List (List ℕ)) (log : List Taken) (q : List ℕ) → has_name (fold with_entry names log) q ≡ (has_name names q || list_any (λ t. is_of t.entry.body q) log)
from_has names [] q = sym (or_false (has_name names q))
from_has names (t ∷ log) q =
    from_has (with_entry names t) log q
    ∙ ap (λ b. b || list_any (λ (x : Taken). is_of x.entry.body q) log) (body_has names t.entry.body q)
    ∙ or_assoc (has_name names q) (is_of t.entry.body q) (list_any (λ (x : Taken). is_of x.entry.body q) log)

-- ---- no two alike

apart_push : (names : List (List ℕ)) (name : List ℕ) → AreApart names → has_name names name ≡ false → AreApart (names ++ name ∷ [])
apart_push [] name apart new = (refl, tt)
apart_push (x ∷ names) name apart new =
    let other : (bytes_eq x name || has_name names name) ≡ false = new in
    elim (cases_Bool (bytes_eq x name)) [
      | inl is ↦ absurd (let clash : true ≡ false = sym (ap (λ b. b || has_name names name) is) ∙ other in cc clash)
      | inr isnt ↦
          let rest : has_name names name ≡ false = sym (ap (λ b. b || has_name names name) isnt) ∙ other in
          (pushed_has names name x ∙ ap (λ b. b || bytes_eq name x) apart.0 ∙ turned name x isnt, apart_push names name apart.1 rest)
    ]
  where
    turned : (a b : List ℕ) → bytes_eq b a ≡ false → bytes_eq a b ≡ false
    turned a b isnt =
        elim (cases_Bool (bytes_eq a b)) [
          | inl is ↦
              let same : b ≡ a = sym ((bytes_eq-Decides a b).0 is) in
              let clash : true ≡ false = sym ((bytes_eq-Decides b a).1 same) ∙ isnt in
              absurd (cc clash)
          | inr other ↦ other
        ]

apart_with : (names : List (List ℕ)) (name : List ℕ) → AreApart names → AreApart (with_name names name)
apart_with names name apart =
    elim (cases_Bool (has_name names name)) [
      | inl there ↦ subst (λ (b : Bool). AreApart (cond b names (names ++ name ∷ []))) (sym there) apart
      | inr isnt ↦ subst (λ (b : Bool). AreApart (cond b names (names ++ name ∷ []))) (sym isnt) (apart_push names name apart isnt)
    ]

apart_body : (names : List (List ℕ)) (body : EntryBody) → AreApart names → AreApart (with_body names body)
apart_body names (Reference name target) apart = apart_with names name apart
apart_body names (Annotation ids skip message) apart = apart

from_apart : (names : List (List ℕ)) (log : List Taken) → AreApart names → AreApart (fold with_entry names log)
from_apart names [] apart = apart
from_apart names (t ∷ log) apart = from_apart (with_entry names t) log (apart_body names t.entry.body apart)

-- ---- what is there stays

abbrev Longer : List (List ℕ) → List (List ℕ) → Type 0
Longer was now = (rest : List (List ℕ)) × (now ≡ was ++ rest)

longer_with : (names : List (List ℕ)) (name : List ℕ) → Longer names (with_name names name)
longer_with names name =
    elim (cases_Bool (has_name names name)) [
      | inl there ↦ ([], ap (λ b. cond b names (names ++ name ∷ [])) there ∙ sym (append-nil names))
      | inr isnt ↦ (name ∷ [], ap (λ b. cond b names (names ++ name ∷ [])) isnt)
    ]

longer_body : (names : List (List ℕ)) (body : EntryBody) → Longer names (with_body names body)
longer_body names (Reference name target) = longer_with names name
longer_body names (Annotation ids skip message) = ([], sym (append-nil names))

from_longer : (names : List (List ℕ)) (log : List Taken) → Longer names (fold with_entry names log)
from_longer names [] = ([], sym (append-nil names))
from_longer names (t ∷ log) =
    let one = longer_body names t.entry.body in
    let rest = from_longer (with_entry names t) log in
    (one.0 ++ rest.0, rest.1 ∙ ap (λ (xs : List (List ℕ)). xs ++ rest.0) one.1 ∙ append_assoc names one.0 rest.0)

from_append : (names : List (List ℕ)) (log more : List Taken) → fold with_entry names (log ++ more) ≡ fold with_entry (fold with_entry names log) more
from_append names [] more = refl
from_append names (t ∷ log) more = from_append (with_entry names t) log more

pub are_names : (log : List Taken) → AreNames log
are_names log = record {
  spoken = λ name. from_has [] log name;
  apart = from_apart [] log tt;
  stay = λ more.
      let longer = from_longer (names_of log) more in
      (longer.0, from_append [] log more ∙ longer.1);
}

pub names_push : (log : List Taken) (t : Taken) → names_of (log ++ t ∷ []) ≡ with_body (names_of log) t.entry.body
names_push log t = from_append [] log (t ∷ [])
