-- Names that are noted, and the least of a set.
use Rattle.std.proofs.Common.{◌≡◌, ◌⊎◌, ◌+◌, ◌++◌, ◌||◌, ◌&&◌, ◌<◌, ℕ, Bool, true, false, cond, List, [], ◌∷◌, Option, Some, None, refl, sym, ap, ◌∙◌, inl, inr, arith, length}
use Rattle.std.specs.Prelude.{nat_le, IsSome, not}
use Rattle.std.specs.List.{list_any}
use Rattle.std.specs.Ordering.{is_eq, is_gt, ordering_reverse}
use Rattle.std.specs.Str.{bytes_eq}
use Rattle.std.specs.BTreeSet.{BTreeSet, contains, IsLowerBound}
use Rattle.std.specs.declared.cmp.Ordering.TheVariants.{Greater}
use Rattle.std.proofs.lemmas.Bool.{cases_lt, false≢true, le-leb, leb-true, lt-leb}
use Rattle.std.proofs.lemmas.Cmp.{nat_list_cmp_total}
use Rattle.std.proofs.lemmas.List.{nil_from_length}
use Rattle.std.proofs.lemmas.List.Sums.{sum_by-append}
use Rattle.std.proofs.lemmas.Map.Text.{is_eq-slice_cmp}
use Rattle.std.proofs.lemmas.Slice.Eq.{bytes_eq-Decides}
use Rattle.octets.specs.BytesMap.{by_bytes}
use Rattle.rule_files.specs.declared.rules.RuleFile.{RuleFile}
use Rattle.rule_delegations.specs.Assembling.{IsFirstName, IsTwice, file_names, rule_names, times}
use Rattle.rule_delegations.specs.Seen.{IsSeen, Notes}
use Rattle.rule_delegations.specs.declared.twice.Seen.{Seen}

pub same_either_way : (a b : List ℕ) → bytes_eq a b ≡ bytes_eq b a
same_either_way a b = by_first (bytes_eq a b) (bytes_eq b a) refl refl where
  by_first : (x y : Bool) → bytes_eq a b ≡ x → bytes_eq b a ≡ y → bytes_eq a b ≡ bytes_eq b a
  by_first true true h k = h ∙ sym k
  by_first false false h k = h ∙ sym k
  by_first true false h k = absurd (false≢true (sym k ∙ (bytes_eq-Decides b a).1 (sym ((bytes_eq-Decides a b).0 h))))
  by_first false true h k = absurd (false≢true (sym h ∙ (bytes_eq-Decides a b).1 (sym ((bytes_eq-Decides b a).0 k))))

pub is_at_name : (name q : List ℕ) → is_eq (by_bytes name q) ≡ bytes_eq q name
is_at_name name q = is_eq-slice_cmp name q ∙ same_either_way name q

pub times_push : (q name : List ℕ) (had : List (List ℕ)) → times q (had ++ name ∷ []) ≡ times q had + cond (bytes_eq q name) 1 0
times_push q name had =
    let one : 0 + cond (bytes_eq q name) 1 0 ≡ cond (bytes_eq q name) 1 0 = omega arith in
    sum_by-append (λ x. cond (bytes_eq q x) 1 0) had (name ∷ []) ∙ ap (λ (k : ℕ). times q had + k) one

seen_once : (b : Bool) (n : ℕ) → cond b true (nat_le 1 n) ≡ nat_le 1 (n + cond b 1 0)
seen_once true n = sym (le-leb 1 (n + 1) (omega arith))
seen_once false n = ap (λ (k : ℕ). nat_le 1 k) (omega arith)

first_time : (b : Bool) (n : ℕ) → (b ≡ true → nat_le 1 n ≡ false) → nat_le 2 n ≡ nat_le 2 (n + cond b 1 0)
first_time false n fresh = ap (λ (k : ℕ). nat_le 2 k) (omega arith)
first_time true n fresh = elim (cases_lt n 1) [
  | inl none ↦ lt-leb 2 n (omega arith) ∙ sym (lt-leb 2 (n + 1) (omega arith))
  | inr some ↦ absurd (false≢true (sym (fresh refl) ∙ le-leb 1 n some))
]

later_time : (b was : Bool) (n : ℕ) → (b ≡ true → nat_le 1 n ≡ true) → cond b true (was || nat_le 2 n) ≡ (was || nat_le 2 (n + cond b 1 0))
later_time false was n had = ap (λ (k : ℕ). was || nat_le 2 k) (omega arith)
later_time true was n had = let some = leb-true 1 n (had refl) in by_was was (le-leb 2 (n + 1) (omega arith)) where
  by_was : (w : Bool) → nat_le 2 (n + 1) ≡ true → true ≡ (w || nat_le 2 (n + 1))
  by_was true h = refl
  by_was false h = sym h

pub was_there : (is_new there : Bool) → is_new ≡ not there → is_new ≡ false → there ≡ true
was_there is_new true e old = refl
was_there is_new false e old = absurd (false≢true (sym old ∙ e))

pub was_not_there : (is_new there : Bool) → is_new ≡ not there → is_new ≡ true → there ≡ false
was_not_there is_new true e new = absurd (false≢true (sym e ∙ new))
was_not_there is_new false e new = refl

-- what a set holds to which a copy of the name was added
pub added : (name key : List ℕ) (old new : BTreeSet (List ℕ)) → key ≡ name → ((q : List ℕ) → contains by_bytes new q ≡ cond (is_eq (by_bytes key q)) true (contains by_bytes old q))
    → (q : List ℕ) → contains by_bytes new q ≡ cond (is_eq (by_bytes name q)) true (contains by_bytes old q)
added name key old new same put q = put q ∙ ap (λ (k : List ℕ). cond (is_eq (by_bytes k q)) true (contains by_bytes old q)) same

-- the same, as an or
pub added_or : (name key : List ℕ) (old new : BTreeSet (List ℕ)) (marked : Bool) → marked ≡ false → key ≡ name → ((q : List ℕ) → contains by_bytes new q ≡ cond (is_eq (by_bytes key q)) true (contains by_bytes old q))
    → (q : List ℕ) → contains by_bytes new q ≡ (contains by_bytes old q || (not marked && bytes_eq q name))
added_or name key old new marked none same put q =
    added name key old new same put q ∙ ap (λ (b : Bool). cond b true (contains by_bytes old q)) (is_at_name name q) ∙ by_test (bytes_eq q name) (contains by_bytes old q)
    ∙ ap (λ (b : Bool). contains by_bytes old q || (not b && bytes_eq q name)) (sym none) where
      by_test : (b was : Bool) → cond b true was ≡ (was || (true && b))
      by_test true true = refl
      by_test true false = refl
      by_test false true = refl
      by_test false false = refl

module _ (old new : Seen) (name : List ℕ) (noted : (q : List ℕ) → contains by_bytes new.once q ≡ cond (is_eq (by_bytes name q)) true (contains by_bytes old.once q)) where
  noted_once : (before : List ℕ → Bool) (had : List (List ℕ)) → IsSeen before old had → (q : List ℕ) → contains by_bytes new.once q ≡ nat_le 1 (times q (had ++ name ∷ []))
  noted_once before had seen q =
      noted q ∙ ap (λ (b : Bool). cond b true (contains by_bytes old.once q)) (is_at_name name q) ∙ ap (λ (b : Bool). cond (bytes_eq q name) true b) (seen.once q)
      ∙ seen_once (bytes_eq q name) (times q had) ∙ ap (λ (k : ℕ). nat_le 1 k) (sym (times_push q name had))

  at_name : (before : List ℕ → Bool) (had : List (List ℕ)) (was : Bool) → IsSeen before old had → contains by_bytes old.once name ≡ was → (q : List ℕ) → bytes_eq q name ≡ true → nat_le 1 (times q had) ≡ was
  at_name before had was seen is q same =
      let one = (bytes_eq-Decides q name).0 same in
      ap (λ (x : List ℕ). nat_le 1 (times x had)) one ∙ sym (seen.once name) ∙ is

  pub note_new : contains by_bytes old.once name ≡ false → new.twice ≡ old.twice → Notes old new (name ∷ [])
  note_new fresh same before had seen = record {
    once = noted_once before had seen;
    twice = λ q.
        ap (λ (s : BTreeSet (List ℕ)). contains by_bytes s q) same ∙ seen.twice q
        ∙ ap (λ (b : Bool). before q || b) (first_time (bytes_eq q name) (times q had) (at_name before had false seen fresh q)) ∙ ap (λ (k : ℕ). before q || nat_le 2 k) (sym (times_push q name had));
  }

  pub note_again : contains by_bytes old.once name ≡ true → ((q : List ℕ) → contains by_bytes new.twice q ≡ cond (is_eq (by_bytes name q)) true (contains by_bytes old.twice q)) → Notes old new (name ∷ [])
  note_again had_it twice before had seen = record {
    once = noted_once before had seen;
    twice = λ q.
        twice q ∙ ap (λ (b : Bool). cond b true (contains by_bytes old.twice q)) (is_at_name name q) ∙ ap (λ (b : Bool). cond (bytes_eq q name) true b) (seen.twice q)
        ∙ later_time (bytes_eq q name) (before q) (times q had) (at_name before had true seen had_it q) ∙ ap (λ (k : ℕ). before q || nat_le 2 k) (sym (times_push q name had));
  }

-- ---- the least of a set

pub first_of_set : (P : List ℕ → Type 0) (set : BTreeSet (List ℕ)) (first : Option (List ℕ)) → ((q : List ℕ) → contains by_bytes set q ≡ true → P q) → ((q : List ℕ) → P q → contains by_bytes set q ≡ true)
    → (0 < length set.keys → IsSome first) → ((name : List ℕ) → first ≡ Some name → contains by_bytes set name ≡ true) → ((name : List ℕ) → first ≡ Some name → IsLowerBound by_bytes set name) → IsFirstName P first
first_of_set P set None from to some member least = λ q has.
    let nothing : set.keys ≡ [] = nil_from_length set.keys (elim (cases_lt 0 (length set.keys)) [ inl more ↦ absurd (false≢true (some more)) | inr none ↦ omega arith ]) in
    let there = to q has in
    false≢true (ap (λ (ks : List (List ℕ)). list_any (λ k. is_eq (by_bytes q k)) ks) (sym nothing) ∙ there)
first_of_set P set (Some name) from to some member least = record {
  has = from name (member name refl);
  least = λ other has less.
      let never = least name refl other (to other has) in
      let back : by_bytes name other ≡ Greater = nat_list_cmp_total.antisymm name other ∙ ap ordering_reverse less in
      false≢true (sym never ∙ ap is_gt back);
}

-- ---- names that stand twice among rules or among files

or_none : (b : Bool) → (b || false) ≡ b
or_none true = refl
or_none false = refl

either_true : (a b : Bool) → (a || b) ≡ true → (a ≡ true) ⊎ (b ≡ true)
either_true true b e = inl refl
either_true false b e = inr e

or_left : (a b : Bool) → a ≡ true → (a || b) ≡ true
or_left true b e = refl
or_left false b e = absurd (false≢true e)

or_right : (a b : Bool) → b ≡ true → (a || b) ≡ true
or_right true b e = refl
or_right false b e = e

module _ (files : List RuleFile) (none1 none2 none3 : BTreeSet (List ℕ)) (is1 : none1.keys ≡ []) (is2 : none2.keys ≡ []) (is3 : none3.keys ≡ []) (rules both : Seen) where
  in_none : (set : BTreeSet (List ℕ)) → set.keys ≡ [] → (q : List ℕ) → contains by_bytes set q ≡ false
  in_none set is q = ap (λ (ks : List (List ℕ)). list_any (λ k. is_eq (by_bytes q k)) ks) is

  pub twice_in_both : Notes (record { once = none1; twice = none2 }) rules (rule_names files) → Notes (record { once = none3; twice = rules.twice }) both (file_names files)
      → (q : List ℕ) → contains by_bytes both.twice q ≡ (nat_le 2 (times q (rule_names files)) || nat_le 2 (times q (file_names files)))
  twice_in_both first second q =
      let seen_rules = first (λ _. false) [] (record { once = in_none none1 is1; twice = in_none none2 is2 }) in
      let seen_files = second (λ x. nat_le 2 (times x (rule_names files))) []
      (record { once = in_none none3 is3; twice = λ x. seen_rules.twice x ∙ sym (or_none (nat_le 2 (times x (rule_names files)))) }) in
      seen_files.twice q

  pub first_twice : Notes (record { once = none1; twice = none2 }) rules (rule_names files) → Notes (record { once = none3; twice = rules.twice }) both (file_names files) → (first : Option (List ℕ))
      → (0 < length both.twice.keys → IsSome first) → ((name : List ℕ) → first ≡ Some name → contains by_bytes both.twice name ≡ true) → ((name : List ℕ) → first ≡ Some name → IsLowerBound by_bytes both.twice name)
      → IsFirstName (IsTwice files) first
  first_twice one two first some member least = first_of_set (IsTwice files) both.twice first
      (λ q has. elim (either_true _ _ (sym (twice_in_both one two q) ∙ has)) [
        | inl in_rules ↦ inl (leb-true 2 (times q (rule_names files)) in_rules)
        | inr in_files ↦ inr (leb-true 2 (times q (file_names files)) in_files)
      ])
      (λ q twice. twice_in_both one two q ∙ elim twice [
        | inl in_rules ↦ or_left _ _ (le-leb 2 (times q (rule_names files)) in_rules)
        | inr in_files ↦ or_right _ _ (le-leb 2 (times q (file_names files)) in_files)
      ])
      some member least
