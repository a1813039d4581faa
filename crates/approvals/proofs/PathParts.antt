-- The names of an approval's path.
use Rattle.std.proofs.Common.{◌≡◌, ◌≢◌, ℕ, suc, ◌+◌, ◌≤◌, ◌==◌, Bool, true, false, not, cond, ◌&&◌, ◌||◌, List, [], ◌∷◌, ◌++◌, length, refl, sym, ap, subst, ◌∙◌, arith, length-append, append-nil}
use Rattle.std.specs.Prelude.{codes, nat_le}
use Rattle.std.specs.Bool.{nat_eq}
use Rattle.std.specs.List.{AllByRecursion, AllPass, ends_with, list_all, onto_first, starts_with}
use Rattle.std.proofs.lemmas.Bool.{and_parts, cases_eq, false≢true, leb-true, ne_eqb, true≢false}
use Rattle.std.proofs.lemmas.List.Elements.{All-head, All-tail}
use Rattle.std.proofs.lemmas.List.Folds.{list_any-append}
use Rattle.hex.specs.Hex.{encode_lower}
use Rattle.text_reader.specs.Hexadecimal.{is_lower_digit}
use Rattle.text_reader.specs.Line.{has_byte}
use Rattle.git_object.specs.Ids.{IsId}
use Rattle.git_object.specs.Names.{IsRefName, components, is_component, is_plain, is_special}
use Rattle.git_object.specs.Trees.{IsEntryName}
use Rattle.git_object.proofs.IdLemmas.{id_is_lower, length-hexadecimal}
use Rattle.git_object.proofs.NamesAloud.{no_slash}
use Rattle.tree_paths.proofs.PathNames.{cut_parts, plain_parts, some_parts}
use Rattle.approvals.specs.Approvals.{approval_path}

-- ---- the parts of two texts with a slash between them

onto_append : (x : ℕ) (us vs : List (List ℕ)) → us ≢ [] → onto_first x (us ++ vs) ≡ onto_first x us ++ vs
onto_append x [] vs some = absurd (some refl)
onto_append x (u ∷ us) vs some = refl

cut_append : (x : ℕ) (b : Bool) (us vs : List (List ℕ)) → us ≢ [] → cond b ([] ∷ (us ++ vs)) (onto_first x (us ++ vs)) ≡ cond b ([] ∷ us) (onto_first x us) ++ vs
cut_append x true us vs some = refl
cut_append x false us vs some = onto_append x us vs some

pub parts_append : (name rest : List ℕ) → components (name ++ 47 ∷ rest) ≡ components name ++ components rest
parts_append [] rest = refl
parts_append (x ∷ name) rest =
    ap (λ (parts : List (List ℕ)). cond (x == 47) ([] ∷ parts) (onto_first x parts)) (parts_append name rest)
    ∙ cut_append x (x == 47) (components name) (components rest) (some_parts name)

-- ---- bytes that a text does not hold

or_false : (a b : Bool) → (a || b) ≡ false → (a ≡ false) × (b ≡ false)
or_false true b e = absurd (true≢false e)
or_false false b e = (refl, e)

both_false : (a b : Bool) → a ≡ false → b ≡ false → (a || b) ≡ false
both_false true b e f = absurd (true≢false e)
both_false false b e f = f

lacks_append : (c : ℕ) (a b : List ℕ) → has_byte c a ≡ false → has_byte c b ≡ false → has_byte c (a ++ b) ≡ false
lacks_append c a b p q = list_any-append (λ (d : ℕ). d == c) a b ∙ both_false (has_byte c a) (has_byte c b) p q

-- a byte that stands nowhere stands in no part
onto_lacks : (c x : ℕ) (parts : List (List ℕ)) → (x == c) ≡ false → AllByRecursion (λ part. has_byte c part ≡ false) parts → AllByRecursion (λ part. has_byte c part ≡ false) (onto_first x parts)
onto_lacks c x [] other all = (both_false (x == c) false other refl, tt)
onto_lacks c x (part ∷ parts) other all = (both_false (x == c) (has_byte c part) other all.0, all.1)

cut_lacks : (c x : ℕ) (b : Bool) (parts : List (List ℕ)) → (x == c) ≡ false → AllByRecursion (λ part. has_byte c part ≡ false) parts
    → AllByRecursion (λ part. has_byte c part ≡ false) (cond b ([] ∷ parts) (onto_first x parts))
cut_lacks c x true parts other all = (refl, all)
cut_lacks c x false parts other all = onto_lacks c x parts other all

parts_lack : (c : ℕ) (text : List ℕ) → has_byte c text ≡ false → AllByRecursion (λ part. has_byte c part ≡ false) (components text)
parts_lack c [] none = (refl, tt)
parts_lack c (x ∷ text) none =
    let both = or_false (x == c) (has_byte c text) none in
    cut_lacks c x (x == 47) (components text) both.0 (parts_lack c text both.1)

digits_lack : (c : ℕ) (text : List ℕ) → is_lower_digit c ≡ false → AllPass is_lower_digit text → has_byte c text ≡ false
digits_lack c [] other all = refl
digits_lack c (d ∷ text) other all =
    let P : ℕ → Type 0 = λ x. is_lower_digit x ≡ true in
    let here : (d == c) ≡ false = ne_eqb d c (λ same. true≢false (sym (All-head P d text all) ∙ ap is_lower_digit same ∙ other)) in
    both_false (d == c) (has_byte c text) here (digits_lack c text other (All-tail P d text all))

plain_lacks_zero : (text : List ℕ) → list_all is_plain text ≡ true → has_byte 0 text ≡ false
plain_lacks_zero [] plain = refl
plain_lacks_zero (b ∷ text) plain =
    let parts = and_parts (is_plain b) (list_all is_plain text) plain in
    let first = and_parts (nat_le 33 b && not (b == 127)) (not (is_special b)) parts.0 in
    let low : 33 ≤ b = leb-true 33 b (and_parts (nat_le 33 b) (not (b == 127)) first.0).0 in
    both_false (b == 0) (has_byte 0 text) (ne_eqb b 0 (λ e. omega arith)) (plain_lacks_zero text parts.1)

-- ---- the parts of a reference name

component_named : (part : List ℕ) → is_component part ≡ true → has_byte 47 part ≡ false → has_byte 0 part ≡ false → IsEntryName part
component_named part whole no_slash no_zero = record {
  some = λ e. false≢true (sym (ap (λ (p : List ℕ). not (length p == 0)) e) ∙ first.0);
  no_slash = no_slash;
  no_zero = no_zero;
  no_dot = λ e. false≢true (sym (ap (λ (p : List ℕ). not (starts_with nat_eq p (codes "."))) e) ∙ first.1);
  no_dots = λ e. false≢true (sym (ap (λ (p : List ℕ). not (starts_with nat_eq p (codes "."))) e) ∙ first.1);
  no_git = λ e. false≢true (sym (ap (λ (p : List ℕ). not (starts_with nat_eq p (codes "."))) e) ∙ first.1);
}
  where
    first : (not (length part == 0) ≡ true) × (not (starts_with nat_eq part (codes ".")) ≡ true)
    first =
        let front = and_parts (not (length part == 0) && not (starts_with nat_eq part (codes "."))) (not (ends_with nat_eq part (codes ".lock"))) whole in
        and_parts (not (length part == 0)) (not (starts_with nat_eq part (codes "."))) front.0

parts_named : (parts : List (List ℕ)) → list_all is_component parts ≡ true → AllByRecursion (λ part. has_byte 47 part ≡ false) parts
    → AllByRecursion (λ part. has_byte 0 part ≡ false) parts → AllByRecursion IsEntryName parts
parts_named [] whole slashes zeros = tt
parts_named (part ∷ parts) whole slashes zeros =
    let both = and_parts (is_component part) (list_all is_component parts) whole in
    (component_named part both.0 slashes.0 zeros.0, parts_named parts both.1 slashes.1 zeros.1)

name_named : (name : List ℕ) → IsRefName name → AllByRecursion IsEntryName (components name)
name_named name is = parts_named (components name) is.whole (no_slash name) (parts_lack 0 name (plain_lacks_zero name is.plain))

-- ---- the last name

abbrev last_name : List ℕ → List ℕ → List ℕ
last_name from tree = encode_lower from ++ 45 ∷ encode_lower tree

last_lacks : (c : ℕ) (from tree : List ℕ) → IsId from → IsId tree → is_lower_digit c ≡ false → (45 == c) ≡ false → has_byte c (last_name from tree) ≡ false
last_lacks c from tree a b other dash =
    lacks_append c (encode_lower from) (45 ∷ encode_lower tree) (digits_lack c (encode_lower from) other (id_is_lower from a).1)
    (both_false (45 == c) (has_byte c (encode_lower tree)) dash (digits_lack c (encode_lower tree) other (id_is_lower tree b).1))

last_long : (from tree : List ℕ) → IsId from → IsId tree → length (last_name from tree) ≡ 129
last_long from tree a b =
    let one = length-hexadecimal from a in
    let other = length-hexadecimal tree b in
    let both = length-append (encode_lower from) (45 ∷ encode_lower tree) in
    omega arith

last_named : (from tree : List ℕ) → IsId from → IsId tree → IsEntryName (last_name from tree)
last_named from tree a b =
    let long = last_long from tree a b in
    record {
      some = λ e. (let short : length (last_name from tree) ≡ 0 = ap length e in absurd (omega arith));
      no_slash = last_lacks 47 from tree a b refl refl;
      no_zero = last_lacks 0 from tree a b refl refl;
      no_dot = λ e. (let short : length (last_name from tree) ≡ 1 = ap length e in absurd (omega arith));
      no_dots = λ e. (let short : length (last_name from tree) ≡ 2 = ap length e in absurd (omega arith));
      no_git = λ e. (let short : length (last_name from tree) ≡ 4 = ap length e in absurd (omega arith));
    }

-- ---- the whole path

first_named : IsEntryName (codes "reference-authorizations")
first_named = record { some = λ e. cc; no_slash = refl; no_zero = refl; no_dot = λ e. cc; no_dots = λ e. cc; no_git = λ e. cc }

all_append : (us vs : List (List ℕ)) → AllByRecursion IsEntryName us → AllByRecursion IsEntryName vs → AllByRecursion IsEntryName (us ++ vs)
all_append [] vs a b = b
all_append (u ∷ us) vs a b = (a.0, all_append us vs a.1 b)

module _ (name from tree : List ℕ) (is : IsRefName name) (a : IsId from) (b : IsId tree) where
  pub path_parts : components (approval_path name from tree) ≡ codes "reference-authorizations" ∷ (components name ++ last_name from tree ∷ [])
  path_parts =
      cut_parts (codes "reference-authorizations") (name ++ 47 ∷ last_name from tree) refl
      ∙ ap (λ (parts : List (List ℕ)). codes "reference-authorizations" ∷ parts)
      (parts_append name (last_name from tree) ∙ ap (λ (parts : List (List ℕ)). components name ++ parts) (plain_parts (last_name from tree) (last_lacks 47 from tree a b refl refl)))

  pub path_named : AllByRecursion IsEntryName (components (approval_path name from tree))
  path_named =
      subst (AllByRecursion IsEntryName) (sym path_parts)
      (first_named, all_append (components name) (last_name from tree ∷ []) (name_named name is) (last_named from tree a b, tt))

  pub path_short : length (components (approval_path name from tree)) ≤ 18
  path_short =
      let all = ap length path_parts in
      let more = length-append (components name) (last_name from tree ∷ []) in
      let few = is.few in
      omega arith
