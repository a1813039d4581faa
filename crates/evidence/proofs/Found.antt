-- What is found is what a dossier shows.
use Rattle.std.proofs.Common.{◌≡◌, ◌==◌, ◌&&◌, ℕ, Bool, true, false, not, List, [], ◌∷◌, ◌++◌, Option, Some, None, Result, Ok, Err, inl, inr, refl, sym, ap, ◌∙◌}
use Rattle.std.specs.Prelude.{if◌then◌else◌}
use Rattle.std.specs.List.{AllByRecursion, list_any}
use Rattle.std.specs.Str.{bytes_eq}
use Rattle.std.proofs.lemmas.Bool.{and_from, and_parts, cases_Bool, cond-true, eq-eqb, eqb-true, false≢true, not-true, not_from_false, or_cases, or_left, or_right}
use Rattle.std.proofs.lemmas.Option.{cond_some, same_Some}
use Rattle.std.proofs.lemmas.Slice.Eq.{bytes_eq-Decides}
use Rattle.sha2.specs.Sha256.{sha256}
use Rattle.lms_keys.specs.Deciding.{is_good}
use Rattle.lms_keys.specs.SigOk.{SigOk}
use Rattle.lms_keys.proofs.Deciding.{decided}
use Rattle.rsl_chain.specs.Reading.{entry_of}
use Rattle.rsl_chain.specs.declared.entries.Entry.{Entry}
use Rattle.evidence.specs.Finding.{AreSigned, Findings, IsFirstReuse, IsFork, IsReuse, IsSigned, IsUsedAgain, finding_by, finding_of, fork_of, is_named, is_signed_by, signed_in, where_signed}
use Rattle.evidence.specs.Uses.{Use, is_reuse, reuse_of, uses}
use Rattle.evidence.specs.declared.dossiers.Dossier.{Dossier}
use Rattle.evidence.proofs.Walking.{reuse_later, reuse_now}

same_bytes : (a b : List ℕ) → a ≡ b → bytes_eq a b ≡ true
same_bytes a b same = (bytes_eq-Decides a b).1 same

other_bytes : (a b : List ℕ) → (a ≡ b → ⊥) → bytes_eq a b ≡ false
other_bytes a b other = elim (cases_Bool (bytes_eq a b)) [
  | inl is ↦ absurd (other ((bytes_eq-Decides a b).0 is))
  | inr is ↦ is
]

differ : (a b : List ℕ) → bytes_eq a b ≡ false → a ≡ b → ⊥
differ a b is same = false≢true (sym is ∙ same_bytes a b same)

-- ---- signed sides
named : (signer : Option (List ℕ)) (public : List ℕ) → is_named signer public ≡ true → signer ≡ Some (sha256 public)
named None public is = absurd (false≢true is)
named (Some id) public is = ap Some ((bytes_eq-Decides id (sha256 public)).0 is)

names : (signer : Option (List ℕ)) (public : List ℕ) → signer ≡ Some (sha256 public) → is_named signer public ≡ true
names signer public is = ap (λ (s : Option (List ℕ)). is_named s public) is ∙ same_bytes (sha256 public) (sha256 public) refl

signed_by : (public body : List ℕ) (read : Result Entry ℕ) (entry : Entry) → entry_of body ≡ read → where_signed public read ≡ Some entry → IsSigned public body entry
signed_by public body (Err line) entry is e = let bad : None ≡ Some entry = e in cc
signed_by public body (Ok found) entry is e =
    let by = cond_some (is_signed_by public found) found entry e in
    let parts = and_parts (is_named found.signer public) (is_good public found.signed found.signature) by.0 in
    let it : found ≡ entry = by.1 in
    record {
      read = is ∙ ap Ok it;
      named = ap (λ (x : Entry). x.signer) (sym it) ∙ named found.signer public parts.0;
      good = (decided public entry.signed entry.signature).0 (ap (λ (x : Entry). is_good public x.signed x.signature) (sym it) ∙ parts.1);
    }

is_signed : (public body : List ℕ) (entry : Entry) → signed_in public body ≡ Some entry → IsSigned public body entry
is_signed public body entry e = signed_by public body (entry_of body) entry refl e

where_is : (public body : List ℕ) (entry : Entry) → IsSigned public body entry → signed_in public body ≡ Some entry
where_is public body entry is =
    let good = (decided public entry.signed entry.signature).1 is.good in
    ap (where_signed public) is.read
    ∙ cond-true (is_signed_by public entry) (Some entry) None (and_from (is_named entry.signer public) (is_good public entry.signed entry.signature) (names entry.signer public is.named) good)

-- ---- an entry that was read
named_by : (public body : List ℕ) (entry : Entry) (b : Bool) → entry_of body ≡ Ok entry → is_signed_by public entry ≡ b → signed_in public body ≡ (if b then Some entry else None)
named_by public body entry b read is = ap (where_signed public) read ∙ ap (λ (t : Bool). if t then Some entry else None) is

pub named_where : (public body : List ℕ) (entry : Entry) → entry_of body ≡ Ok entry → is_signed_by public entry ≡ true → Some entry ≡ signed_in public body
named_where public body entry read is = sym (named_by public body entry true read is)

pub none_where : (public body : List ℕ) (entry : Entry) → entry_of body ≡ Ok entry → is_signed_by public entry ≡ false → None ≡ signed_in public body
none_where public body entry read is = sym (named_by public body entry false read is)

pub good_where : (public : List ℕ) (entry : Entry) → is_signed_by public entry ≡ true → SigOk public entry.signed entry.signature
good_where public entry is =
    (decided public entry.signed entry.signature).0 (and_parts (is_named entry.signer public) (is_good public entry.signed entry.signature) is).1

-- ---- both sides
-- they are signed, and this holds of them
record IsBoth (dossier : Dossier) (P : Entry → Entry → Type 0) : Type 0 where
  pub left : Entry
  pub right : Entry
  pub signed : AreSigned dossier left right
  pub holds : P left right

module _ (dossier : Dossier) where
  abbrev public : List ℕ
  public = dossier.public

  abbrev sides : Option Entry → Option Entry → Type 0
  sides l r = (signed_in public dossier.left ≡ l) × (signed_in public dossier.right ≡ r)

  abbrev Forked : ℕ → Entry → Entry → Type 0
  Forked n left right = fork_of left right ≡ Some n

  abbrev Reused : ℕ → Entry → Entry → Type 0
  Reused q left right = reuse_of (uses public left.signed left.signature) (uses public right.signed right.signature) ≡ Some q

  signed_both : (left right : Entry) → sides (Some left) (Some right) → AreSigned dossier left right
  signed_both left right are = record { is_left = is_signed public dossier.left left are.0; is_right = is_signed public dossier.right right are.1 }

  both_forked : (l r : Option Entry) (n : ℕ) → sides l r → (finding_by public l r).fork ≡ Some n → IsBoth dossier (Forked n)
  both_forked None r n are e = let bad : None ≡ Some n = e in cc
  both_forked (Some left) None n are e = let bad : None ≡ Some n = e in cc
  both_forked (Some left) (Some right) n are e = record { left = left; right = right; signed = signed_both left right are; holds = e }

  both_reused : (l r : Option Entry) (q : ℕ) → sides l r → (finding_by public l r).reuse ≡ Some q → IsBoth dossier (Reused q)
  both_reused None r q are e = let bad : None ≡ Some q = e in cc
  both_reused (Some left) None q are e = let bad : None ≡ Some q = e in cc
  both_reused (Some left) (Some right) q are e = record { left = left; right = right; signed = signed_both left right are; holds = e }

  by_signed : (left right : Entry) → AreSigned dossier left right → finding_of dossier ≡ finding_by public (Some left) (Some right)
  by_signed left right signed = λ i. finding_by public (where_is public dossier.left left signed.is_left i) (where_is public dossier.right right signed.is_right i)

  -- ---- the fork
  fork_shown : (n : ℕ) → (finding_of dossier).fork ≡ Some n → IsFork dossier n
  fork_shown n e =
      let both = both_forked (signed_in public dossier.left) (signed_in public dossier.right) n (refl, refl) e in
      let left = both.left in
      let right = both.right in
      let by = cond_some (left.number == right.number && not (bytes_eq left.id right.id)) left.number n both.holds in
      let parts = and_parts (left.number == right.number) (not (bytes_eq left.id right.id)) by.0 in
      record {
        left = left;
        right = right;
        signed = both.signed;
        left_number = by.1;
        right_number = sym (eqb-true left.number right.number parts.0) ∙ by.1;
        differ = differ left.id right.id (not-true (bytes_eq left.id right.id) parts.1);
      }

  fork_found : (n : ℕ) → IsFork dossier n → (finding_of dossier).fork ≡ Some n
  fork_found n is =
      let left = is.left in
      let right = is.right in
      let holds = and_from (left.number == right.number) (not (bytes_eq left.id right.id))
      (eq-eqb left.number right.number (is.left_number ∙ sym is.right_number)) (not_from_false (bytes_eq left.id right.id) (other_bytes left.id right.id is.differ)) in
      (λ i. (by_signed left right is.signed i).fork)
      ∙ cond-true (left.number == right.number && not (bytes_eq left.id right.id)) (Some left.number) None holds ∙ ap Some is.left_number

-- ---- a leaf that is used again
used_again : (u : Use) (vs : List Use) → list_any (is_reuse u) vs ≡ true → IsUsedAgain u vs
used_again u [] e = absurd (false≢true e)
used_again u (v ∷ vs) e = elim (or_cases (is_reuse u v) (list_any (is_reuse u) vs) e) [
  | inl now ↦ (
      let key = and_parts (bytes_eq u.key v.key) (u.leaf == v.leaf && not (bytes_eq u.message v.message)) now in
      let rest = and_parts (u.leaf == v.leaf) (not (bytes_eq u.message v.message)) key.1 in
      record {
        front = [];
        other = v;
        more = vs;
        is_among = refl;
        key = (bytes_eq-Decides u.key v.key).0 key.0;
        leaf = eqb-true u.leaf v.leaf rest.0;
        differs = differ u.message v.message (not-true (bytes_eq u.message v.message) rest.1);
      })
  | inr later ↦ (
      let it = used_again u vs later in
      record {
        front = v ∷ it.front;
        other = it.other;
        more = it.more;
        is_among = ap (λ (l : List Use). v ∷ l) it.is_among;
        key = it.key;
        leaf = it.leaf;
        differs = it.differs;
      })
]

any_among : (u v : Use) (front more : List Use) → is_reuse u v ≡ true → list_any (is_reuse u) (front ++ v ∷ more) ≡ true
any_among u v [] more e = or_left (is_reuse u v) (list_any (is_reuse u) more) e
any_among u v (w ∷ front) more e = or_right (is_reuse u w) (list_any (is_reuse u) (front ++ v ∷ more)) (any_among u v front more e)

again_found : (u : Use) (vs : List Use) → IsUsedAgain u vs → list_any (is_reuse u) vs ≡ true
again_found u vs is =
    let v = is.other in
    ap (list_any (is_reuse u)) is.is_among
    ∙ any_among u v is.front is.more (and_from (bytes_eq u.key v.key) (u.leaf == v.leaf && not (bytes_eq u.message v.message)) (same_bytes u.key v.key is.key)
    (and_from (u.leaf == v.leaf) (not (bytes_eq u.message v.message)) (eq-eqb u.leaf v.leaf is.leaf) (not_from_false (bytes_eq u.message v.message) (other_bytes u.message v.message is.differs))))

none_again : (u : Use) (vs : List Use) → (IsUsedAgain u vs → ⊥) → list_any (is_reuse u) vs ≡ false
none_again u vs none = elim (cases_Bool (list_any (is_reuse u) vs)) [
  | inl is ↦ absurd (none (used_again u vs is))
  | inr is ↦ is
]

module _ (rights : List Use) where
  first_shown : (lefts : List Use) (q : ℕ) → reuse_of lefts rights ≡ Some q → IsFirstReuse lefts rights q
  first_shown [] q e = let bad : None ≡ Some q = e in cc
  first_shown (u ∷ us) q e = elim (cases_Bool (list_any (is_reuse u) rights)) [
    | inl is ↦ record {
      front = [];
      used = u;
      more = us;
      is_among = refl;
      is_leaf = same_Some u.leaf q (reuse_now rights u (u ∷ us) us refl is ∙ e);
      again = used_again u rights is;
      first = tt;
    }
    | inr is ↦ (
        let it = first_shown us q (reuse_later rights u (u ∷ us) us refl is ∙ e) in
        record {
          front = u ∷ it.front;
          used = it.used;
          more = it.more;
          is_among = ap (λ (l : List Use). u ∷ l) it.is_among;
          is_leaf = it.is_leaf;
          again = it.again;
          first = ((λ again. false≢true (sym is ∙ again_found u rights again)), it.first);
        })
  ]

  first_among : (u : Use) (front more : List Use) → list_any (is_reuse u) rights ≡ true → AllByRecursion (λ earlier. IsUsedAgain earlier rights → ⊥) front
      → reuse_of (front ++ u ∷ more) rights ≡ Some u.leaf
  first_among u [] more is none = sym (reuse_now rights u (u ∷ more) more refl is)
  first_among u (w ∷ front) more is none =
      sym (reuse_later rights w (w ∷ (front ++ u ∷ more)) (front ++ u ∷ more) refl (none_again w rights none.0)) ∙ first_among u front more is none.1

  first_found : (lefts : List Use) (q : ℕ) → IsFirstReuse lefts rights q → reuse_of lefts rights ≡ Some q
  first_found lefts q is =
      ap (λ (l : List Use). reuse_of l rights) is.is_among ∙ first_among is.used is.front is.more (again_found is.used rights is.again) is.first ∙ ap Some is.is_leaf

module _ (dossier : Dossier) where
  reuse_shown : (q : ℕ) → (finding_of dossier).reuse ≡ Some q → IsReuse dossier q
  reuse_shown q e =
      let both = both_reused dossier (signed_in dossier.public dossier.left) (signed_in dossier.public dossier.right) q (refl, refl) e in
      record {
        left = both.left;
        right = both.right;
        signed = both.signed;
        first = first_shown (uses dossier.public both.right.signed both.right.signature) (uses dossier.public both.left.signed both.left.signature) q both.holds;
      }

  reuse_found : (q : ℕ) → IsReuse dossier q → (finding_of dossier).reuse ≡ Some q
  reuse_found q is =
      (λ i. (by_signed dossier is.left is.right is.signed i).reuse)
      ∙ first_found (uses dossier.public is.right.signed is.right.signature) (uses dossier.public is.left.signed is.left.signature) q is.first

pub findings : Findings
findings = record {
  fork = λ dossier number. (fork_shown dossier number, fork_found dossier number);
  reuse = λ dossier leaf. (reuse_shown dossier leaf, reuse_found dossier leaf);
}
