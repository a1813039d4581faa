-- Lists of members and of names.
use Rattle.std.proofs.Common.{◌≡◌, ◌≢◌, ◌⊎◌, inl, inr, ⊎_elim, ℕ, zero, suc, ◌+◌, ◌*◌, ◌==◌, ◌<◌, ◌≤◌, Bool, true, false, true≢false, List, [], ◌∷◌, ◌++◌, length, map, set, refl, sym, ap, ◌∙◌, subst, arith, append-nil, append_assoc, length-append}
use Rattle.std.specs.Prelude.{if◌then◌else◌, nat_lt}
use Rattle.std.proofs.lemmas.Bool.Decides.{nat_tests}
use Rattle.std.proofs.lemmas.List.{map-set}
use mathlib.Core.Option.{Option, none, some, some-injective, some-ne-none}
use lib.ListN.{get_elem?}
use Rattle.atomic_table.proofs.Lists.{at_set, at_map, set_again}
use Rattle.desk_turns.specs.Histories.{History, Member, count, with_members, with_member, Begins, tagged, longer}
use Rattle.desk_turns.specs.Views.{View, nobody}
use Rattle.desk_turns.specs.Rule.{name_of, IsMaker, AreApart}

pub off : false ≡ true → ⊥
off e = true≢false (sym e)

pub begins_itself : (h : History) → Begins h h
begins_itself h = record { rest = []; is = λ i. record { opening = h.opening; members = sym (append-nil h.members) i } }

pub begins_through : (a b c : History) → Begins a b → Begins b c → Begins a c
begins_through a b c ab bc = record {
  rest = ab.rest ++ bc.rest;
  is = bc.is ∙ ap (λ h. with_members h bc.rest) ab.is ∙ (λ i. record { opening = a.opening; members = append_assoc a.members ab.rest bc.rest i });
}

pub begins_one_more : (h : History) (m : Member) → Begins h (with_member h m)
begins_one_more h m = record { rest = m ∷ []; is = refl }

tagged_if : (seat : ℕ) (m : Member) (xs ys : List Member) (b : Bool) → tagged seat (xs ++ ys) ≡ tagged seat xs ++ tagged seat ys
    → (if b then m.id ∷ tagged seat (xs ++ ys) else tagged seat (xs ++ ys)) ≡ (if b then m.id ∷ tagged seat xs else tagged seat xs) ++ tagged seat ys
tagged_if seat m xs ys true e = ap (λ l. m.id ∷ l) e
tagged_if seat m xs ys false e = e

pub tagged_append : (seat : ℕ) (xs ys : List Member) → tagged seat (xs ++ ys) ≡ tagged seat xs ++ tagged seat ys
tagged_append seat [] ys = refl
tagged_append seat (x ∷ xs) ys = tagged_if seat x xs ys (x.seat == seat) (tagged_append seat xs ys)

none_of : (seat : ℕ) (m : Member) (b : Bool) → (m.seat == seat) ≡ b → m.seat ≢ seat → (if b then m.id ∷ [] else []) ≡ []
none_of seat m true is apart = let e : m.seat ≡ seat = grind (arith, nat_tests) in absurd (apart e)
none_of seat m false is apart = refl

one_of : (seat : ℕ) (m : Member) (b : Bool) → (m.seat == seat) ≡ b → m.seat ≡ seat → (if b then m.id ∷ [] else []) ≡ m.id ∷ []
one_of seat m true is same = refl
one_of seat m false is same = let e : m.seat ≢ seat = grind (arith, nat_tests) in absurd (e same)

skip_one : (seat : ℕ) (m : Member) (ms : List Member) (b : Bool) → (m.seat == seat) ≡ b → m.seat ≢ seat → (if b then m.id ∷ tagged seat ms else tagged seat ms) ≡ tagged seat ms
skip_one seat m ms true is apart = let e : m.seat ≡ seat = grind (arith, nat_tests) in absurd (apart e)
skip_one seat m ms false is apart = refl

pub tagged_one : (seat : ℕ) (m : Member) (ms : List Member) → m.seat ≢ seat → tagged seat (m ∷ ms) ≡ tagged seat ms
tagged_one seat m ms apart = skip_one seat m ms (m.seat == seat) refl apart

-- a member of another seat is none of this one's
pub tagged_other : (seat : ℕ) (xs : List Member) (m : Member) → m.seat ≢ seat → tagged seat (xs ++ m ∷ []) ≡ tagged seat xs
tagged_other seat xs m apart = tagged_append seat xs (m ∷ []) ∙ ap (λ l. tagged seat xs ++ l) (none_of seat m (m.seat == seat) refl apart) ∙ append-nil (tagged seat xs)

pub tagged_own : (seat : ℕ) (xs : List Member) (m : Member) → m.seat ≡ seat → tagged seat (xs ++ m ∷ []) ≡ tagged seat xs ++ m.id ∷ []
tagged_own seat xs m same = tagged_append seat xs (m ∷ []) ∙ ap (λ l. tagged seat xs ++ l) (one_of seat m (m.seat == seat) refl same)

nothing_after : {A : Type 0} (xs ys zs : List A) → (xs ++ ys) ++ zs ≡ xs → ys ≡ []
nothing_after xs [] zs e = refl
nothing_after xs (y ∷ ys) zs e =
    let n : length ((xs ++ y ∷ ys) ++ zs) ≡ length xs = ap length e in
    absurd (omega (arith, n, length-append (xs ++ y ∷ ys) zs, length-append xs (y ∷ ys)))

no_front : {A : Type 0} (xs ys : List A) → xs ++ ys ≡ [] → xs ≡ []
no_front [] ys e = refl
no_front (x ∷ xs) ys e = let n : length ((x ∷ xs) ++ ys) ≡ 0 = ap length e in absurd (omega (arith, n, length-append (x ∷ xs) ys))

-- what stands between a beginning with all of a seat's members and the whole has none of them
pub tagged_between : (seat : ℕ) (xs ys zs : List Member) → tagged seat ((xs ++ ys) ++ zs) ≡ tagged seat xs → tagged seat (xs ++ ys) ≡ tagged seat xs
tagged_between seat xs ys zs e =
    let parts : (tagged seat xs ++ tagged seat ys) ++ tagged seat zs ≡ tagged seat xs = ap (λ l. l ++ tagged seat zs) (sym (tagged_append seat xs ys)) ∙ sym (tagged_append seat (xs ++ ys) zs) ∙ e in
    tagged_append seat xs ys ∙ ap (λ l. tagged seat xs ++ l) (nothing_after (tagged seat xs) (tagged seat ys) (tagged seat zs) parts) ∙ append-nil (tagged seat xs)

abbrev head_or : {A : Type 0} → A → List A → A
head_or d [] = d
head_or d (x ∷ xs) = x

abbrev tail_of : {A : Type 0} → List A → List A
tail_of [] = []
tail_of (x ∷ xs) = xs

-- of two beginnings of one list the shorter begins the longer
pub shorter_begins : {A : Type 0} (xs ys us vs : List A) → xs ++ us ≡ ys ++ vs → length xs ≤ length ys → (rest : List A) × (ys ≡ xs ++ rest)
shorter_begins [] ys us vs e le = (ys, refl)
shorter_begins (x ∷ xs) [] us vs e le = absurd (omega arith)
shorter_begins (x ∷ xs) (y ∷ ys) us vs e le =
    let more = shorter_begins xs ys us vs (ap tail_of e) (omega arith) in
    let same : x ≡ y = ap (head_or x) e in
    (more.0, λ i. sym same i ∷ more.1 i)

pub begins_longer : (a b h : History) → Begins a h → Begins b h → count a ≤ count b → Begins a b
begins_longer a b h ah bh le =
    let at : with_members a ah.rest ≡ with_members b bh.rest = sym ah.is ∙ bh.is in
    let more = shorter_begins a.members b.members ah.rest bh.rest (ap (λ x. x.members) at) le in
    record { rest = more.0; is = λ i. record { opening = sym (ap (λ x. x.opening) at) i; members = more.1 i } }

longer_if : (a b h : History) → Begins a h → Begins b h → (t : Bool) → nat_lt (count a) (count b) ≡ t
    → Begins a (if t then b else a) × Begins b (if t then b else a)
longer_if a b h ah bh true is = let lt : count a < count b = grind (arith, nat_tests) in (begins_longer a b h ah bh (omega arith), begins_itself b)
longer_if a b h ah bh false is = let ge : count b ≤ count a = grind (arith, nat_tests) in (begins_itself a, begins_longer b a h bh ah ge)

-- two beginnings of one history begin the longer of them
pub begin_longer : (a b h : History) → Begins a h → Begins b h → Begins a (longer a b) × Begins b (longer a b)
begin_longer a b h ah bh = longer_if a b h ah bh (nat_lt (count a) (count b)) refl

either_if : (P : History → Type 0) (a b : History) → P a → P b → (t : Bool) → P (if t then b else a)
either_if P a b pa pb true = pb
either_if P a b pa pb false = pa

pub of_longer : (P : History → Type 0) (a b : History) → P a → P b → P (longer a b)
of_longer P a b pa pb = either_if P a b pa pb (nat_lt (count a) (count b))

-- all of a seat's members stand in the beginning, so also in a longer one
pub mine_between : (seat : ℕ) (a b h : History) → Begins a b → Begins b h → tagged seat h.members ≡ tagged seat a.members → tagged seat b.members ≡ tagged seat a.members
mine_between seat a b h ab bh e =
    let at : h.members ≡ (a.members ++ ab.rest) ++ bh.rest = ap (λ x. x.members) bh.is ∙ ap (λ x. x.members ++ bh.rest) ab.is in
    ap (λ x. tagged seat x.members) ab.is ∙ tagged_between seat a.members ab.rest bh.rest (ap (tagged seat) (sym at) ∙ e)

pub none_before : (seat : ℕ) (a h : History) → Begins a h → tagged seat h.members ≡ [] → tagged seat a.members ≡ []
none_before seat a h ah e = no_front (tagged seat a.members) (tagged seat ah.rest) (sym (tagged_append seat a.members ah.rest) ∙ (ap (λ x. tagged seat x.members) (sym ah.is) ∙ e))

-- names
pub map_set : (views : List View) (id : ℕ) (v w : View) → name_of w ≡ name_of v → get_elem? views id ≡ some v → map name_of (set views id w) ≡ map name_of views
map_set views id v w same at =
    map-set name_of views id w ∙ ap (λ n. set (map name_of views) id n) same ∙ set_again (map name_of views) id (name_of v) (at_map name_of views id v at)

pub longer_log : (log : History) (names : List (ℕ × Bool)) (id : ℕ) (a : ℕ × Bool) (m : Member) → get_elem? names id ≡ some a → (m.seat ≡ a.0) ⊎ (m.seat ≡ 0) → AreApart log names → AreApart (with_member log m) names
longer_log log names id a m at tag apart = record {
  apart = apart.apart;
  maker = λ i b there makes.
      let is = apart.maker i b there makes in
      let le : a.0 ≤ b.0 = is.greatest id a at in record {
        first = is.first;
        greatest = is.greatest;
        unused = λ k lt.
            tagged_other k log.members m (λ e. ⊎_elim (λ (x : m.seat ≡ a.0). absurd (omega (arith, x, e, le, lt))) (λ (x : m.seat ≡ 0). absurd (omega (arith, x, e, lt))) tag)
            ∙ is.unused k lt;
      };
}

no_maker : {A : Type 0} → false ≡ true → A
no_maker e = absurd (off e)

-- a seat ceases to be one
pub spent_one : (log : History) (names : List (ℕ × Bool)) (id : ℕ) → AreApart log names → AreApart log (set names id (0, false))
spent_one log names id apart =
    let low : (i : ℕ) (a : ℕ × Bool) → get_elem? (set names id (0, false)) i ≡ some a → ((a.0 ≡ 0) × (a.1 ≡ false)) ⊎ (get_elem? names i ≡ some a) =
    λ i a at. ⊎_elim (λ (x : (i ≡ id) × ((0, false) ≡ a)). inl (sym (ap (λ b. b.0) x.1), sym (ap (λ b. b.1) x.1))) (λ (x : (i ≢ id) × (get_elem? names i ≡ some a)). inr x.1) (at_set names id i (0, false) a at) in record {
      apart = λ i j a b ai bj some same.
          ⊎_elim (λ (x : (a.0 ≡ 0) × (a.1 ≡ false)). absurd (omega (arith, x.0)))
          (λ (x : get_elem? names i ≡ _).
          ⊎_elim (λ (y : (b.0 ≡ 0) × (b.1 ≡ false)). absurd (omega (arith, y.0))) (λ (y : get_elem? names j ≡ _). apart.apart i j a b x y some same) (low j b bj))
          (low i a ai);
      maker = λ i a ai makes.
          ⊎_elim (λ (x : (a.0 ≡ 0) × (a.1 ≡ false)). no_maker (sym x.1 ∙ makes))
          (λ (x : get_elem? names i ≡ _).
          let is = apart.maker i a x makes in record {
            first = is.first;
            greatest = λ j b bj. ⊎_elim (λ (y : (b.0 ≡ 0) × (b.1 ≡ false)). omega (arith, y.0)) (λ (y : get_elem? names j ≡ _). is.greatest j b y) (low j b bj);
            unused = is.unused;
          })
          (low i a ai);
    }

-- the seat that makes seats has the next number
pub raised : (log : History) (names : List (ℕ × Bool)) (id n : ℕ) → get_elem? names id ≡ some (n, true) → AreApart log names → AreApart log (set names id (n + 1, true))
raised log names id n at apart =
    let first = apart.maker id (n, true) at refl in
    let cases : (i : ℕ) (a : ℕ × Bool) → get_elem? (set names id (n + 1, true)) i ≡ some a → ((i ≡ id) × (a.0 ≡ n + 1)) ⊎ ((i ≢ id) × (get_elem? names i ≡ some a)) =
    λ i a here. ⊎_elim (λ (x : (i ≡ id) × ((n + 1, true) ≡ a)). inl (x.0, sym (ap (λ b. b.0) x.1))) inr (at_set names id i (n + 1, true) a here) in record {
      apart = λ i j a b ai bj some same.
          ⊎_elim
          (λ (x : (i ≡ id) × (a.0 ≡ n + 1)).
          ⊎_elim (λ (y : (j ≡ id) × (b.0 ≡ n + 1)). x.0 ∙ sym y.0)
          (λ (y : (j ≢ id) × (get_elem? names j ≡ _)). let le : b.0 ≤ n = first.greatest j b y.1 in absurd (omega (arith, x.1, same, le))) (cases j b bj))
          (λ (x : (i ≢ id) × (get_elem? names i ≡ _)).
          ⊎_elim (λ (y : (j ≡ id) × (b.0 ≡ n + 1)). let le : a.0 ≤ n = first.greatest i a x.1 in absurd (omega (arith, y.1, same, le)))
          (λ (y : (j ≢ id) × (get_elem? names j ≡ _)). apart.apart i j a b x.1 y.1 some same) (cases j b bj))
          (cases i a ai);
      maker = λ i a ai makes.
          ⊎_elim
          (λ (x : (i ≡ id) × (a.0 ≡ n + 1)). record {
            first = x.0 ∙ first.first;
            greatest = λ j b bj.
                ⊎_elim (λ (y : (j ≡ id) × (b.0 ≡ n + 1)). omega (arith, x.1, y.1))
                (λ (y : (j ≢ id) × (get_elem? names j ≡ _)). let le : b.0 ≤ n = first.greatest j b y.1 in omega (arith, x.1, le)) (cases j b bj);
            unused = λ k lt. first.unused k (omega (arith, x.1, lt));
          })
          (λ (x : (i ≢ id) × (get_elem? names i ≡ _)). absurd (x.0 ((apart.maker i a x.1 makes).first ∙ sym first.first)))
          (cases i a ai);
    }

at_end : {A : Type 0} (l : List A) (a b : A) (j : ℕ) → get_elem? (l ++ a ∷ []) j ≡ some b → (get_elem? l j ≡ some b) ⊎ ((j ≡ length l) × (a ≡ b))
at_end [] a b zero e = inr (refl, some-injective a b e)
at_end [] a b (suc j) e = absurd (some-ne-none b (sym e))
at_end (x ∷ xs) a b zero e = inl e
at_end (x ∷ xs) a b (suc j) e = ⊎_elim inl (λ (t : (j ≡ length xs) × (a ≡ b)). inr (omega (arith, t.0), t.1)) (at_end xs a b j e)

-- one seat more, with a number that none has and that is not above the maker's
pub one_seat_more : (log : History) (names : List (ℕ × Bool)) (n : ℕ) → ((i : ℕ) (a : ℕ × Bool) → get_elem? names i ≡ some a → a.0 ≢ n) → ((i : ℕ) (a : ℕ × Bool) → get_elem? names i ≡ some a → a.1 ≡ true → n ≤ a.0)
    → AreApart log names → AreApart log (names ++ (n, false) ∷ [])
one_seat_more log names n new low apart = record {
  apart = λ i j a b ai bj some same.
      ⊎_elim
      (λ (x : get_elem? names i ≡ _).
      ⊎_elim (λ (y : get_elem? names j ≡ _). apart.apart i j a b x y some same)
      (λ (y : (j ≡ length names) × ((n, false) ≡ b)). absurd (new i a x (same ∙ sym (ap (λ c. c.0) y.1)))) (at_end names (n, false) b j bj))
      (λ (x : (i ≡ length names) × ((n, false) ≡ a)).
      ⊎_elim (λ (y : get_elem? names j ≡ _). absurd (new j b y (sym same ∙ sym (ap (λ c. c.0) x.1))))
      (λ (y : (j ≡ length names) × ((n, false) ≡ b)). x.0 ∙ sym y.0) (at_end names (n, false) b j bj))
      (at_end names (n, false) a i ai);
  maker = λ i a ai makes.
      ⊎_elim
      (λ (x : get_elem? names i ≡ _).
      let is = apart.maker i a x makes in record {
        first = is.first;
        greatest = λ j b bj.
            ⊎_elim (λ (y : get_elem? names j ≡ _). is.greatest j b y)
            (λ (y : (j ≡ length names) × ((n, false) ≡ b)). subst (λ (k : ℕ). k ≤ a.0) (ap (λ c. c.0) y.1) (low i a x makes)) (at_end names (n, false) b j bj);
        unused = is.unused;
      })
      (λ (x : (i ≡ length names) × ((n, false) ≡ a)). no_maker (ap (λ c. c.1) x.1 ∙ makes))
      (at_end names (n, false) a i ai);
}
