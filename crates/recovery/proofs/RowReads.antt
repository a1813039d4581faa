-- What the calls that change nothing read of rows and slots.
use Rattle.std.proofs.Common.{◌≡◌, ◌≢◌, ◌↔◌, ◌==◌, ◌&&◌, ◌||◌, ◌<◌, ◌+◌, ◌-◌, ◌++◌, ℕ, suc, zero, Bool, true, false, cond, not, List, [], ◌∷◌, Option, Some, None, length, get_or, map, take, drop, refl, ap, sym, inl, inr, ◌∙◌, arith}
use Rattle.std.specs.BTreeMap as tree
use Rattle.std.specs.BTreeMap.{BTreeMap}
use Rattle.std.specs.List.{All, AllPairs, filter}
use Rattle.std.proofs.lemmas.Bool.{and_parts, cases_eq, cases_lt, eq-eqb, ne_eqb, true≢false}
use Rattle.std.proofs.lemmas.List.{append-nil, get_or_default, get_or-drop, get_or_read, length-drop, take-append-drop, map-append, get_or-map, length-map}
use Rattle.std.proofs.lemmas.List.Kept.{AllPairs-filter}
use Rattle.std.proofs.lemmas.List.Elements.{All-head, All-tail, filter-append, filter_more}
use Rattle.octets.specs.BytesMap.{by_bytes}
use Rattle.recovery.specs.Lanes.{is_in, is_skipped_in, last_of}
use Rattle.recovery.specs.Marking.{IsMarked}
use Rattle.recovery.specs.Rows.{IsAfter, IsLast, lane_at, no_row, no_slot, numbers_at, row_at, slot_at, unskipped_at}
use Rattle.recovery.specs.declared.rows.Row.{Row}
use Rattle.recovery.specs.declared.slots.Slot.{Slot}
use Rattle.recovery.proofs.Cuts.{filter_none}
use Rattle.recovery.proofs.LaneLemmas.{lane_for}

pub slot_read : {X : Type 0} (f : Slot → X) (slots : List Slot) (k : ℕ) (s : Slot) → k < length slots → s ≡ get_or slots k s → f s ≡ f (slot_at slots k)
slot_read f slots k s h is = ap f (get_or_read slots k s h is no_slot)

pub row_read : {X : Type 0} (f : Row → X) (rows : List Row) (k : ℕ) (r : Row) → k < length rows → r ≡ get_or rows k r → f r ≡ f (row_at rows k)
row_read f rows k r h is = ap f (get_or_read rows k r h is no_row)

-- ---- the last that is not skipped
pub last_push : (ns : List ℕ) (n : ℕ) → last_of (ns ++ n ∷ []) ≡ Some n
last_push [] n = refl
last_push (m ∷ []) n = refl
last_push (m ∷ k ∷ ns) n = last_push (k ∷ ns) n

behind_out : (k : ℕ) (r : Row) → (r.slot ≡ k → r.skipped ≡ true) → (r.slot == k && not r.skipped) ≡ false
behind_out k r h =
    elim (cases_eq r.slot k) [
      | inl is ↦ rw (eq-eqb r.slot k is, h is) refl
      | inr isnt ↦ rw (ne_eqb r.slot k isnt) refl
    ]

front_only : (k last : ℕ) (rows : List Row) → IsAfter k rows (length rows) last → filter (λ r. r.slot == k && not r.skipped) rows ≡ filter (λ r. r.slot == k && not r.skipped) (take last rows)
front_only k last rows after =
    let p : Row → Bool = λ r. r.slot == k && not r.skipped in
    let none : filter p (drop last rows) ≡ [] = filter_none p (drop last rows) (λ i d h.
    let long = length-drop last rows in
    let in' : last + i < length rows = omega arith in
    ap p (get_or-drop last rows i d ∙ get_or_default rows (last + i) d no_row in') ∙ behind_out k (row_at rows (last + i)) (λ own. after.behind (last + i) (omega arith) in' own)) in
    ap (filter p) (sym (take-append-drop last rows)) ∙ filter-append p (take last rows) (drop last rows) ∙ ap (λ xs. filter p (take last rows) ++ xs) none ∙ append-nil (filter p (take last rows))

pub last_is : (k last : ℕ) (rows : List Row) → IsLast k rows last → last_of (unskipped_at k rows) ≡ cond (last == 0) None (Some (row_at rows (last - 1)).number)
last_is k zero rows is = ap (λ xs. last_of (map (λ r. r.number) xs)) (front_only k 0 rows is.after)
last_is k (suc m) rows is =
    let p : Row → Bool = λ r. r.slot == k && not r.skipped in
    let m1 : suc m ≡ m + 1 = omega arith in
    let m0 : suc m - 1 ≡ m = omega arith in
    let own : (row_at rows m).slot ≡ k = ap (λ i. (row_at rows i).slot) (sym m0) ∙ is.after.own (omega arith) in
    let un : (row_at rows m).skipped ≡ false = ap (λ i. (row_at rows i).skipped) (sym m0) ∙ is.unskipped (omega arith) in
    let pass : p (row_at rows m) ≡ true = rw (eq-eqb (row_at rows m).slot k own, un) refl in
    let in' : m < length rows = let w = is.after.within in omega arith in
    let cut : filter p (take (suc m) rows) ≡ filter p (take m rows) ++ row_at rows m ∷ [] = ap (λ n. filter p (take n rows)) m1 ∙ filter_more p rows m no_row in' ∙ ap (λ b. filter p (take m rows) ++ cond b (row_at rows m ∷ []) []) pass in
    let whole : unskipped_at k rows ≡ map (λ r. r.number) (filter p (take m rows)) ++ (row_at rows m).number ∷ [] =
    ap (map (λ r. r.number)) (front_only k (suc m) rows is.after ∙ cut) ∙ map-append (λ r. r.number) (filter p (take m rows)) (row_at rows m ∷ []) in
    ap last_of whole ∙ last_push (map (λ r. r.number) (filter p (take m rows))) (row_at rows m).number ∙ ap (λ i. Some (row_at rows i).number) (sym m0) ∙ ap (λ b. cond b None (Some (row_at rows (suc m - 1)).number)) (sym (ne_eqb (suc m) 0 (λ e. absurd (omega arith))))

-- ---- numbers that are not skipped rise
pub unskipped_rising : (k : ℕ) (rows : List Row) → AllPairs (λ r s. r.number < s.number) rows → AllPairs (λ m n. m < n) (unskipped_at k rows)
unskipped_rising k rows rising i j d less h =
    let kept = filter (λ r. r.slot == k && not r.skipped) rows in
    let long = length-map kept (λ (r : Row). r.number) in
    let in' : j < length kept = omega arith in
    let e = AllPairs-filter (λ r s. r.number < s.number) (λ r. r.slot == k && not r.skipped) rows rising i j no_row less in' in
    let a = get_or-map (λ (r : Row). r.number) kept i no_row d (omega arith) in
    let b = get_or-map (λ (r : Row). r.number) kept j no_row d in' in
    omega arith

-- ---- where a number stands
pub in_numbers : (n k : ℕ) (rows : List Row) (i : ℕ) → i < length rows → (row_at rows i).slot ≡ k → (row_at rows i).number ≡ n → is_in n (numbers_at k rows) ≡ true
in_numbers n k [] i h own is = absurd (omega arith)
in_numbers n k (r ∷ rows) zero h own is = rw (eq-eqb r.slot k own, eq-eqb r.number n is) refl
in_numbers n k (r ∷ rows) (suc i) h own is =
    let ih = in_numbers n k rows i (omega arith) own is in
    elim (r.slot == k) as (λ b. is_in n (map (λ x. x.number) (cond b (r ∷ filter (λ x. x.slot == k) rows) (filter (λ x. x.slot == k) rows))) ≡ true) [
      | true ↦ rw ih (elim (r.number == n) as (λ b. (b || true) ≡ true) [ true ↦ refl | false ↦ refl ])
      | false ↦ ih
    ]

pub not_in_numbers : (n k : ℕ) (rows : List Row) → All (λ r. r.number ≢ n) rows → is_in n (numbers_at k rows) ≡ false
not_in_numbers n k [] h = refl
not_in_numbers n k (r ∷ rows) h =
    let ih = not_in_numbers n k rows (All-tail (λ x. x.number ≢ n) r rows h) in
    elim (r.slot == k) as (λ b. is_in n (map (λ x. x.number) (cond b (r ∷ filter (λ x. x.slot == k) rows) (filter (λ x. x.slot == k) rows))) ≡ false) [
      | true ↦ rw (ne_eqb r.number n (All-head (λ x. x.number ≢ n) r rows h)) ih
      | false ↦ ih
    ]

pub no_lane_has : (n : ℕ) (rows : List Row) (slots : List Slot) → All (λ r. r.number ≢ n) rows → (o : Option ℕ) → is_in n (lane_for rows slots o).pushed ≡ false
no_lane_has n rows slots h None = refl
no_lane_has n rows slots h (Some k) = not_in_numbers n k rows h

-- the row of a number is the only one, so it tells whether the number is skipped
pub in_unskipped : (n k : ℕ) (s : Bool) (rows : List Row) → All (λ r. r.number ≡ n → r.skipped ≡ s) rows → is_in n (unskipped_at k rows) ≡ (is_in n (numbers_at k rows) && not s)
in_unskipped n k s [] h = refl
in_unskipped n k s (r ∷ rows) h =
    let P : Row → Type 0 = λ x. x.number ≡ n → x.skipped ≡ s in
    let ih = in_unskipped n k s rows (All-tail P r rows h) in
    let one = All-head P r rows h in
    let un = filter (λ x. x.slot == k && not x.skipped) rows in
    let all = filter (λ x. x.slot == k) rows in
    elim (r.slot == k) as (λ b. is_in n (map (λ x. x.number) (cond (b && not r.skipped) (r ∷ un) un)) ≡ (is_in n (map (λ x. x.number) (cond b (r ∷ all) all)) && not s)) [
      | true ↦ elim (cases_eq r.number n) [
        | inl is ↦ ap (λ t. is_in n (map (λ x. x.number) (cond (not t) (r ∷ un) un))) (one is) ∙ (elim s as (λ t. is_in n (map (λ x. x.number) un) ≡ (is_in n (map (λ x. x.number) all) && not t) → is_in n (map (λ x. x.number) (cond (not t) (r ∷ un) un)) ≡ ((r.number == n || is_in n (map (λ x. x.number) all)) && not t)) [
          | true ↦ λ i. i ∙ elim (is_in n (map (λ x. x.number) all)) as (λ b. (b && false) ≡ ((r.number == n || b) && false)) [ true ↦ elim (r.number == n) as (λ c. false ≡ ((c || true) && false)) [ true ↦ refl | false ↦ refl ] | false ↦ elim (r.number == n) as (λ c. false ≡ ((c || false) && false)) [ true ↦ refl | false ↦ refl ] ]
          | false ↦ λ i. rw (eq-eqb r.number n is) refl
        ] ih)
        | inr isnt ↦ elim r.skipped as (λ t. is_in n (map (λ x. x.number) (cond (not t) (r ∷ un) un)) ≡ ((r.number == n || is_in n (map (λ x. x.number) all)) && not s)) [
          | true ↦ rw (ne_eqb r.number n isnt) ih
          | false ↦ rw (ne_eqb r.number n isnt) ih
        ]
      ]
      | false ↦ ih
    ]

pub one_row : (rows : List Row) (at : ℕ) → AllPairs (λ r s. r.number < s.number) rows → at < length rows → All (λ r. r.number ≡ (row_at rows at).number → r.skipped ≡ (row_at rows at).skipped) rows
one_row rows at rising within i d h e =
    let there = get_or_default rows i d no_row h in
    elim (cases_eq i at) [
      | inl is ↦ ap (λ r. r.skipped) there ∙ ap (λ k. (row_at rows k).skipped) is
      | inr isnt ↦
          let same : (row_at rows i).number ≡ (row_at rows at).number = ap (λ r. r.number) (sym there) ∙ e in
          elim (cases_lt i at) [
            | inl less ↦ absurd (let l = rising i at no_row less within in omega arith)
            | inr more ↦ absurd (let l = rising at i no_row (omega arith) h in omega arith)
          ]
    ]

-- whether a number is skipped, by the row that has it
pub skipped_by_row : (rows : List Row) (slots : List Slot) (at k : ℕ) → AllPairs (λ r s. r.number < s.number) rows → at < length rows → is_skipped_in (row_at rows at).number (lane_at rows slots k) ≡ (is_in (row_at rows at).number (numbers_at k rows) && (row_at rows at).skipped)
skipped_by_row rows slots at k rising within =
    let n = (row_at rows at).number in
    let b = is_in n (numbers_at k rows) in
    ap (λ u. b && not u) (in_unskipped n k (row_at rows at).skipped rows (one_row rows at rising within))
    ∙ elim b as (λ b. (b && not (b && not (row_at rows at).skipped)) ≡ (b && (row_at rows at).skipped)) [
      | true ↦ elim (row_at rows at).skipped as (λ s. not (not s) ≡ s) [ true ↦ refl | false ↦ refl ]
      | false ↦ refl
    ]

pub no_lane_skips : (n : ℕ) (rows : List Row) (slots : List Slot) → All (λ r. r.number ≢ n) rows → (o : Option ℕ) → is_skipped_in n (lane_for rows slots o) ≡ false
no_lane_skips n rows slots h o = ap (λ b. b && not (is_in n (lane_for rows slots o).unskipped)) (no_lane_has n rows slots h o)

pub skipped_where : (rows : List Row) (slots : List Slot) (names : BTreeMap (List ℕ) ℕ) (at : ℕ) → IsMarked rows slots names → at < length rows → ((row_at rows at).skipped ≡ true) ↔ ((name : List ℕ) × (is_skipped_in (row_at rows at).number (lane_for rows slots (tree.get by_bytes names name)) ≡ true))
skipped_where rows slots names at marked within =
    let k = (row_at rows at).slot in
    let n = (row_at rows at).number in
    let known = marked.named.known k (marked.kept.slotted at no_row within) in
    let lane : (i : ℕ) → is_skipped_in n (lane_at rows slots i) ≡ (is_in n (numbers_at i rows) && (row_at rows at).skipped) = λ i. skipped_by_row rows slots at i marked.kept.rising within in (
      λ yes. ((slot_at slots k).name, ap (λ o. is_skipped_in n (lane_for rows slots o)) known ∙ lane k ∙ ap (λ b. b && (row_at rows at).skipped) (in_numbers n k rows at within refl refl) ∙ yes),
      λ w. by_lane (tree.get by_bytes names w.0) lane w.1,
    ) where
      by_lane : (o : Option ℕ) → ((i : ℕ) → is_skipped_in (row_at rows at).number (lane_at rows slots i) ≡ (is_in (row_at rows at).number (numbers_at i rows) && (row_at rows at).skipped)) → is_skipped_in (row_at rows at).number (lane_for rows slots o) ≡ true → (row_at rows at).skipped ≡ true
      by_lane None lane e = absurd (true≢false (sym e))
      by_lane (Some i) lane e = (and_parts (is_in (row_at rows at).number (numbers_at i rows)) (row_at rows at).skipped (sym (lane i) ∙ e)).1
