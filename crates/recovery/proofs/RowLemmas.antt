-- Rows that a call adds or skips.
use Rattle.std.proofs.Common.{◌≡◌, ◌≢◌, ◌==◌, ◌&&◌, ◌<◌, ◌≤◌, ◌-◌, ◌++◌, ℕ, suc, zero, Bool, true, false, cond, not, List, [], ◌∷◌, length, get_or, set, map, refl, ap, sym, subst, inl, inr, ◌∙◌, arith, ltb, ltb-true, ltb-false, get_or-set_other, get_or-set_same}
use Rattle.std.specs.List.{All, AllPairs, AllWithin, filter}
use Rattle.std.specs.List.Sorted.{IsNonDecreasingBy}
use Rattle.std.proofs.lemmas.Bool.{cases_eq, cases_lt, eq-eqb, ne_eqb}
use Rattle.std.proofs.lemmas.List.{get_or_append_left, get_or_default, get_or_push, get_or-map, length-map, length-set, length_push, map-append, same_lists}
use Rattle.std.proofs.lemmas.List.Elements.{All-head, All-tail, filter-append}
use Rattle.std.proofs.lemmas.List.Filters.{length-filter_both}
use Rattle.recovery.specs.Rows.{IsAfter, Linked, no_row, numbers_at, row_at, unskipped_at}
use Rattle.recovery.specs.Steps.{skipped_row}
use Rattle.recovery.specs.declared.rows.Row.{Row}

-- ---- a step back
pub back_step : (rows : List Row) (slot last : ℕ) → Linked rows → IsAfter slot rows (length rows) last → 0 < last → (row_at rows (last - 1)).skipped ≡ true → IsAfter slot rows (length rows) (row_at rows (last - 1)).back
back_step rows slot last linked after some skipped =
    let at : last - 1 < length rows = let w = after.within in omega arith in
    let link = linked (last - 1) at in
    let here : (row_at rows (last - 1)).slot ≡ slot = after.own some in
    record {
      within = let w = link.within in omega arith;
      own = λ h. link.own h ∙ here;
      behind = λ i low high own.
          elim (cases_lt i (last - 1)) [
            | inl less ↦ link.behind i low less (own ∙ sym here)
            | inr more ↦ elim (cases_eq i (last - 1)) [
              | inl is ↦ subst (λ (k : ℕ). (row_at rows k).skipped ≡ true) (sym is) skipped
              | inr isnt ↦ after.behind i (omega arith) high own
            ]
          ];
    }

-- ---- rows of which one may be skipped now
pub record Kept (rows now : List Row) : Type 0 where
  pub long : length now ≡ length rows
  pub number : (i : ℕ) → (row_at now i).number ≡ (row_at rows i).number
  pub slot : (i : ℕ) → (row_at now i).slot ≡ (row_at rows i).slot
  pub back : (i : ℕ) → (row_at now i).back ≡ (row_at rows i).back
  pub skipped : (i : ℕ) → (row_at rows i).skipped ≡ true → (row_at now i).skipped ≡ true

set_here : (rows : List Row) (at : ℕ) (r : Row) → at < length rows → row_at (set rows at r) at ≡ r
set_here rows at r h = get_or-set_same rows at r no_row h

set_apart : (rows : List Row) (at i : ℕ) (r : Row) → i ≢ at → row_at (set rows at r) i ≡ row_at rows i
set_apart rows at i r h = get_or-set_other rows at i r no_row h

set_each : {X : Type 0} (f : Row → X) (rows : List Row) (at i : ℕ) (r : Row) → at < length rows → f r ≡ f (row_at rows at) → f (row_at (set rows at r) i) ≡ f (row_at rows i)
set_each f rows at i r h e =
    elim (cases_eq i at) [
      | inl is ↦ ap (λ k. f (row_at (set rows at r) k)) is ∙ ap f (set_here rows at r h) ∙ e ∙ ap (λ k. f (row_at rows k)) (sym is)
      | inr isnt ↦ ap f (set_apart rows at i r isnt)
    ]

pub kept_set : (rows : List Row) (at : ℕ) → at < length rows → Kept rows (set rows at (skipped_row (row_at rows at)))
kept_set rows at h =
    let r = skipped_row (row_at rows at) in
    record {
      long = length-set rows at r;
      number = λ i. set_each (λ x. x.number) rows at i r h refl;
      slot = λ i. set_each (λ x. x.slot) rows at i r h refl;
      back = λ i. set_each (λ x. x.back) rows at i r h refl;
      skipped = λ i was.
          elim (cases_eq i at) [
            | inl is ↦ ap (λ k. (row_at (set rows at r) k).skipped) is ∙ ap (λ x. x.skipped) (set_here rows at r h)
            | inr isnt ↦ ap (λ x. x.skipped) (set_apart rows at i r isnt) ∙ was
          ];
    }

pub after_kept : (rows now : List Row) (slot to last : ℕ) → Kept rows now → IsAfter slot rows to last → IsAfter slot now to last
after_kept rows now slot to last kept after = record {
  within = after.within;
  own = λ h. kept.slot (last - 1) ∙ after.own h;
  behind = λ i low high own. kept.skipped i (after.behind i low high (sym (kept.slot i) ∙ own));
}

pub linked_kept : (rows now : List Row) → Kept rows now → Linked rows → Linked now
linked_kept rows now kept linked i h =
    let l : i < length rows = let e = kept.long in omega arith in
    let a : IsAfter (row_at rows i).slot now i (row_at rows i).back = after_kept rows now _ i _ kept (linked i l) in
    let b : IsAfter (row_at now i).slot now i (row_at rows i).back = subst (λ (s : ℕ). IsAfter s now i (row_at rows i).back) (sym (kept.slot i)) a in
    subst (λ (k : ℕ). IsAfter (row_at now i).slot now i k) (sym (kept.back i)) b

-- ---- a skip as a map over the rows
abbrev pub mark : ℕ → Row → Row
mark number row = cond (row.number == number) (skipped_row row) row

pub mark_none : (number : ℕ) (rows : List Row) → All (λ r. r.number ≢ number) rows → map (mark number) rows ≡ rows
mark_none number [] h = refl
mark_none number (r ∷ rows) h =
    rw (ne_eqb r.number number (All-head (λ x. x.number ≢ number) r rows h)) (ap (λ xs. r ∷ xs) (mark_none number rows (All-tail (λ x. x.number ≢ number) r rows h)))

pub numbers_mark : (number k : ℕ) (rows : List Row) → numbers_at k (map (mark number) rows) ≡ numbers_at k rows
numbers_mark number k [] = refl
numbers_mark number k (r ∷ rows) =
    elim (r.number == number) as (λ b. map (λ x. x.number) (cond ((cond b (skipped_row r) r).slot == k) (cond b (skipped_row r) r ∷ filter (λ x. x.slot == k) (map (mark number) rows)) (filter (λ x. x.slot == k) (map (mark number) rows))) ≡ numbers_at k (r ∷ rows)) [
      | true ↦ elim (r.slot == k) as (λ b. map (λ x. x.number) (cond b (skipped_row r ∷ filter (λ x. x.slot == k) (map (mark number) rows)) (filter (λ x. x.slot == k) (map (mark number) rows))) ≡ map (λ x. x.number) (cond b (r ∷ filter (λ x. x.slot == k) rows) (filter (λ x. x.slot == k) rows))) [
        | true ↦ ap (λ ns. r.number ∷ ns) (numbers_mark number k rows)
        | false ↦ numbers_mark number k rows
      ]
      | false ↦ elim (r.slot == k) as (λ b. map (λ x. x.number) (cond b (r ∷ filter (λ x. x.slot == k) (map (mark number) rows)) (filter (λ x. x.slot == k) (map (mark number) rows))) ≡ map (λ x. x.number) (cond b (r ∷ filter (λ x. x.slot == k) rows) (filter (λ x. x.slot == k) rows))) [
        | true ↦ ap (λ ns. r.number ∷ ns) (numbers_mark number k rows)
        | false ↦ numbers_mark number k rows
      ]
    ]

pub unskipped_mark : (number k : ℕ) (rows : List Row) → unskipped_at k (map (mark number) rows) ≡ filter (λ n. not (n == number)) (unskipped_at k rows)
unskipped_mark number k [] = refl
unskipped_mark number k (r ∷ rows) =
    let ih = unskipped_mark number k rows in
    let rest = filter (λ x. x.slot == k && not x.skipped) (map (mark number) rows) in
    let old = filter (λ x. x.slot == k && not x.skipped) rows in
    elim (r.number == number) as (λ b. r.number == number ≡ b → map (λ x. x.number) (cond ((cond b (skipped_row r) r).slot == k && not (cond b (skipped_row r) r).skipped) (cond b (skipped_row r) r ∷ rest) rest) ≡ filter (λ n. not (n == number)) (map (λ x. x.number) (cond (r.slot == k && not r.skipped) (r ∷ old) old))) [
      | true ↦ λ is. elim (r.slot == k) as (λ b. map (λ x. x.number) (cond (b && false) (skipped_row r ∷ rest) rest) ≡ filter (λ n. not (n == number)) (map (λ x. x.number) (cond (b && not r.skipped) (r ∷ old) old))) [
        | true ↦ elim r.skipped as (λ s. map (λ x. x.number) rest ≡ filter (λ n. not (n == number)) (map (λ x. x.number) (cond (not s) (r ∷ old) old))) [
          | true ↦ ih
          | false ↦ rw is ih
        ]
        | false ↦ ih
      ]
      | false ↦ λ is. elim (r.slot == k && not r.skipped) as (λ b. map (λ x. x.number) (cond b (r ∷ rest) rest) ≡ filter (λ n. not (n == number)) (map (λ x. x.number) (cond b (r ∷ old) old))) [
        | true ↦ rw is (ap (λ ns. r.number ∷ ns) ih)
        | false ↦ ih
      ]
    ] refl

pub set_mark : (rows : List Row) (at : ℕ) → AllPairs (λ r s. r.number < s.number) rows → at < length rows → set rows at (skipped_row (row_at rows at)) ≡ map (mark (row_at rows at).number) rows
set_mark rows at rising h =
    let r = skipped_row (row_at rows at) in
    let n = (row_at rows at).number in
    same_lists _ _ (length-set rows at r ∙ sym (length-map rows (mark n))) (λ k d l.
    let in' : k < length rows = let e = length-set rows at r in omega arith in
    let mapped : get_or (map (mark n) rows) k d ≡ mark n (row_at rows k) = get_or-map (mark n) rows k no_row d in' in
    elim (cases_eq k at) [
      | inl is ↦
          let here : get_or (set rows at r) k d ≡ r = rw is (get_or-set_same rows at r d h) in
          let same : mark n (row_at rows k) ≡ r = rw (is, eq-eqb n n refl) refl in
          here ∙ sym same ∙ sym mapped
      | inr isnt ↦
          let there : get_or (set rows at r) k d ≡ get_or rows k d = get_or-set_other rows at k r d isnt in
          let apart : (row_at rows k).number ≢ n = elim (cases_lt k at) [
            | inl less ↦ λ e. absurd (let p = rising k at no_row less h in omega arith)
            | inr more ↦ λ e. absurd (let p = rising at k no_row (omega arith) in' in omega arith)
          ] in
          let same : mark n (row_at rows k) ≡ row_at rows k = rw (ne_eqb (row_at rows k).number n apart) refl in
          there ∙ get_or_default rows k d no_row in' ∙ sym same ∙ sym mapped
    ])

-- ---- one row more
pub push_old : (rows : List Row) (r : Row) (i : ℕ) → i < length rows → row_at (rows ++ r ∷ []) i ≡ row_at rows i
push_old rows r i h = get_or_append_left rows (r ∷ []) no_row i h

pub push_new : (rows : List Row) (r : Row) → row_at (rows ++ r ∷ []) (length rows) ≡ r
push_new rows r = get_or_push rows r no_row (length rows) refl

pub after_push : (rows : List Row) (r : Row) (slot to last : ℕ) → to ≤ length rows → IsAfter slot rows to last → IsAfter slot (rows ++ r ∷ []) to last
after_push rows r slot to last h after = record {
  within = after.within;
  own = λ some. ap (λ x. x.slot) (push_old rows r (last - 1) (let w = after.within in omega arith)) ∙ after.own some;
  behind = λ i low high own.
      let e = push_old rows r i (omega arith) in
      ap (λ x. x.skipped) e ∙ after.behind i low high (sym (ap (λ x. x.slot) e) ∙ own);
}

-- another slot's row behind
pub after_push_other : (rows : List Row) (r : Row) (slot last : ℕ) → r.slot ≢ slot → IsAfter slot rows (length rows) last → IsAfter slot (rows ++ r ∷ []) (length (rows ++ r ∷ [])) last
after_push_other rows r slot last other after =
    let old = after_push rows r slot (length rows) last (omega arith) after in
    let long = length_push rows r in
    record {
      within = let w = after.within in omega arith;
      own = old.own;
      behind = λ i low high own.
          elim (cases_lt i (length rows)) [
            | inl less ↦ old.behind i low less own
            | inr more ↦
                let is : i ≡ length rows = omega arith in
                absurd (other (sym (ap (λ x. x.slot) (push_new rows r)) ∙ ap (λ k. (row_at (rows ++ r ∷ []) k).slot) (sym is) ∙ own))
          ];
    }

pub linked_push : (rows : List Row) (r : Row) → Linked rows → IsAfter r.slot rows (length rows) r.back → Linked (rows ++ r ∷ [])
linked_push rows r linked after i h =
    let long = length_push rows r in
    elim (cases_lt i (length rows)) [
      | inl less ↦
          let e = push_old rows r i less in
          let P : Row → Type 0 = λ x. IsAfter x.slot (rows ++ r ∷ []) i x.back in
          subst P (sym e) (after_push rows r _ i _ (omega arith) (linked i less))
      | inr more ↦
          let is : length rows ≡ i = omega arith in
          let P : Row → Type 0 = λ x. IsAfter x.slot (rows ++ r ∷ []) (length rows) x.back in
          let Q : ℕ → Type 0 = λ k. IsAfter (row_at (rows ++ r ∷ []) k).slot (rows ++ r ∷ []) k (row_at (rows ++ r ∷ []) k).back in
          subst Q is (subst P (sym (push_new rows r)) (after_push rows r _ (length rows) _ (omega arith) after))
    ]

pub numbers_push : (k : ℕ) (rows : List Row) (r : Row) → numbers_at k (rows ++ r ∷ []) ≡ numbers_at k rows ++ cond (r.slot == k) (r.number ∷ []) []
numbers_push k rows r =
    ap (map (λ x. x.number)) (filter-append (λ x. x.slot == k) rows (r ∷ []))
    ∙ map-append (λ x. x.number) (filter (λ x. x.slot == k) rows) (filter (λ x. x.slot == k) (r ∷ []))
    ∙ ap (λ ns. numbers_at k rows ++ ns) (elim (r.slot == k) as (λ b. map (λ x. x.number) (cond b (r ∷ []) []) ≡ cond b (r.number ∷ []) []) [ true ↦ refl | false ↦ refl ])

pub unskipped_push : (k : ℕ) (rows : List Row) (r : Row) → r.skipped ≡ false → unskipped_at k (rows ++ r ∷ []) ≡ unskipped_at k rows ++ cond (r.slot == k) (r.number ∷ []) []
unskipped_push k rows r un =
    ap (map (λ x. x.number)) (filter-append (λ x. x.slot == k && not x.skipped) rows (r ∷ []))
    ∙ map-append (λ x. x.number) (filter (λ x. x.slot == k && not x.skipped) rows) (filter (λ x. x.slot == k && not x.skipped) (r ∷ []))
    ∙ ap (λ ns. unskipped_at k rows ++ ns) (let P : Bool → Type 0 = λ s. map (λ x. x.number) (cond (r.slot == k && not s) (r ∷ []) []) ≡ cond (r.slot == k) (r.number ∷ []) [] in
    subst P (sym un) (elim (r.slot == k) as (λ b. map (λ x. x.number) (cond (b && true) (r ∷ []) []) ≡ cond b (r.number ∷ []) []) [ true ↦ refl | false ↦ refl ]))

pub few_numbers : (k : ℕ) (rows : List Row) → length (numbers_at k rows) ≤ length rows
few_numbers k rows =
    omega (arith, length-map (filter (λ x. x.slot == k) rows) (λ x. x.number), length-filter_both (λ x. x.slot == k) (λ x. not (x.slot == k)) (λ _. refl) rows)

-- no row is of the slot
pub no_numbers : (k : ℕ) (rows : List Row) → All (λ r. r.slot < k) rows → numbers_at k rows ≡ []
no_numbers k [] h = refl
no_numbers k (r ∷ rows) h =
    rw (ne_eqb r.slot k (let l = All-head (λ x. x.slot < k) r rows h in λ e. absurd (omega arith))) (no_numbers k rows (All-tail (λ x. x.slot < k) r rows h))

pub no_unskipped : (k : ℕ) (rows : List Row) → All (λ r. r.slot < k) rows → unskipped_at k rows ≡ []
no_unskipped k [] h = refl
no_unskipped k (r ∷ rows) h =
    rw (ne_eqb r.slot k (let l = All-head (λ x. x.slot < k) r rows h in λ e. absurd (omega arith))) (no_unskipped k rows (All-tail (λ x. x.slot < k) r rows h))

-- what holds of a slot's numbers holds of the number of each of its rows
pub row_in_numbers : (P : ℕ → Type 0) (k : ℕ) (rows : List Row) (i : ℕ) → All P (numbers_at k rows) → i < length rows → (row_at rows i).slot ≡ k → P (row_at rows i).number
row_in_numbers P k [] i h l own = absurd (omega arith)
row_in_numbers P k (r ∷ rows) zero h l own =
    let f : All P (r.number ∷ numbers_at k rows) = subst (λ (b : Bool). All P (map (λ x. x.number) (cond b (r ∷ filter (λ x. x.slot == k) rows) (filter (λ x. x.slot == k) rows)))) (eq-eqb r.slot k own) h in
    All-head P r.number (numbers_at k rows) f
row_in_numbers P k (r ∷ rows) (suc i) h l own =
    let rest : All P (numbers_at k rows) = elim (r.slot == k) as (λ b. All P (map (λ x. x.number) (cond b (r ∷ filter (λ x. x.slot == k) rows) (filter (λ x. x.slot == k) rows))) → All P (numbers_at k rows)) [
      | true ↦ λ a. All-tail P r.number (numbers_at k rows) a
      | false ↦ λ a. a
    ] h in
    row_in_numbers P k rows i rest (omega arith) own

-- ---- the place of a number
pub non_decreasing : (rows : List Row) → AllPairs (λ r s. r.number < s.number) rows → IsNonDecreasingBy (λ r. r.number) rows
non_decreasing rows rising i j d le in' =
    elim (cases_lt i j) [
      | inl less ↦ let l = rising i j d less in' in omega arith
      | inr more ↦ let e : i ≡ j = omega arith in subst (λ (k : ℕ). (get_or rows i d).number ≤ (get_or rows k d).number) e (omega arith)
    ]

-- all rows before the place are below the number, none from it on is, and the one at it is another's
pub no_place : (rows : List Row) (number at : ℕ) → AllPairs (λ r s. r.number < s.number) rows → AllWithin (λ r. ltb r.number number ≡ true) rows 0 at → AllWithin (λ r. ltb r.number number ≡ false) rows at (length rows) → (at < length rows → (row_at rows at).number ≢ number) → All (λ r. r.number ≢ number) rows
no_place rows number at rising low high here i d l e =
    elim (cases_lt i at) [
      | inl less ↦ absurd (let b = ltb-true _ _ (low i d (omega arith) less) in omega arith)
      | inr more ↦ elim (cases_eq i at) [
        | inl is ↦
            let in' : at < length rows = omega arith in
            here in' (ap (λ r. r.number) (get_or_default rows at no_row d in') ∙ ap (λ k. (get_or rows k d).number) (sym is) ∙ e)
        | inr isnt ↦
            let in' : at < length rows = omega arith in
            let b = ltb-false _ _ (high at d (omega arith) in') in
            let r = rising at i d (omega arith) l in
            absurd (omega arith)
      ]
    ]
