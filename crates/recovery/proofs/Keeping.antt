-- Rows and slots stand together after each step.
use Rattle.std.proofs.Common.{◌≡◌, ◌≢◌, ◌<◌, ◌+◌, ◌-◌, ◌++◌, ℕ, Bool, true, false, cond, List, [], ◌∷◌, length, get_or, set, refl, ap, sym, subst, inl, inr, ◌∙◌, arith, get_or-set_other, get_or-set_same}
use Rattle.std.specs.List.{All, AllPairs}
use Rattle.std.proofs.lemmas.Bool.{cases_eq, cases_lt, eq-eqb, ne_eqb}
use Rattle.std.proofs.lemmas.List.{append-nil, get_or_append_left, get_or_push, get_or_default, length-set, length_push}
use Rattle.std.proofs.lemmas.List.Elements.{All-filter, All-push}
use Rattle.recovery.specs.Lanes.{is_outside}
use Rattle.recovery.specs.Marking.{AreRows, IsSlot}
use Rattle.recovery.specs.Rows.{IsAfter, IsLast, no_row, no_slot, numbers_at, row_at, slot_at}
use Rattle.recovery.specs.Steps.{Skips, ending_at, fixed_slot, fresh_slot, pushed_row, pushed_slot, skipped_row}
use Rattle.recovery.specs.declared.rows.Row.{Row}
use Rattle.recovery.specs.declared.slots.Slot.{Slot}
use Rattle.recovery.proofs.RowLemmas.{Kept, after_kept, after_push_other, kept_set, linked_kept, linked_push, no_numbers, numbers_mark, numbers_push, push_new, push_old, set_mark}

-- what holds of each slot and of the new value holds of each slot then
slots_set : (P : ℕ → Slot → Type 0) (slots : List Slot) (at : ℕ) (s : Slot) → at < length slots → ((k : ℕ) → k < length slots → k ≢ at → P k (slot_at slots k)) → P at s → (k : ℕ) → k < length (set slots at s) → P k (slot_at (set slots at s) k)
slots_set P slots at s within old new k h =
    let long = length-set slots at s in
    elim (cases_eq k at) [
      | inl is ↦ subst (λ (j : ℕ). P j (slot_at (set slots at s) j)) (sym is) (subst (λ (x : Slot). P at x) (sym (get_or-set_same slots at s no_slot within)) new)
      | inr isnt ↦ subst (λ (x : Slot). P k x) (sym (get_or-set_other slots at k s no_slot isnt)) (old k (omega arith) isnt)
    ]

-- ---- a skip
all_kept : (rows now : List Row) (top : ℕ) → Kept rows now → All (λ r. r.number < top) now → All (λ r. r.number < top) rows
all_kept rows now top kept h i d l =
    let in' : i < length now = let e = kept.long in omega arith in
    let a : (row_at now i).number < top = h i no_row in' in
    let b : (row_at rows i).number < top = subst (λ (n : ℕ). n < top) (kept.number i) a in
    subst (λ (x : Row). x.number < top) (get_or_default rows i no_row d l) b

slot_kept : (rows : List Row) (at k : ℕ) (s : Slot) → AllPairs (λ r s. r.number < s.number) rows → at < length rows → (row_at rows at).slot ≢ k → IsSlot rows k s → IsSlot (set rows at (skipped_row (row_at rows at))) k s
slot_kept rows at k s rising within other is =
    let now = set rows at (skipped_row (row_at rows at)) in
    let kept = kept_set rows at within in
    record {
      last = record {
        after = subst (λ (n : ℕ). IsAfter k now n s.last) (sym kept.long) (after_kept rows now k (length rows) s.last kept is.last.after);
        unskipped = λ some.
            let apart : s.last - 1 ≢ at = λ e. other (ap (λ i. (row_at rows i).slot) (sym e) ∙ is.last.after.own some) in
            ap (λ r. r.skipped) (get_or-set_other rows at (s.last - 1) (skipped_row (row_at rows at)) no_row apart) ∙ is.last.unskipped some;
      };
      count = is.count ∙ ap length (sym (ap (numbers_at k) (set_mark rows at rising within) ∙ numbers_mark (row_at rows at).number k rows));
      pending = λ top h. is.pending top (all_kept rows now top kept h);
    }

skipped_slot : (rows : List Row) (at : ℕ) (s : Slot) (last : ℕ) → AllPairs (λ r s. r.number < s.number) rows → at < length rows → IsSlot rows (row_at rows at).slot s → IsLast (row_at rows at).slot (set rows at (skipped_row (row_at rows at))) last → IsSlot (set rows at (skipped_row (row_at rows at))) (row_at rows at).slot (ending_at last s)
skipped_slot rows at s last rising within is is_last =
    let now = set rows at (skipped_row (row_at rows at)) in
    record {
      last = is_last;
      count = is.count ∙ ap length (sym (ap (numbers_at (row_at rows at).slot) (set_mark rows at rising within) ∙ numbers_mark (row_at rows at).number (row_at rows at).slot rows));
      pending = λ top h. is.pending top (all_kept rows now top (kept_set rows at within) h);
    }

skips_at : (rows : List Row) (slots : List Slot) (at last : ℕ) → AreRows rows slots → at < length rows → IsLast (row_at rows at).slot (set rows at (skipped_row (row_at rows at))) last → AreRows (set rows at (skipped_row (row_at rows at))) (set slots (row_at rows at).slot (ending_at last (slot_at slots (row_at rows at).slot)))
skips_at rows slots at last kept within is_last =
    let now = set rows at (skipped_row (row_at rows at)) in
    let k = (row_at rows at).slot in
    let s = ending_at last (slot_at slots k) in
    let ks = kept_set rows at within in
    let of_slot : k < length slots = kept.slotted at no_row within in
    let long = length-set slots k s in
    record {
      rising = λ i j d less in'.
          let in'' : j < length rows = let e = ks.long in omega arith in
          let was : (row_at rows i).number < (row_at rows j).number = kept.rising i j no_row less in'' in
          let is : (row_at now i).number < (row_at now j).number = let e = ks.number i in let f = ks.number j in omega arith in
          let jn : j < length now = in' in
          let inn : i < length now = omega arith in
          subst (λ (x : Row). x.number < (get_or now j d).number) (get_or_default now i no_row d inn) (subst (λ (x : Row). (row_at now i).number < x.number) (get_or_default now j no_row d jn) is);
      slotted = λ i d h.
          let e = ks.long in
          let was : (row_at rows i).slot < length slots = kept.slotted i no_row (omega arith) in
          let is : (row_at now i).slot < length (set slots k s) = let f = ks.slot i in omega arith in
          subst (λ (x : Row). x.slot < length (set slots k s)) (get_or_default now i no_row d h) is;
      linked = linked_kept rows now ks kept.linked;
      stand = slots_set (IsSlot now) slots k s of_slot (λ j h apart. slot_kept rows at j (slot_at slots j) kept.rising within (λ e. apart (sym e)) (kept.stand j h)) (skipped_slot rows at (slot_at slots k) last kept.rising within (kept.stand k of_slot) is_last);
    }

pub skips_kept : (number : ℕ) (rows : List Row) (slots : List Slot) (now : List Row) (slots_now : List Slot) → AreRows rows slots → Skips number rows slots now slots_now → AreRows now slots_now
skips_kept number rows slots now slots_now kept (inl none) =
    subst (λ (x : List Row). AreRows x slots_now) (sym none.row) (subst (λ (x : List Slot). AreRows rows x) (sym none.slot) kept)
skips_kept number rows slots now slots_now kept (inr (at, within, is, skips)) =
    let l : IsLast (row_at rows at).slot (set rows at (skipped_row (row_at rows at))) skips.last = subst (λ (x : List Row). IsLast (row_at rows at).slot x skips.last) skips.row skips.is_last in
    subst (λ (x : List Row). AreRows x slots_now) (sym skips.row) (subst (λ (x : List Slot). AreRows (set rows at (skipped_row (row_at rows at))) x) (sym skips.slot) (skips_at rows slots at skips.last kept within l))

-- ---- a number more
rising_push : (rows : List Row) (r : Row) → AllPairs (λ r s. r.number < s.number) rows → All (λ x. x.number < r.number) rows → AllPairs (λ r s. r.number < s.number) (rows ++ r ∷ [])
rising_push rows r rising below i j d less in' =
    let long = length_push rows r in
    elim (cases_lt j (length rows)) [
      | inl old ↦
          rw (get_or_append_left rows (r ∷ []) d i (omega arith), get_or_append_left rows (r ∷ []) d j old) (rising i j d less old)
      | inr new ↦
          let is : length rows ≡ j = omega arith in
          rw (get_or_append_left rows (r ∷ []) d i (omega arith), get_or_push rows r d j is) (below i d (omega arith))
    ]

all_front : (rows : List Row) (r : Row) (top : ℕ) → All (λ x. x.number < top) (rows ++ r ∷ []) → All (λ x. x.number < top) rows
all_front rows r top h i d l =
    let long = length_push rows r in
    subst (λ (x : Row). x.number < top) (get_or_append_left rows (r ∷ []) d i l) (h i d (omega arith))

other_slot_pushed : (rows : List Row) (r : Row) (k : ℕ) (s : Slot) → r.slot ≢ k → IsSlot rows k s → IsSlot (rows ++ r ∷ []) k s
other_slot_pushed rows r k s other is = record {
  last = record {
    after = after_push_other rows r k s.last other is.last.after;
    unskipped = λ some. ap (λ x. x.skipped) (push_old rows r (s.last - 1) (let w = is.last.after.within in omega arith)) ∙ is.last.unskipped some;
  };
  count = is.count ∙ ap length (sym (numbers_push k rows r ∙ ap (λ b. numbers_at k rows ++ cond b (r.number ∷ []) []) (ne_eqb r.slot k other) ∙ append-nil (numbers_at k rows)));
  pending = λ top h. is.pending top (all_front rows r top h);
}

pending_pushed : (old : List ℕ) (number top : ℕ) (pending : Bool) → All (λ n. n < top) old → number < top → All (λ n. n < top) (cond pending (old ++ number ∷ []) old)
pending_pushed old number top true h l = All-push (λ n. n < top) old number h l
pending_pushed old number top false h l = h

own_slot_pushed : (rows : List Row) (k number : ℕ) (pending : Bool) (s : Slot) → IsSlot rows k s → IsSlot (rows ++ pushed_row k number s ∷ []) k (pushed_slot (length rows) number pending s)
own_slot_pushed rows k number pending s is =
    let r = pushed_row k number s in
    let long = length_push rows r in
    let at_end : length rows + 1 - 1 ≡ length rows = omega arith in
    let here : row_at (rows ++ r ∷ []) (length rows + 1 - 1) ≡ r = ap (row_at (rows ++ r ∷ [])) at_end ∙ push_new rows r in
    record {
      last = record {
        after = record {
          within = omega arith;
          own = λ some. ap (λ x. x.slot) here;
          behind = λ i low high own. absurd (omega arith);
        };
        unskipped = λ some. ap (λ x. x.skipped) here;
      };
      count =
          let e = numbers_push k rows r ∙ ap (λ b. numbers_at k rows ++ cond b (number ∷ []) []) (eq-eqb k k refl) in
          let l : length (numbers_at k (rows ++ r ∷ [])) ≡ length (numbers_at k rows) + 1 = ap length e ∙ length_push (numbers_at k rows) number in
          let c = is.count in
          omega arith;
      pending = λ top h.
          let new : number < top = subst (λ (x : Row). x.number < top) (push_new rows r) (h (length rows) no_row (omega arith)) in
          pending_pushed s.pending number top pending (is.pending top (all_front rows r top h)) new;
    }

pub pushed_kept : (rows : List Row) (slots : List Slot) (at number : ℕ) (pending : Bool) → AreRows rows slots → at < length slots → All (λ r. r.number < number) rows → AreRows (rows ++ pushed_row at number (slot_at slots at) ∷ []) (set slots at (pushed_slot (length rows) number pending (slot_at slots at)))
pushed_kept rows slots at number pending kept within below =
    let s = slot_at slots at in
    let r = pushed_row at number s in
    let long = length-set slots at (pushed_slot (length rows) number pending s) in
    record {
      rising = rising_push rows r kept.rising below;
      slotted = subst (λ (n : ℕ). All (λ x. x.slot < n) (rows ++ r ∷ [])) (sym long) (All-push (λ x. x.slot < length slots) rows r kept.slotted within);
      linked = linked_push rows r kept.linked (kept.stand at within).last.after;
      stand = slots_set (IsSlot (rows ++ r ∷ [])) slots at (pushed_slot (length rows) number pending s) within (λ k h apart. other_slot_pushed rows r k (slot_at slots k) (λ e. apart (sym e)) (kept.stand k h)) (own_slot_pushed rows at number pending s (kept.stand at within));
    }

-- ---- a fix
pub fixed_kept : (rows : List Row) (slots : List Slot) (at above below : ℕ) → AreRows rows slots → at < length slots → AreRows rows (set slots at (fixed_slot above below (slot_at slots at)))
fixed_kept rows slots at above below kept within =
    let s = slot_at slots at in
    let is = kept.stand at within in
    record {
      rising = kept.rising;
      slotted = subst (λ (n : ℕ). All (λ x. x.slot < n) rows) (sym (length-set slots at (fixed_slot above below s))) kept.slotted;
      linked = kept.linked;
      stand = slots_set (IsSlot rows) slots at (fixed_slot above below s) within (λ k h apart. kept.stand k h) (record {
        last = is.last;
        count = is.count;
        pending = λ top h. All-filter (is_outside above below) (λ n. n < top) s.pending (is.pending top h);
      });
    }

-- ---- a name more
pub fresh_kept : (rows : List Row) (slots : List Slot) (name : List ℕ) → AreRows rows slots → AreRows rows (slots ++ fresh_slot name ∷ [])
fresh_kept rows slots name kept =
    let s = fresh_slot name in
    let long = length_push slots s in
    record {
      rising = kept.rising;
      slotted = λ i d h. let l = kept.slotted i d h in omega arith;
      linked = kept.linked;
      stand = λ k h.
          elim (cases_lt k (length slots)) [
            | inl old ↦ subst (λ (x : Slot). IsSlot rows k x) (sym (get_or_append_left slots (s ∷ []) no_slot k old)) (kept.stand k old)
            | inr new ↦
                let is : length slots ≡ k = omega arith in
                subst (λ (x : Slot). IsSlot rows k x) (sym (get_or_push slots s no_slot k is)) (record {
                  last = record {
                    after = record {
                      within = omega arith;
                      own = λ some. absurd (omega arith);
                      behind = λ i low high own. absurd (let l = kept.slotted i no_row high in omega arith);
                    };
                    unskipped = λ some. absurd (omega arith);
                  };
                  count = ap length (sym (no_numbers k rows (subst (λ (n : ℕ). All (λ x. x.slot < n) rows) is kept.slotted)));
                  pending = λ top h i d l. absurd (omega arith);
                })
          ];
    }
