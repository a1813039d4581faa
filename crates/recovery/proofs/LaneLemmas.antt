-- What the map from names to lanes has at a name, and how rows and slots change it.
use Rattle.std.proofs.Common.{◌≡◌, ◌==◌, ℕ, true, false, cond, not, List, [], ◌∷◌, Option, Some, None, length, set, map, refl, ap, sym, inl, inr, ◌∙◌, get_or-set_other, get_or-set_same}
use Rattle.std.specs.BTreeMap as tree
use Rattle.std.specs.BTreeMap.{BTreeMap, is_at}
use Rattle.std.specs.Cmp.Lexicographic.{nat_list_cmp_total}
use Rattle.std.specs.FinMap.{find, get-from_entries}
use Rattle.std.specs.List.{filter}
use Rattle.std.specs.Map.{lookup}
use Rattle.std.specs.Option.{option_map, unwrap_or}
use Rattle.std.proofs.lemmas.Bool.{cases_eq, cases_lt}
use Rattle.std.proofs.lemmas.List.{set_past}
use Rattle.octets.specs.BytesMap.{by_bytes}
use Rattle.recovery.specs.Lanes.{Lane, empty_lane, lane_of, with_skip}
use Rattle.recovery.specs.Marking.{AreRows, lanes}
use Rattle.recovery.specs.Rows.{lane_at, no_slot, numbers_at, slot_at, unskipped_at}
use Rattle.recovery.specs.Steps.{Skips}
use Rattle.recovery.specs.declared.rows.Row.{Row}
use Rattle.recovery.specs.declared.slots.Slot.{Slot}
use Rattle.recovery.proofs.RowLemmas.{mark, mark_none, numbers_mark, set_mark, unskipped_mark}

find_mapped : {X : Type 0} (f : ℕ → X) (q : List ℕ) (es : List (List ℕ × ℕ)) → find by_bytes q (map (λ e. (e.0, f e.1)) es) ≡ option_map f (lookup (is_at (by_bytes q)) es)
find_mapped f q [] = refl
find_mapped f q (e ∷ es) =
    elim (is_at (by_bytes q) e.0) as (λ b. cond b (Some (f e.1)) (find by_bytes q (map (λ x. (x.0, f x.1)) es)) ≡ option_map f (cond b (Some e.1) (lookup (is_at (by_bytes q)) es))) [
      | true ↦ refl
      | false ↦ find_mapped f q es
    ]

-- the lane of what a name's slot is
abbrev pub lane_for : List Row → List Slot → Option ℕ → Lane
lane_for rows slots None = empty_lane
lane_for rows slots (Some k) = lane_at rows slots k

unwrapped : (rows : List Row) (slots : List Slot) (o : Option ℕ) → unwrap_or (option_map (lane_at rows slots) o) empty_lane ≡ lane_for rows slots o
unwrapped rows slots None = refl
unwrapped rows slots (Some k) = refl

pub lanes_are : (rows : List Row) (slots : List Slot) (names : BTreeMap (List ℕ) ℕ) (q : List ℕ) → lane_of (lanes rows slots names) q ≡ lane_for rows slots (tree.get by_bytes names q)
lanes_are rows slots names q =
    ap (λ o. unwrap_or o empty_lane) (get-from_entries nat_list_cmp_total (map (λ e. (e.0, lane_at rows slots e.1)) names.entries) q ∙ find_mapped (lane_at rows slots) q names.entries)
    ∙ unwrapped rows slots (tree.get by_bytes names q)

-- ---- a slot that is written keeps what the new value keeps
pub slot_set : {X : Type 0} (f : Slot → X) (slots : List Slot) (at : ℕ) (s : Slot) (k : ℕ) → f s ≡ f (slot_at slots at) → f (slot_at (set slots at s) k) ≡ f (slot_at slots k)
slot_set f slots at s k e =
    elim (cases_lt at (length slots)) [
      | inl within ↦ elim (cases_eq k at) [
        | inl is ↦ ap (λ i. f (slot_at (set slots at s) i)) is ∙ ap f (get_or-set_same slots at s no_slot within) ∙ e ∙ ap (λ i. f (slot_at slots i)) (sym is)
        | inr isnt ↦ ap f (get_or-set_other slots at k s no_slot isnt)
      ]
      | inr past ↦ ap (λ xs. f (slot_at xs k)) (set_past slots at s past)
    ]

-- ---- a skip
pub skipped_lane : (rows now : List Row) (slots slots_now : List Slot) (number : ℕ) → now ≡ map (mark number) rows → ((k : ℕ) → (slot_at slots_now k).pending ≡ (slot_at slots k).pending) → (o : Option ℕ) → lane_for now slots_now o ≡ with_skip number (lane_for rows slots o)
skipped_lane rows now slots slots_now number is same None = refl
skipped_lane rows now slots slots_now number is same (Some k) =
    let p : numbers_at k now ≡ numbers_at k rows = ap (numbers_at k) is ∙ numbers_mark number k rows in
    let u : unskipped_at k now ≡ filter (λ n. not (n == number)) (unskipped_at k rows) = ap (unskipped_at k) is ∙ unskipped_mark number k rows in
    λ i. record { pushed = p i; unskipped = u i; pending = same k i }

pub skips_lane : (number : ℕ) (rows : List Row) (slots : List Slot) (now : List Row) (slots_now : List Slot) → AreRows rows slots → Skips number rows slots now slots_now → (o : Option ℕ) → lane_for now slots_now o ≡ with_skip number (lane_for rows slots o)
skips_lane number rows slots now slots_now kept (inl none) =
    skipped_lane rows now slots slots_now number (none.row ∙ sym (mark_none number rows none.none)) (λ k. ap (λ xs. (slot_at xs k).pending) none.slot)
skips_lane number rows slots now slots_now kept (inr (at, within, is, skips)) =
    skipped_lane rows now slots slots_now number (skips.row ∙ set_mark rows at kept.rising within ∙ ap (λ n. map (mark n) rows) is)
    (λ k. ap (λ xs. (slot_at xs k).pending) skips.slot ∙ slot_set (λ s. s.pending) slots _ _ k refl)

pub no_names : (names : BTreeMap (List ℕ) ℕ) (q : List ℕ) → names.entries ≡ [] → tree.get by_bytes names q ≡ None
no_names names q e = ap (lookup (is_at (by_bytes q))) e
