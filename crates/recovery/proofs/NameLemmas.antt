-- Names and their slots.
use Rattle.std.proofs.Common.{◌≡◌, ◌≢◌, ◌⊎◌, ◌<◌, ◌++◌, ℕ, Bool, true, false, cond, List, [], ◌∷◌, Option, Some, None, Result, Ok, Err, length, set, refl, ap, sym, subst, inl, inr, ◌∙◌, arith, get_or-set_other, get_or-set_same}
use Rattle.std.specs.BTreeMap as tree
use Rattle.std.specs.BTreeMap.{BTreeMap, is_at}
use Rattle.std.specs.Cmp.{eq_by_cmp_equiv}
use Rattle.std.specs.Cmp.Lexicographic.{bytes_decides, nat_list_cmp_total}
use Rattle.std.specs.declared.cmp.Ordering.{Ordering}
use Rattle.std.specs.declared.cmp.Ordering.TheVariants.{Equal, Less, Greater}
use Rattle.std.specs.FinMap.{nat_cmp-IsAntisymmetric, slice_cmp-IsAntisymmetric}
use Rattle.std.specs.List.{All}
use Rattle.std.specs.Map.{lookup}
use Rattle.std.specs.Result.{OnErr}
use Rattle.std.specs.Ordering.{is_eq}
use Rattle.std.specs.Str.{bytes_eq}
use Rattle.std.proofs.lemmas.Bool.{cases_Bool, cases_lt, eq-eqb, ne_eqb, true≢false}
use Rattle.std.proofs.lemmas.List.{append-nil, get_or_append_left, get_or_default, get_or_push, length-set, length_push}
use Rattle.octets.specs.BytesMap.{by_bytes}
use Rattle.recovery.specs.Lanes.{Lane, empty_lane, with_fix, with_number}
use Rattle.recovery.specs.Marking.{AreNames, AreRows, IsMarked}
use Rattle.recovery.specs.Rows.{lane_at, no_row, no_slot, numbers_at, row_at, slot_at, unskipped_at}
use Rattle.recovery.specs.Steps.{IsFresh, IsKnown, IsOpened, Skips, ending_at, fixed_slot, fresh_slot, pushed_row, pushed_slot}
use Rattle.recovery.specs.declared.rows.Row.{Row}
use Rattle.recovery.specs.declared.slots.Slot.{Slot}
use Rattle.recovery.proofs.Keeping.{fixed_kept, fresh_kept, pushed_kept}
use Rattle.recovery.proofs.LaneLemmas.{lane_for, slot_set}
use Rattle.recovery.proofs.RowLemmas.{no_numbers, no_unskipped, numbers_push, row_in_numbers, unskipped_push}

-- slots of the same names
pub names_set : (slots : List Slot) (names : BTreeMap (List ℕ) ℕ) (at : ℕ) (s : Slot) → s.name ≡ (slot_at slots at).name → AreNames slots names → AreNames (set slots at s) names
names_set slots names at s same are =
    let long = length-set slots at s in
    record {
      within = λ q k e. let l = are.within q k e in omega arith;
      named = λ q k e. slot_set (λ x. x.name) slots at s k same ∙ are.named q k e;
      known = λ k h. ap (tree.get by_bytes names) (slot_set (λ x. x.name) slots at s k same) ∙ are.known k (omega arith);
    }

-- the slot of a name is no other name's
pub one_slot : (slots : List Slot) (names : BTreeMap (List ℕ) ℕ) (name other : List ℕ) (at : ℕ) → AreNames slots names → tree.get by_bytes names name ≡ Some at → tree.get by_bytes names other ≡ Some at → name ≡ other
one_slot slots names name other at are here there = sym (are.named name at here) ∙ are.named other at there

-- a name with a slot and another
pub same_or_other : (slots : List Slot) (names : BTreeMap (List ℕ) ℕ) (name other : List ℕ) (at : ℕ) → AreNames slots names → tree.get by_bytes names name ≡ Some at → ((bytes_eq name other ≡ true) × (tree.get by_bytes names other ≡ Some at)) ⊎ ((bytes_eq name other ≡ false) × (tree.get by_bytes names other ≡ Some at → ⊥))
same_or_other slots names name other at are here =
    elim (cases_Bool (bytes_eq name other)) [
      | inl is ↦ inl (is, ap (tree.get by_bytes names) (sym ((bytes_decides name other).0 is)) ∙ here)
      | inr isnt ↦ inr (isnt, λ there. true≢false (sym ((bytes_decides name other).1 (one_slot slots names name other at are here there)) ∙ isnt))
    ]

-- ---- lanes where one name's slot was written
pub lane_changed : (rows now : List Row) (slots slots_now : List Slot) (names : BTreeMap (List ℕ) ℕ) (name other : List ℕ) (at : ℕ) (f : Lane → Lane) → AreNames slots names → tree.get by_bytes names name ≡ Some at → lane_at now slots_now at ≡ f (lane_at rows slots at) → ((k : ℕ) → k ≢ at → lane_at now slots_now k ≡ lane_at rows slots k) → lane_for now slots_now (tree.get by_bytes names other) ≡ cond (bytes_eq name other) (f (lane_for rows slots (tree.get by_bytes names other))) (lane_for rows slots (tree.get by_bytes names other))
lane_changed rows now slots slots_now names name other at f are here new old =
    let was = lane_for rows slots (tree.get by_bytes names other) in
    elim (same_or_other slots names name other at are here) [
      | inl (is, there) ↦ ap (lane_for now slots_now) there ∙ new ∙ ap (λ o. f (lane_for rows slots o)) (sym there) ∙ ap (λ b. cond b (f was) was) (sym is)
      | inr (isnt, apart) ↦
          let each : (o : Option ℕ) → (o ≡ Some at → ⊥) → lane_for now slots_now o ≡ lane_for rows slots o = elim [
            | None ↦ λ _. refl
            | Some k ↦ λ a. old k (λ e. a (ap Some e))
          ] in
          each (tree.get by_bytes names other) apart ∙ ap (λ b. cond b (f was) was) (sym isnt)
    ]

pub fixed_lane : (rows : List Row) (slots : List Slot) (at above below : ℕ) → at < length slots → lane_at rows (set slots at (fixed_slot above below (slot_at slots at))) at ≡ with_fix above below (lane_at rows slots at)
fixed_lane rows slots at above below within =
    ap (λ (x : Slot). record { pushed = numbers_at at rows; unskipped = unskipped_at at rows; pending = x.pending }) (get_or-set_same slots at (fixed_slot above below (slot_at slots at)) no_slot within)

pub other_lane : (rows : List Row) (slots : List Slot) (at k : ℕ) (s : Slot) → k ≢ at → lane_at rows (set slots at s) k ≡ lane_at rows slots k
other_lane rows slots at k s apart =
    ap (λ (x : Slot). record { pushed = numbers_at k rows; unskipped = unskipped_at k rows; pending = x.pending }) (get_or-set_other slots at k s no_slot apart)

pub pushed_lane : (rows : List Row) (slots : List Slot) (at number : ℕ) (pending : Bool) → at < length slots → lane_at (rows ++ pushed_row at number (slot_at slots at) ∷ []) (set slots at (pushed_slot (length rows) number pending (slot_at slots at))) at ≡ with_number number pending (lane_at rows slots at)
pushed_lane rows slots at number pending within =
    let r = pushed_row at number (slot_at slots at) in
    let s = pushed_slot (length rows) number pending (slot_at slots at) in
    let p : numbers_at at (rows ++ r ∷ []) ≡ numbers_at at rows ++ number ∷ [] = numbers_push at rows r ∙ ap (λ b. numbers_at at rows ++ cond b (number ∷ []) []) (eq-eqb at at refl) in
    let u : unskipped_at at (rows ++ r ∷ []) ≡ unskipped_at at rows ++ number ∷ [] = unskipped_push at rows r refl ∙ ap (λ b. unskipped_at at rows ++ cond b (number ∷ []) []) (eq-eqb at at refl) in
    let e : (slot_at (set slots at s) at).pending ≡ s.pending = ap (λ x. x.pending) (get_or-set_same slots at s no_slot within) in
    λ i. record { pushed = p i; unskipped = u i; pending = e i }

pub other_pushed_lane : (rows : List Row) (slots : List Slot) (at k number : ℕ) (pending : Bool) → k ≢ at → lane_at (rows ++ pushed_row at number (slot_at slots at) ∷ []) (set slots at (pushed_slot (length rows) number pending (slot_at slots at))) k ≡ lane_at rows slots k
other_pushed_lane rows slots at k number pending apart =
    let r = pushed_row at number (slot_at slots at) in
    let s = pushed_slot (length rows) number pending (slot_at slots at) in
    let no = ne_eqb at k (λ e. apart (sym e)) in
    let p : numbers_at k (rows ++ r ∷ []) ≡ numbers_at k rows = numbers_push k rows r ∙ ap (λ b. numbers_at k rows ++ cond b (number ∷ []) []) no ∙ append-nil (numbers_at k rows) in
    let u : unskipped_at k (rows ++ r ∷ []) ≡ unskipped_at k rows = unskipped_push k rows r refl ∙ ap (λ b. unskipped_at k rows ++ cond b (number ∷ []) []) no ∙ append-nil (unskipped_at k rows) in
    let e : (slot_at (set slots at s) k).pending ≡ (slot_at slots k).pending = ap (λ x. x.pending) (get_or-set_other slots at k s no_slot apart) in
    λ i. record { pushed = p i; unskipped = u i; pending = e i }

-- ---- a name is opened
is_equal : (o : Ordering) → is_eq o ≡ true → o ≡ Equal
is_equal Less e = absurd (true≢false (sym e))
is_equal Equal e = refl
is_equal Greater e = absurd (true≢false (sym e))

same_name : (name q : List ℕ) → is_eq (by_bytes name q) ≡ true → name ≡ q
same_name name q e = slice_cmp-IsAntisymmetric nat_cmp-IsAntisymmetric name q (is_equal (by_bytes name q) e)

tied : (name : List ℕ) → is_eq (by_bytes name name) ≡ true
tied name = (eq_by_cmp_equiv nat_list_cmp_total).refl name

-- an opened name
pub record Opened (rows : List Row) (slots : List Slot) (names : BTreeMap (List ℕ) ℕ) (name : List ℕ) (slots_now : List Slot) (names_now : BTreeMap (List ℕ) ℕ) (k : ℕ) : Type 0 where
  pub kept : AreRows rows slots_now
  pub named : AreNames slots_now names_now
  pub here : tree.get by_bytes names_now name ≡ Some k
  pub lanes : (q : List ℕ) → lane_for rows slots_now (tree.get by_bytes names_now q) ≡ lane_for rows slots (tree.get by_bytes names q)

same_gets : (names names_now : BTreeMap (List ℕ) ℕ) → names_now.entries ≡ names.entries → (q : List ℕ) → tree.get by_bytes names_now q ≡ tree.get by_bytes names q
same_gets names names_now e q = ap (lookup (is_at (by_bytes q))) e

pub names_same : (slots : List Slot) (names names_now : BTreeMap (List ℕ) ℕ) → names_now.entries ≡ names.entries → AreNames slots names → AreNames slots names_now
names_same slots names names_now e are =
    let g = same_gets names names_now e in
    record {
      within = λ q k is. are.within q k (sym (g q) ∙ is);
      named = λ q k is. are.named q k (sym (g q) ∙ is);
      known = λ k h. g (slot_at slots k).name ∙ are.known k h;
    }

known_opened : (rows : List Row) (slots : List Slot) (names : BTreeMap (List ℕ) ℕ) (name : List ℕ) (slots_now : List Slot) (names_now : BTreeMap (List ℕ) ℕ) (k : ℕ) → AreRows rows slots → AreNames slots names → IsKnown slots names name slots_now names_now k → Opened rows slots names name slots_now names_now k
known_opened rows slots names name slots_now names_now k kept are known =
    let g = same_gets names names_now known.entries in
    record {
      kept = subst (λ (x : List Slot). AreRows rows x) (sym known.same) kept;
      named = subst (λ (x : List Slot). AreNames x names_now) (sym known.same) (names_same slots names names_now known.entries are);
      here = g name ∙ known.some;
      lanes = λ q. ap (λ x. lane_for rows x (tree.get by_bytes names_now q)) known.same ∙ ap (lane_for rows slots) (g q);
    }

fresh_names : (slots : List Slot) (names : BTreeMap (List ℕ) ℕ) (name : List ℕ) (names_now : BTreeMap (List ℕ) ℕ) → AreNames slots names → tree.get by_bytes names name ≡ None → ((q : List ℕ) → tree.get by_bytes names_now q ≡ cond (is_eq (by_bytes name q)) (Some (length slots)) (tree.get by_bytes names q)) → AreNames (slots ++ fresh_slot name ∷ []) names_now
fresh_names slots names name names_now are none put =
    let s = fresh_slot name in
    let long = length_push slots s in
    let old : (k : ℕ) → k < length slots → slot_at (slots ++ s ∷ []) k ≡ slot_at slots k = λ k h. get_or_append_left slots (s ∷ []) no_slot k h in
    let new : slot_at (slots ++ s ∷ []) (length slots) ≡ s = get_or_push slots s no_slot (length slots) refl in
    record {
      within = λ q k is.
          elim (cases_Bool (is_eq (by_bytes name q))) [
            | inl e ↦ let at : Some (length slots) ≡ Some k = sym (ap (λ b. cond b (Some (length slots)) (tree.get by_bytes names q)) e) ∙ sym (put q) ∙ is in let l : length slots ≡ k = cc in omega arith
            | inr e ↦ let l = are.within q k (sym (ap (λ b. cond b (Some (length slots)) (tree.get by_bytes names q)) e) ∙ sym (put q) ∙ is) in omega arith
          ];
      named = λ q k is.
          elim (cases_Bool (is_eq (by_bytes name q))) [
            | inl e ↦
                let at : Some (length slots) ≡ Some k = sym (ap (λ b. cond b (Some (length slots)) (tree.get by_bytes names q)) e) ∙ sym (put q) ∙ is in
                let l : length slots ≡ k = cc in
                ap (λ i. (slot_at (slots ++ s ∷ []) i).name) (sym l) ∙ ap (λ x. x.name) new ∙ same_name name q e
            | inr e ↦
                let was = sym (ap (λ b. cond b (Some (length slots)) (tree.get by_bytes names q)) e) ∙ sym (put q) ∙ is in
                ap (λ x. x.name) (old k (are.within q k was)) ∙ are.named q k was
          ];
      known = λ k h.
          elim (cases_lt k (length slots)) [
            | inl less ↦
                let is : tree.get by_bytes names (slot_at slots k).name ≡ Some k = are.known k less in
                let apart : is_eq (by_bytes name (slot_at slots k).name) ≡ false = elim (cases_Bool (is_eq (by_bytes name (slot_at slots k).name))) [
                  | inl e ↦ absurd (let clash : None ≡ Some k = sym none ∙ ap (tree.get by_bytes names) (same_name name (slot_at slots k).name e) ∙ is in cc)
                  | inr e ↦ e
                ] in
                ap (λ x. tree.get by_bytes names_now x.name) (old k less) ∙ put (slot_at slots k).name ∙ ap (λ b. cond b (Some (length slots)) (tree.get by_bytes names (slot_at slots k).name)) apart ∙ is
            | inr more ↦
                let is : length slots ≡ k = omega arith in
                let here : tree.get by_bytes names_now name ≡ Some (length slots) = put name ∙ ap (λ b. cond b (Some (length slots)) (tree.get by_bytes names name)) (tied name) in
                subst (λ (i : ℕ). tree.get by_bytes names_now (slot_at (slots ++ s ∷ []) i).name ≡ Some i) is (ap (λ x. tree.get by_bytes names_now x.name) new ∙ here)
          ];
    }

fresh_opened : (rows : List Row) (slots : List Slot) (names : BTreeMap (List ℕ) ℕ) (name : List ℕ) (slots_now : List Slot) (names_now : BTreeMap (List ℕ) ℕ) (k : ℕ) → AreRows rows slots → AreNames slots names → IsFresh slots names name slots_now names_now k → Opened rows slots names name slots_now names_now k
fresh_opened rows slots names name slots_now names_now k kept are fresh =
    let s = fresh_slot name in
    let put : (q : List ℕ) → tree.get by_bytes names_now q ≡ cond (is_eq (by_bytes name q)) (Some (length slots)) (tree.get by_bytes names q) = λ q. fresh.put q ∙ ap (λ i. cond (is_eq (by_bytes name q)) (Some i) (tree.get by_bytes names q)) fresh.next in
    let lane_old : (o : Option ℕ) → ((i : ℕ) → o ≡ Some i → i < length slots) → lane_for rows (slots ++ s ∷ []) o ≡ lane_for rows slots o = elim [
      | None ↦ λ _. refl
      | Some i ↦ λ h. ap (λ (x : Slot). record { pushed = numbers_at i rows; unskipped = unskipped_at i rows; pending = x.pending }) (get_or_append_left slots (s ∷ []) no_slot i (h i refl))
    ] in
    let lane_new : lane_at rows (slots ++ s ∷ []) (length slots) ≡ empty_lane =
    let p = no_numbers (length slots) rows kept.slotted in
    let u = no_unskipped (length slots) rows kept.slotted in
    let e : (slot_at (slots ++ s ∷ []) (length slots)).pending ≡ [] = ap (λ x. x.pending) (get_or_push slots s no_slot (length slots) refl) in
    λ i. record { pushed = p i; unskipped = u i; pending = e i } in
    record {
      kept = subst (λ (x : List Slot). AreRows rows x) (sym fresh.more) (fresh_kept rows slots name kept);
      named = subst (λ (x : List Slot). AreNames x names_now) (sym fresh.more) (fresh_names slots names name names_now are fresh.none put);
      here = put name ∙ ap (λ b. cond b (Some (length slots)) (tree.get by_bytes names name)) (tied name) ∙ ap Some (sym fresh.next);
      lanes = λ q.
          ap (λ x. lane_for rows x (tree.get by_bytes names_now q)) fresh.more
          ∙ ap (lane_for rows (slots ++ s ∷ [])) (put q)
          ∙ elim (cases_Bool (is_eq (by_bytes name q))) [
            | inl e ↦
                ap (λ b. lane_for rows (slots ++ s ∷ []) (cond b (Some (length slots)) (tree.get by_bytes names q))) e ∙ lane_new
                ∙ sym (ap (λ n. lane_for rows slots (tree.get by_bytes names n)) (sym (same_name name q e)) ∙ ap (lane_for rows slots) fresh.none)
            | inr e ↦
                ap (λ b. lane_for rows (slots ++ s ∷ []) (cond b (Some (length slots)) (tree.get by_bytes names q))) e
                ∙ lane_old (tree.get by_bytes names q) (λ i is. are.within q i is)
          ];
    }

pub opened : (rows : List Row) (slots : List Slot) (names : BTreeMap (List ℕ) ℕ) (name : List ℕ) (slots_now : List Slot) (names_now : BTreeMap (List ℕ) ℕ) (k : ℕ) → AreRows rows slots → AreNames slots names → IsOpened slots names name slots_now names_now k → Opened rows slots names name slots_now names_now k
opened rows slots names name slots_now names_now k kept are (inl known) = known_opened rows slots names name slots_now names_now k kept are known
opened rows slots names name slots_now names_now k kept are (inr fresh) = fresh_opened rows slots names name slots_now names_now k kept are fresh

-- ---- the calls that change
pub names_skipped : (number : ℕ) (rows : List Row) (slots : List Slot) (now : List Row) (slots_now : List Slot) (names : BTreeMap (List ℕ) ℕ) → Skips number rows slots now slots_now → AreNames slots names → AreNames slots_now names
names_skipped number rows slots now slots_now names (inl none) are = subst (λ (x : List Slot). AreNames x names) (sym none.slot) are
names_skipped number rows slots now slots_now names (inr (at, within, is, skips)) are =
    let k = (row_at rows at).slot in
    subst (λ (x : List Slot). AreNames x names) (sym skips.slot) (names_set slots names k (ending_at skips.last (slot_at slots k)) refl are)

pub fixed_marked : (rows : List Row) (slots slots_now : List Slot) (names : BTreeMap (List ℕ) ℕ) (name : List ℕ) (at above below : ℕ) → IsMarked rows slots names → tree.get by_bytes names name ≡ Some at → slots_now ≡ set slots at (fixed_slot above below (slot_at slots at)) → IsMarked rows slots_now names
fixed_marked rows slots slots_now names name at above below marked here is =
    let within = marked.named.within name at here in
    subst (λ (x : List Slot). IsMarked rows x names) (sym is) (record {
      kept = fixed_kept rows slots at above below marked.kept within;
      named = names_set slots names at (fixed_slot above below (slot_at slots at)) refl marked.named;
    })

pub fix_lanes : (rows : List Row) (slots slots_now : List Slot) (names : BTreeMap (List ℕ) ℕ) (name other : List ℕ) (at above below : ℕ) → IsMarked rows slots names → tree.get by_bytes names name ≡ Some at → slots_now ≡ set slots at (fixed_slot above below (slot_at slots at)) → lane_for rows slots_now (tree.get by_bytes names other) ≡ cond (bytes_eq name other) (with_fix above below (lane_for rows slots (tree.get by_bytes names other))) (lane_for rows slots (tree.get by_bytes names other))
fix_lanes rows slots slots_now names name other at above below marked here is =
    let within = marked.named.within name at here in
    let s = fixed_slot above below (slot_at slots at) in
    ap (λ x. lane_for rows x (tree.get by_bytes names other)) is
    ∙ lane_changed rows rows slots (set slots at s) names name other at (with_fix above below) marked.named here (fixed_lane rows slots at above below within) (λ k apart. other_lane rows slots at k s apart)

pub no_fix : (rows : List Row) (slots : List Slot) (names : BTreeMap (List ℕ) ℕ) (name other : List ℕ) (above below : ℕ) → tree.get by_bytes names name ≡ None → lane_for rows slots (tree.get by_bytes names other) ≡ cond (bytes_eq name other) (with_fix above below (lane_for rows slots (tree.get by_bytes names other))) (lane_for rows slots (tree.get by_bytes names other))
no_fix rows slots names name other above below none =
    let lane = lane_for rows slots (tree.get by_bytes names other) in
    elim (cases_Bool (bytes_eq name other)) [
      | inl is ↦
          let empty : lane ≡ empty_lane = ap (λ n. lane_for rows slots (tree.get by_bytes names n)) (sym ((bytes_decides name other).0 is)) ∙ ap (lane_for rows slots) none in
          empty ∙ ap (with_fix above below) (sym empty) ∙ ap (λ b. cond b (with_fix above below lane) lane) (sym is)
      | inr isnt ↦ ap (λ b. cond b (with_fix above below lane) lane) (sym isnt)
    ]

-- all rows are below a number that is greater than all that were pushed
pub all_below : (rows : List Row) (slots : List Slot) (names : BTreeMap (List ℕ) ℕ) (number : ℕ) → IsMarked rows slots names → ((name : List ℕ) → All (λ n. n < number) (lane_for rows slots (tree.get by_bytes names name)).pushed) → All (λ r. r.number < number) rows
all_below rows slots names number marked new i d h =
    let k = (row_at rows i).slot in
    let known = marked.named.known k (marked.kept.slotted i no_row h) in
    let below = subst (λ (o : Option ℕ). All (λ n. n < number) (lane_for rows slots o).pushed) known (new (slot_at slots k).name) in
    subst (λ (r : Row). r.number < number) (get_or_default rows i no_row d h) (row_in_numbers (λ n. n < number) k rows i below h refl)

pub push_marked : (rows now : List Row) (slots slots_now : List Slot) (names : BTreeMap (List ℕ) ℕ) (at number : ℕ) (pending : Bool) → AreRows rows slots → AreNames slots names → at < length slots → All (λ r. r.number < number) rows → now ≡ rows ++ pushed_row at number (slot_at slots at) ∷ [] → slots_now ≡ set slots at (pushed_slot (length rows) number pending (slot_at slots at)) → IsMarked now slots_now names
push_marked rows now slots slots_now names at number pending kept named within below row slot =
    let s = pushed_slot (length rows) number pending (slot_at slots at) in
    let r = pushed_row at number (slot_at slots at) in
    subst (λ (x : List Row). IsMarked x slots_now names) (sym row) (subst (λ (x : List Slot). IsMarked (rows ++ r ∷ []) x names) (sym slot) (record {
      kept = pushed_kept rows slots at number pending kept within below;
      named = names_set slots names at s refl named;
    }))

pub push_lanes : (rows now : List Row) (slots slots_now : List Slot) (names : BTreeMap (List ℕ) ℕ) (name other : List ℕ) (at number : ℕ) (pending : Bool) → AreNames slots names → tree.get by_bytes names name ≡ Some at → now ≡ rows ++ pushed_row at number (slot_at slots at) ∷ [] → slots_now ≡ set slots at (pushed_slot (length rows) number pending (slot_at slots at)) → lane_for now slots_now (tree.get by_bytes names other) ≡ cond (bytes_eq name other) (with_number number pending (lane_for rows slots (tree.get by_bytes names other))) (lane_for rows slots (tree.get by_bytes names other))
push_lanes rows now slots slots_now names name other at number pending named here row slot =
    let within = named.within name at here in
    let s = pushed_slot (length rows) number pending (slot_at slots at) in
    let r = pushed_row at number (slot_at slots at) in
    ap (λ x. lane_for x slots_now (tree.get by_bytes names other)) row ∙ ap (λ x. lane_for (rows ++ r ∷ []) x (tree.get by_bytes names other)) slot
    ∙ lane_changed rows (rows ++ r ∷ []) slots (set slots at s) names name other at (with_number number pending) named here (pushed_lane rows slots at number pending within) (λ k apart. other_pushed_lane rows slots at k number pending apart)

pub on_err : {T E : Type 0} {P : Type 0} → (r : Result T E) → P → OnErr r P
on_err (Ok x) p = tt
on_err (Err e) p = p
