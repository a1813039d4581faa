-- Rows, lines and the last epoch of a log with one entry more, and the row at a place.
use Rattle.std.proofs.Common.{◌≡◌, ◌<◌, ◌≤◌, ◌&&◌, ◌++◌, ℕ, suc, zero, Bool, true, false, cond, is_none, List, [], ◌∷◌, Option, Some, length, take, refl, ap, sym, ◌∙◌, append_assoc}
use Rattle.std.specs.List.{filter, slice_get}
use Rattle.std.proofs.lemmas.List.{append-nil}
use Rattle.git_object.specs.References.{policy_name}
use Rattle.rsl_chain.specs.Entries.{Taken, is_of}
use Rattle.recovery.specs.Lanes.{last_of}
use Rattle.judging.specs.Logs.{authorised, entry_at, fault_of, is_entry_of, numbers}
use Rattle.judging.specs.Rules.{Rules}
use Rattle.judging.proofs.Appends.{entry_new, entry_old, fault_new, fault_old, long}
use Rattle.judging.proofs.Counting.{filter_same, filter_suc}
use Rattle.policy_epochs.specs.declared.policies.Policy.{Policy}
use Rattle.entry_rules.specs.declared.faults.Fault.{Fault}
use Rattle.account_lines.specs.declared.rows.EntryRow.{EntryRow}
use Rattle.accounts.specs.Rows.{epoch_of, opens_at, row_of, rows_behind, rows_of}

module _ (anchor : Option (List (List ℕ))) where
  rows_push : (earlier later : List Taken) (t : Taken) → rows_behind anchor earlier (later ++ t ∷ []) ≡ rows_behind anchor earlier later ++ row_of anchor (earlier ++ later) t ∷ []
  rows_push earlier [] t = ap (λ (xs : List Taken). row_of anchor xs t ∷ []) (sym (append-nil earlier))
  rows_push earlier (x ∷ later) t =
      ap (λ (rows : List EntryRow). row_of anchor earlier x ∷ rows) (rows_push (earlier ++ x ∷ []) later t
      ∙ ap (λ (xs : List Taken). rows_behind anchor (earlier ++ x ∷ []) later ++ row_of anchor xs t ∷ []) (append_assoc earlier (x ∷ []) later))

  pub rows_more : (log : List Taken) (t : Taken) → rows_of anchor (log ++ t ∷ []) ≡ rows_of anchor log ++ row_of anchor log t ∷ []
  rows_more log t = rows_push [] log t

  row_behind : (earlier later : List Taken) (i : ℕ) (row : EntryRow) → slice_get (rows_behind anchor earlier later) i ≡ Some row → (t : Taken) × (slice_get later i ≡ Some t) × (row ≡ row_of anchor (earlier ++ take i later) t)
  row_behind earlier [] i row is = absurd (cc is)
  row_behind earlier (x ∷ later) zero row is =
      let same : row_of anchor earlier x ≡ row = cc is in
      (x, refl, sym same ∙ ap (λ (xs : List Taken). row_of anchor xs x) (sym (append-nil earlier)))
  row_behind earlier (x ∷ later) (suc i) row is =
      let more = row_behind (earlier ++ x ∷ []) later i row is in
      (more.0, more.1, more.2 ∙ ap (λ (xs : List Taken). row_of anchor xs more.0) (append_assoc earlier (x ∷ []) (take i later)))

  pub row_there : (log : List Taken) (i : ℕ) (row : EntryRow) → slice_get (rows_of anchor log) i ≡ Some row → (t : Taken) × (slice_get log i ≡ Some t) × (row ≡ row_of anchor (take i log) t)
  row_there log i row is = row_behind [] log i row is

  rows_long : (earlier later : List Taken) → length (rows_behind anchor earlier later) ≡ length later
  rows_long earlier [] = refl
  rows_long earlier (x ∷ later) = ap suc (rows_long (earlier ++ x ∷ []) later)

  pub as_many : (log : List Taken) → length (rows_of anchor log) ≡ length log
  as_many log = rows_long [] log

-- ---- the last epoch

last_push : (xs : List ℕ) (y : ℕ) → last_of (xs ++ y ∷ []) ≡ Some y
last_push [] y = refl
last_push (x ∷ []) y = refl
last_push (x ∷ z ∷ zs) y = last_push (z ∷ zs) y

last_cond : (xs : List ℕ) (b : Bool) (y : ℕ) → last_of (xs ++ cond b (y ∷ []) []) ≡ cond b (Some y) (last_of xs)
last_cond xs true y = last_push xs y
last_cond xs false y = ap last_of (append-nil xs)

module _ (rules : Rules Policy Fault) (log : List Taken) (t : Taken) where
  opens_old : (i : ℕ) → 0 < i → i ≤ length log → opens_at rules (log ++ t ∷ []) i ≡ opens_at rules log i
  opens_old i a b =
      ap (λ (x : Option Taken). is_entry_of x policy_name && authorised rules (log ++ t ∷ []) i) (entry_old log (t ∷ []) i a b)
      ∙ ap (λ (f : Option Fault). is_entry_of (entry_at log i) policy_name && is_none f) (fault_old rules log (t ∷ []) i a b)

  opens_new : opens_at rules (log ++ t ∷ []) (suc (length log)) ≡ (is_of t.entry.body policy_name && is_none (fault_of rules log (Some t)))
  opens_new =
      ap (λ (x : Option Taken). is_entry_of x policy_name && authorised rules (log ++ t ∷ []) (suc (length log))) (entry_new log t)
      ∙ ap (λ (f : Option Fault). is_of t.entry.body policy_name && is_none f) (fault_new rules log t)

  pub epoch_more : epoch_of rules (log ++ t ∷ []) ≡ cond (is_of t.entry.body policy_name && is_none (fault_of rules log (Some t))) (Some (suc (length log))) (epoch_of rules log)
  epoch_more =
      let n = length log in
      let p = opens_at rules (log ++ t ∷ []) in
      let q = opens_at rules log in
      ap (λ (k : ℕ). last_of (filter p (numbers k))) (long log t)
      ∙ ap last_of (filter_suc p n ∙ ap (λ (xs : List ℕ). xs ++ cond (p (suc n)) (suc n ∷ []) []) (filter_same p q n opens_old)
      ∙ ap (λ (b : Bool). filter q (numbers n) ++ cond b (suc n ∷ []) []) opens_new)
      ∙ last_cond (filter q (numbers n)) (is_of t.entry.body policy_name && is_none (fault_of rules log (Some t))) (suc n)
