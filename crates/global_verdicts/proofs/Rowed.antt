-- Rows of a log with one entry more, and the row at a place.
use Rattle.std.proofs.Common.{◌≡◌, ◌++◌, ℕ, suc, zero, Bool, true, false, cond, List, [], ◌∷◌, Some, length, take, refl, ap, sym, subst, append_assoc}
use Rattle.std.specs.List.{filter, slice_get}
use Rattle.std.proofs.lemmas.List.{append-nil}
use Rattle.rsl_chain.specs.Entries.{Taken, is_of}
use Rattle.judging.specs.Rules.{Rules}
use Rattle.policy_epochs.specs.declared.policies.Policy.{Policy}
use Rattle.entry_rules.specs.declared.faults.Fault.{Fault}
use Rattle.global_verdicts.specs.Rows.{AreRows, IsRowOf}
use Rattle.global_verdicts.specs.declared.rows.Row.{Row}

module _ (rules : Rules Policy Fault) (name : List ℕ) where
  pub rows_push : (earlier later : List Taken) (t : Taken) (rows : List Row) (row : Row) → AreRows rules name earlier later rows → IsRowOf rules name (earlier ++ later) t row
      → AreRows rules name earlier (later ++ t ∷ []) (rows ++ row ∷ [])
  rows_push earlier [] t [] row are is = (subst (λ (xs : List Taken). IsRowOf rules name xs t row) (append-nil earlier) is, tt)
  rows_push earlier [] t (x ∷ rows) row are is = absurd are
  rows_push earlier (u ∷ later) t [] row are is = absurd are
  rows_push earlier (u ∷ later) t (x ∷ rows) row are is =
      (are.0, rows_push (earlier ++ u ∷ []) later t rows row are.1 (subst (λ (xs : List Taken). IsRowOf rules name xs t row) (sym (append_assoc earlier (u ∷ []) later)) is))

  pub row_behind : (earlier later : List Taken) (rows : List Row) (i : ℕ) (row : Row) → AreRows rules name earlier later rows → slice_get rows i ≡ Some row
      → (t : Taken) × (slice_get later i ≡ Some t) × IsRowOf rules name (earlier ++ take i later) t row
  row_behind earlier [] [] i row are is = absurd (cc is)
  row_behind earlier [] (x ∷ rows) i row are is = absurd are
  row_behind earlier (u ∷ later) [] i row are is = absurd are
  row_behind earlier (u ∷ later) (x ∷ rows) zero row are is =
      let same : x ≡ row = cc is in
      let own = subst (λ (xs : List Taken). IsRowOf rules name xs u x) (sym (append-nil earlier)) are.0 in
      (u, refl, subst (λ (y : Row). IsRowOf rules name (earlier ++ []) u y) same own)
  row_behind earlier (u ∷ later) (x ∷ rows) (suc i) row are is =
      let more = row_behind (earlier ++ u ∷ []) later rows i row are.1 is in
      (more.0, more.1, subst (λ (xs : List Taken). IsRowOf rules name xs more.0 row) (append_assoc earlier (u ∷ []) (take i later)) more.2)

  pub rows_long : (earlier later : List Taken) (rows : List Row) → AreRows rules name earlier later rows → length rows ≡ length later
  rows_long earlier [] [] are = refl
  rows_long earlier [] (x ∷ rows) are = absurd are
  rows_long earlier (u ∷ later) [] are = absurd are
  rows_long earlier (u ∷ later) (x ∷ rows) are = ap suc (rows_long (earlier ++ u ∷ []) later rows are.1)

  one_more : (a b : Bool) (u : Taken) (x : Row) (ts : List Taken) (rows : List Row) → a ≡ b → length rows ≡ length ts → length (cond a (x ∷ rows) rows) ≡ length (cond b (u ∷ ts) ts)
  one_more true true u x ts rows same many = ap suc many
  one_more false false u x ts rows same many = many
  one_more true false u x ts rows same many = absurd (cc same)
  one_more false true u x ts rows same many = absurd (cc same)

  pub own_count : (earlier later : List Taken) (rows : List Row) → AreRows rules name earlier later rows → length (filter (λ row. row.own) rows) ≡ length (filter (λ t. is_of t.entry.body name) later)
  own_count earlier [] [] are = refl
  own_count earlier [] (x ∷ rows) are = absurd are
  own_count earlier (u ∷ later) [] are = absurd are
  own_count earlier (u ∷ later) (x ∷ rows) are =
      one_more x.own (is_of u.entry.body name) u x (filter (λ t. is_of t.entry.body name) later) (filter (λ row. row.own) rows) are.0.own (own_count (earlier ++ u ∷ []) later rows are.1)
