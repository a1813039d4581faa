-- What the question for the number of the schema answers, as members of the rows of the third table.
use Rattle.std.proofs.Common.{◌≡◌, inl, inr, ℕ, List, [], ◌∷◌, map, true, ℤ, pos, Ok, Err, refl, sym, ap, subst, ◌∙◌}
use Rattle.std.specs.List.{list_all}
use Rattle.std.specs.Ordering.{is_eq}
use Rattle.sqlite.specs.Collation.TheVariants.{Binary}
use Rattle.sqlite.specs.Ops.{binary, is_true}
use Rattle.sqlite.specs.Order.{Row, column, value_cmp}
use Rattle.sqlite.specs.Program.{overlay}
use Rattle.sqlite.specs.Query.{Output, IsAnswer, output}
use Rattle.sqlite.specs.State.{State, QueriesRow}
use Rattle.sqlite.specs.Term.{Env, holds}
use Rattle.sqlite.specs.Tree.{Trees}
use Rattle.sqlite.specs.declared.error.Error.TheVariants.{QueryReturnedNoRows}
use Rattle.sqlite.specs.declared.types.Value.{Value}
use Rattle.sqlite.specs.declared.types.Value.TheVariants.{Null, Int, Real, Text, Blob}
use Rattle.sqlite_sql.specs.declared.ops.BinaryOp.TheVariants.{Compare}
use Rattle.sqlite_sql.specs.declared.ops.CompareOp.TheVariants.{Eq}
use Rattle.sqlite_rules.specs.Lists.{Has}
use Rattle.sqlite_rules.proofs.ProbeLemmas.{has_mapped}
use Rattle.keeper_sqlite.specs.Adopting.{TellsNumber, is_schema_row}
use Rattle.keeper_sqlite.specs.Tables.{schema_fact, store_schema}
use Rattle.keeper_sqlite.proofs.Answers.{and_alone, map_has, matched, permuted, permuted_back, shown_all, shown_from, shown_rows, tested}
use Rattle.keeper_sqlite.proofs.Selecting.{false_if, none_answer, some_answer}
use Rattle.keeper_sqlite.proofs.Texts.{schema_is, schema_plain, schema_text, schema_unlisted}

abbrev bare : Row → Env
bare r = [] ∷ r ∷ []

equals_text : (v : Value) (t : List ℕ) → is_true (binary (Compare Eq Binary) v (Text t)) ≡ is_eq (value_cmp v (Text t))
unfolding binary value_cmp lib.Ieee.is_nan lib.Ieee.lt
equals_text Null t = refl
equals_text (Int n) t = refl
equals_text (Real x) t = refl
equals_text (Text s) t = tested _
equals_text (Blob b) t = refl

passes : (r : Row) → list_all (holds (bare r)) schema_fact.filter ≡ is_schema_row r
passes r = and_alone _ ∙ equals_text (column r 1) _

module _ (db : Trees) (out : List Row) (a : IsAnswer schema_fact db [] out) where
  kept_is : a.kept ≡ shown_rows schema_fact bare is_schema_row (db 4)
  kept_is = a.distinct ∙ ap (map (output schema_fact)) (a.grouped ∙ matched schema_fact bare is_schema_row passes Null db (db 4))

  number_from : (x : Row) → Has out x → (r : Row) × Has (db 4) r × (is_schema_row r ≡ true) × (x ≡ column r 2 ∷ [])
  number_from x h =
      let o = has_mapped (λ (p : Output). p.1) a.ordered x (subst (λ l. Has l x) a.shown h) in
      let s = shown_from schema_fact bare is_schema_row (db 4) o.0 (subst (λ l. Has l o.0) kept_is (permuted_back a.kept a.ordered o.0 a.same o.1)) in
      (s.0, s.1, s.2, o.2 ∙ ap (λ (p : Output). p.1) s.3)

  number_all : (r : Row) → Has (db 4) r → is_schema_row r ≡ true → Has out (column r 2 ∷ [])
  number_all r h is =
      subst (λ l. Has l (column r 2 ∷ [])) (sym a.shown)
      (map_has (λ (p : Output). p.1) a.ordered (output schema_fact (bare r)) (permuted a.kept a.ordered _ a.same (subst (λ l. Has l (output schema_fact (bare r))) (sym kept_is) (shown_all schema_fact bare is_schema_row (db 4) r h is))))

module _ (old new : State) (has : old.now.schema ≡ store_schema) where
  -- a row that is answered has the number of a row `schema`
  pub number_told : (row : Row) (n : ℤ) → QueriesRow schema_text [] old new (Ok row) → column row 0 ≡ Int n → TellsNumber (old.now.trees 4) n
  number_told row n h is =
      let a = some_answer schema_text _ _ schema_is schema_plain schema_unlisted old new [] has row h in
      let r = number_from (overlay old.now.trees []) (row ∷ a.0) a.1 row (inl refl) in
      inl (r.0, r.1, r.2, sym (ap (λ x. column x 0) r.3) ∙ is)

  -- and where none is answered there is no such row
  pub number_untold : QueriesRow schema_text [] old new (Err QueryReturnedNoRows) → TellsNumber (old.now.trees 4) (pos 0)
  number_untold h =
      let a = none_answer schema_text _ _ schema_is schema_plain schema_unlisted old new [] has h in
      inr (λ r there. false_if (is_schema_row r) (λ is. number_all (overlay old.now.trees []) [] a r there is), refl)
