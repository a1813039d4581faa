-- What a selection of one row leaves of the connection, and what it answers.
use Rattle.std.proofs.Common.{◌≡◌, inl, inr, ℕ, List, [], ◌∷◌, map, Bool, true, false, Option, Some, None, Ok, Err, Result, IsTrue, IfOk, IfErr, refl, sym, ap, subst, ◌∙◌}
use Rattle.std.specs.List.Sorted.{IsSorted}
use Rattle.std.specs.Ordering.{is_lt, on, ordering_then}
use Rattle.std.specs.Cmp.{tied_itself}
use Rattle.std.specs.declared.cmp.Ordering.{Ordering}
use Rattle.std.specs.declared.cmp.Ordering.TheVariants.{Less, Equal, Greater}
use Rattle.octets.specs.BytesMap.{by_bytes}
use Rattle.sqlite.specs.Clock.{timed}
use Rattle.sqlite.specs.Command.{Command}
use Rattle.sqlite.specs.Command.TheVariants.{Select, Rows}
use Rattle.sqlite.specs.Effect.{Database, RefusesToRead}
use Rattle.sqlite.specs.Listing.{understood, reads_listing}
use Rattle.sqlite.specs.Order.{Row, column, value_cmp}
use Rattle.sqlite.specs.Program.{overlay}
use Rattle.sqlite.specs.Query.{Query, Output, IsAnswer, output, page}
use Rattle.sqlite.specs.State.{State, Survives, QueriesRow, Shown, ShowsRows, FailsToQuery, FailsToShow, IsNotRun, IsNoStatement, IsUnchanged, IsRolledBack, RunsCommand, Fails, store_error}
use Rattle.sqlite.specs.Term.{Term, col, eval_all}
use Rattle.sqlite.specs.Tree.{Trees}
use Rattle.sqlite.specs.declared.error.Error.{Error}
use Rattle.sqlite.specs.declared.error.Error.TheVariants.{QueryReturnedNoRows}
use Rattle.sqlite.specs.declared.types.Value.{Value}
use Rattle.sqlite.specs.declared.types.Value.TheVariants.{Null, Int, Real, Text, Blob}
use Rattle.sqlite.proofs.Callers.{IsPlain, command_of, reads_as, first_as, never_commits}
use Rattle.sqlite.specs.State.{CommitsShowing}
use Rattle.sqlite_trees.proofs.Doubt.{no_doubt}
use Rattle.sqlite_trees.specs.View.{doubt}
use Rattle.sqlite_resolve.specs.declared.compiled.Compiled.{Compiled}
use Rattle.sqlite_schema.specs.declared.command.Returning.{Returning}
use Rattle.sqlite_trees.specs.declared.error.StoreError.{StoreError}
use Rattle.sqlite_trees.specs.declared.error.StoreError.TheVariants.{OutOfMemory, Io, Corrupt, Full, Broken, Unstorable}
use Rattle.sqlite_rules.specs.Lists.{Has}
use Rattle.sqlite_rules.proofs.ListLemmas.{all_has}
use Rattle.sqlite_value.proofs.OrderLemmas.{value_cmp_total}
use Rattle.keeper_sqlite.specs.Rows.{has_key, is_above, value_above, key_of, blob_in, Selects, Follows, one_column, two_columns, key_and_column}
use Rattle.keeper_sqlite.specs.States.{IsSame, Answers}
use Rattle.keeper_sqlite.specs.Tables.{store_schema, by_key, next_by_key}
use Rattle.keeper_sqlite.proofs.Texts.{object_text, ref_text, next_object_text, next_ref_text, object_is, ref_is, next_object_is, next_ref_is, object_plain, ref_plain, next_object_plain, next_ref_plain, object_unlisted, ref_unlisted, next_object_unlisted, next_ref_unlisted}
use Rattle.keeper_sqlite.proofs.Answers.{env, by_key_from, by_key_all, next_from, next_all, first_is_least}

-- ---- what is left

module _ (old new : State) where
  unchanged_opens : IsUnchanged old new → IsTrue old.is_open
  unchanged_opens u = u.0.was_open

  pub unchanged_same : IsUnchanged old new → IsSame old new
  unchanged_same u = record { now = u.0.now_is; committed = u.0.committed_is }

  module _ (sql : List ℕ) (params : Row) where
    fails_open : (P : Type 0) (e : Error) → Fails old new P e → IsTrue new.is_open → IsTrue old.is_open
    fails_open P e f open_now = f.3.was_open open_now

    shown_open : (c : Compiled) (ps : Row) (rows : List Row) (o : Option Returning) → ShowsRows old new sql c ps rows o → IsTrue old.is_open
    shown_open c ps rows None h = h.3.0.was_open
    shown_open c ps rows (Some what) h = h.1.shown.was_open

    pub not_run_open : (e : Error) → IsNotRun old new sql params e → IsTrue new.is_open → IsTrue old.is_open
    unfolding IsNotRun
    not_run_open e (inl h) open_now = unchanged_opens h.1
    not_run_open e (inr f) open_now = fails_open ⊥ e f open_now

    run_open : (c : Compiled) (ps : Row) (e : Error) → RunsCommand old new sql c ps (Err e) → IsTrue new.is_open → IsTrue old.is_open
    run_open c ps e (inl h) open_now = unchanged_opens h.1
    run_open c ps e (inr f) open_now = fails_open _ e f open_now

    fails_to_show_open : (c : Compiled) (ps : Row) (e : Error) (o : Option Returning) → FailsToShow old new sql c ps e o → IsTrue new.is_open → IsTrue old.is_open
    fails_to_show_open c ps e None h open_now = unchanged_opens h.3
    fails_to_show_open c ps e (Some what) h open_now = run_open c ps e h open_now

    -- no selection opens a connection
    pub query_open : (r : Result Row Error) → QueriesRow sql params old new r → IsTrue new.is_open → IsTrue old.is_open
    unfolding QueriesRow FailsToQuery Shown
    query_open (Ok row) (inl h) open_now = unchanged_opens h.1
    query_open (Ok row) (inr h) open_now = shown_open h.1.0 _ h.0 _ h.1.2
    query_open (Err e) (inl (inl h)) open_now = not_run_open e h open_now
    query_open (Err e) (inl (inr h)) open_now = fails_to_show_open h.0 _ e _ h.2 open_now
    query_open (Err e) (inr h) open_now = shown_open h.1.0 _ [] _ h.1.2

    module _ (settled : IsTrue old.is_open → old.now ≡ old.committed) (plain : IsPlain (understood old.now.schema sql)) where
      rolled_same : IsRolledBack old new → IsTrue new.is_open → IsSame old new
      rolled_same b open_now = let u = b.undone open_now in record { now = u.0 ∙ sym (settled (b.was_open open_now)); committed = u.1 }

      pub not_run_same : (e : Error) → IsNotRun old new sql params e → IsTrue new.is_open → IsSame old new
      unfolding IsNotRun
      not_run_same e (inl h) open_now = unchanged_same h.1
      not_run_same e (inr f) open_now = rolled_same f.3 open_now

      no_returning : (c : Compiled) → understood old.now.schema sql ≡ Ok c → c.returning ≡ None
      no_returning c is = (subst IsPlain is plain).0

      shown_same : (c : Compiled) (ps : Row) (rows : List Row) (o : Option Returning) → o ≡ None → ShowsRows old new sql c ps rows o → IsSame old new
      shown_same c ps rows None is h = unchanged_same h.3
      shown_same c ps rows (Some what) is h = cc

      fails_to_show_same : (c : Compiled) (ps : Row) (e : Error) (o : Option Returning) → o ≡ None → FailsToShow old new sql c ps e o → IsSame old new
      fails_to_show_same c ps e None is h = unchanged_same h.3
      fails_to_show_same c ps e (Some what) is h = cc

      -- a plain selection leaves what the connection shows
      pub query_same : (r : Result Row Error) → QueriesRow sql params old new r → IsTrue new.is_open → IsSame old new
      unfolding QueriesRow FailsToQuery Shown
      query_same (Ok row) (inl h) open_now = unchanged_same h.1
      query_same (Ok row) (inr h) open_now = shown_same h.1.0 _ h.0 _ (no_returning h.1.0 h.1.1.is) h.1.2
      query_same (Err e) (inl (inl h)) open_now = not_run_same e h open_now
      query_same (Err e) (inl (inr h)) open_now = fails_to_show_same h.0 _ e _ (no_returning h.0 h.1.is) h.2
      query_same (Err e) (inr h) open_now = shown_same h.1.0 _ [] _ (no_returning h.1.0 h.1.1.is) h.1.2

-- a text that was not run leaves what the connection shows
pub rolled_same_of : (old new : State) (sql : List ℕ) (params : Row) → (IsTrue old.is_open → old.now ≡ old.committed) → (e : Error) → IsNotRun old new sql params e → IsTrue new.is_open → IsSame old new
unfolding IsNotRun
rolled_same_of old new sql params settled e (inl h) now = unchanged_same old new h.1
rolled_same_of old new sql params settled e (inr f) now = let u = f.3.undone now in record { now = u.0 ∙ sym (settled (f.3.was_open now)); committed = u.1 }

-- a text that was compiled, or not
pub prepared_open : {T : Type 0} (A : T → Type 0) (old new : State) (sql : List ℕ) (r : Result T Error) → IfOk r (λ s. A s × IsUnchanged old new) → IfErr r (λ e. (params : Row) → IsNotRun old new sql params e)
    → IsTrue new.is_open → IsTrue old.is_open
prepared_open A old new sql (Ok s) done failed now = done.1.0.was_open
prepared_open A old new sql (Err e) done failed now = not_run_open old new sql [] e (failed []) now

pub prepared_same : {T : Type 0} (A : T → Type 0) (old new : State) (sql : List ℕ) (r : Result T Error) → (IsTrue old.is_open → old.now ≡ old.committed) → IfOk r (λ s. A s × IsUnchanged old new)
    → IfErr r (λ e. (params : Row) → IsNotRun old new sql params e) → IsTrue new.is_open → IsSame old new
prepared_same A old new sql (Ok s) settled done failed now = unchanged_same old new done.1
prepared_same A old new sql (Err e) settled done failed now = rolled_same_of old new sql [] settled e (failed []) now

-- ---- what is answered

no_store_error : (cause : StoreError) → ¬ (QueryReturnedNoRows ≡ store_error cause)
no_store_error OutOfMemory e = cc
no_store_error Io e = cc
no_store_error Corrupt e = cc
no_store_error Full e = cc
no_store_error Broken e = cc
no_store_error Unstorable e = cc

not_run : (old new : State) (sql : List ℕ) (params : Row) → ¬ IsNotRun old new sql params QueryReturnedNoRows
unfolding IsNotRun
not_run old new sql params (inl h) = no_statement h.0
  where
    no_statement : ¬ IsNoStatement old sql params QueryReturnedNoRows
    no_statement (inl h) = let e = h.2 in cc
    no_statement (inr (c, known, inl h)) = let e = h.1 in cc
    no_statement (inr (c, known, inr (inl h))) = let e = h.1 in cc
    no_statement (inr (c, known, inr (inr h))) = let e = h.1 in cc
not_run old new sql params (inr h) = no_store_error h.0 h.1

-- where no row is answered, the answer has none
none_shown : (old new : State) (sql : List ℕ) (params : Row) → IsPlain (understood old.now.schema sql) → QueriesRow sql params old new (Err QueryReturnedNoRows) → Shown sql params old new []
unfolding QueriesRow FailsToQuery
none_shown old new sql params plain (inl (inl unrun)) = absurd (not_run old new sql params unrun)
none_shown old new sql params plain (inl (inr h)) = absurd (refused h.0.returning (subst IsPlain h.1.is plain).0 h.2)
  where
    reads : (limit : Option ℕ) (k : Command) (db : Database) (ps : Row) → ¬ RefusesToRead limit k db ps QueryReturnedNoRows
    reads limit (Select q names) db ps (inl x) = let e = x.0 in cc
    reads limit (Select q names) db ps (inr (inl x)) = let e = x.0 in cc
    reads limit (Select q names) db ps (inr (inr x)) = let e = x.0 in cc
    reads limit (Rows values width names) db ps x = let e = x.0 in cc
    reads limit _ db ps x = cc

    refused : (what : Option Returning) → what ≡ None → ¬ FailsToShow old new sql h.0 (timed params h.0.formats h.1.now) QueryReturnedNoRows what
    refused None is x = reads _ _ x.0 _ x.2
    refused (Some w) is x = cc
none_shown old new sql params plain (inr h) = h.1

-- a row that is shown, and the answer that there is none, leave the connection open
module _ (old new : State) (sql : List ℕ) (params : Row) where
  shown_opens : (c : Compiled) (ps : Row) (rows : List Row) (o : Option Returning) → ShowsRows old new sql c ps rows o → IsTrue new.is_open
  shown_opens c ps rows None h = h.3.0.is_open
  shown_opens c ps rows (Some what) h = h.1.shown.is_open

  none_shown_opens : (c : Compiled) (ps : Row) (o : Option Returning) → FailsToShow old new sql c ps QueryReturnedNoRows o → IsTrue new.is_open
  none_shown_opens c ps None h = h.3.0.is_open
  none_shown_opens c ps (Some what) (inl h) = h.1.0.is_open
  none_shown_opens c ps (Some what) (inr f) = absurd (no_store_error f.0 f.1)

  pub row_opens : (row : Row) → QueriesRow sql params old new (Ok row) → IsTrue new.is_open
  unfolding QueriesRow Shown
  row_opens row (inl h) = h.1.0.is_open
  row_opens row (inr h) = shown_opens h.1.0 _ h.0 _ h.1.2

  pub none_opens : QueriesRow sql params old new (Err QueryReturnedNoRows) → IsTrue new.is_open
  unfolding QueriesRow FailsToQuery Shown
  none_opens (inl (inl unrun)) = absurd (not_run old new sql params unrun)
  none_opens (inl (inr h)) = none_shown_opens h.0 _ _ h.2
  none_opens (inr h) = shown_opens h.1.0 _ [] _ h.1.2

pub false_if : (b : Bool) → ¬ (b ≡ true) → b ≡ false
false_if true h = absurd (h refl)
false_if false h = refl

module _ (sql : List ℕ) (names : List (List ℕ)) (q : Query) (is : command_of (understood store_schema sql) ≡ Select (record { lets = []; body = q }) names)
    (plain : IsPlain (understood store_schema sql)) (unlisted : reads_listing store_schema sql ≡ false) (old new : State) (params : Row) (has : old.now.schema ≡ store_schema) where
  pub some_answer : (row : Row) → QueriesRow sql params old new (Ok row) → (tail : List Row) × IsAnswer q (overlay old.now.trees []) params (row ∷ tail)
  some_answer row h = let got = (first_as sql params old new store_schema has _ is plain unlisted row h).1 in (got.0, got.1 Null)

  pub none_answer : QueriesRow sql params old new (Err QueryReturnedNoRows) → IsAnswer q (overlay old.now.trees []) params []
  none_answer h =
      let shown = none_shown old new sql params (subst (λ s. IsPlain (understood s sql)) (sym has) plain) h in
      (reads_as sql params old new store_schema has _ is plain unlisted [] shown).answer Null

-- by key
module _ (tree : ℕ) (project : List Term) (key : List ℕ) (db : Trees) where
  pub selects_some : (row : Row) (tail : List Row) → IsAnswer (by_key tree project) db (Blob key ∷ []) (row ∷ tail) → (r : Row) × Has (db tree) r × (has_key key r ≡ true) × (row ≡ eval_all project (env key r))
  selects_some row tail a = by_key_from tree project key db (row ∷ tail) a row (inl refl)

  pub selects_none : IsAnswer (by_key tree project) db (Blob key ∷ []) [] → (r : Row) → Has (db tree) r → has_key key r ≡ false
  selects_none a r h = false_if (has_key key r) (λ is. by_key_all tree project key db [] a r h is)

-- above a key
above_is : (key : List ℕ) (v : Value) → value_above key v ≡ true → v ≡ Blob (blob_in v)
above_is key Null e = cc
above_is key (Int n) e = cc
above_is key (Real x) e = cc
above_is key (Text t) e = cc
above_is key (Blob b) e = refl

blobs_by_bytes : (a b : List ℕ) → value_cmp (Blob a) (Blob b) ≡ by_bytes a b
unfolding value_cmp lib.Ieee.is_nan lib.Ieee.lt
blobs_by_bytes a b = refl

then_equal : (o : Ordering) → is_lt (ordering_then o Equal) ≡ is_lt o
then_equal Less = refl
then_equal Equal = refl
then_equal Greater = refl

module _ (tree : ℕ) (project : List Term) (key : List ℕ) (db : Trees) where
  abbrev follow : Query
  follow = next_by_key tree project

  abbrev by_first : Output → Value
  by_first o = column o.0 0

  none_ordered : (os : List Output) → [] ≡ page follow (Blob key ∷ []) (map (λ (o : Output). o.1) os) → os ≡ []
  none_ordered [] e = refl
  none_ordered (o ∷ os) e = cc

  pub follows_none : IsAnswer follow db (Blob key ∷ []) [] → (r : Row) → Has (db tree) r → is_above key r ≡ false
  follows_none a r h = false_if (is_above key r) (λ is. subst (λ l. Has l (output follow (env key r))) (none_ordered a.ordered a.shown) (next_all tree project key db [] a r h is))

  abbrev pub LeastOf : Row → Row → Type 0
  LeastOf row r = (row ≡ eval_all project (env key r)) × ((s : Row) → Has (db tree) s → is_above key s ≡ true → is_lt (by_bytes (key_of s) (key_of r)) ≡ false)

  pub follows_some : (row : Row) (tail : List Row) → IsAnswer follow db (Blob key ∷ []) (row ∷ tail) → (r : Row) × Has (db tree) r × (is_above key r ≡ true) × LeastOf row r
  follows_some row tail a = by_order a.ordered refl a.shown a.sorted
    where
      sorted_by : (os : List Output) → IsSorted (λ x y. ordering_then (value_cmp (by_first x) (by_first y)) Equal) os → IsSorted (on by_first value_cmp) os
      sorted_by os up k d low high = sym (then_equal _) ∙ up k d low high

      blobs_below : (u v : Value) → u ≡ Blob (blob_in u) → v ≡ Blob (blob_in v) → is_lt (value_cmp u v) ≡ false → is_lt (by_bytes (blob_in u) (blob_in v)) ≡ false
      blobs_below u v e f h = ap is_lt (sym (blobs_by_bytes (blob_in u) (blob_in v))) ∙ ap (λ x. is_lt (value_cmp x (Blob (blob_in v)))) (sym e) ∙ ap (λ x. is_lt (value_cmp u x)) (sym f) ∙ h

      no_less : (v : Value) → is_lt (value_cmp v v) ≡ false
      no_less v = ap is_lt (tied_itself value_cmp_total v)

      by_order : (os : List Output) → a.ordered ≡ os → row ∷ tail ≡ page follow (Blob key ∷ []) (map (λ (o : Output). o.1) a.ordered) → IsSorted (λ x y. ordering_then (value_cmp (by_first x) (by_first y)) Equal) a.ordered
          → (r : Row) × Has (db tree) r × (is_above key r ≡ true) × LeastOf row r
      by_order [] is shown up = let e : row ∷ tail ≡ [] = shown ∙ ap (λ os. page follow (Blob key ∷ []) (map (λ (o : Output). o.1) os)) is in cc
      by_order (o ∷ os) is shown up =
          let e : row ∷ tail ≡ o.1 ∷ [] = shown ∙ ap (λ os. page follow (Blob key ∷ []) (map (λ (o : Output). o.1) os)) is in
          let first : row ≡ o.1 = cc in
          let r = next_from tree project key db (row ∷ tail) a o (subst (λ l. Has l o) (sym is) (inl refl)) in
          let least = first_is_least by_first value_cmp value_cmp_total o os (subst (IsSorted (on by_first value_cmp)) is (sorted_by a.ordered up)) in
          let key_r : column o.0 0 ≡ column r.0 1 = ap (λ (p : Output). column p.0 0) r.3 in (
            r.0,
            r.1,
            r.2,
            (
              first ∙ ap (λ (p : Output). p.1) r.3,
              λ s h above.
                  let there = next_all tree project key db (row ∷ tail) a s h above in
                  let low : is_lt (value_cmp (column s 1) (column o.0 0)) ≡ false = elim (subst (λ l. Has l (output follow (env key s))) is there) [
                    | inl same ↦ ap (λ (p : Output). is_lt (value_cmp (column p.0 0) (column o.0 0))) same ∙ no_less (column o.0 0)
                    | inr later ↦ all_has _ os (output follow (env key s)) least later
                  ] in
                  blobs_below (column s 1) (column r.0 1) (above_is key (column s 1) above) (above_is key (column r.0 1) r.2) (ap (λ v. is_lt (value_cmp (column s 1) v)) (sym key_r) ∙ low),
            ),
          )

-- ---- the four selections

-- a connection that is open has a disk that is clean
pub clean_if_open : (clean open_now : Bool) → (clean ≡ false → open_now ≡ false) → IsTrue open_now → doubt clean ≡ 0
clean_if_open true open_now shut is = no_doubt true refl
clean_if_open false open_now shut is = absurd (let e : true ≡ false = sym is ∙ shut refl in cc)

pub if_ok : {T E : Type 0} {P Q : T → Type 0} (r : Result T E) → ((x : T) → P x → Q x) → IfOk r P → IfOk r Q
if_ok (Ok x) f p = f x p
if_ok (Err e) f p = p

pub if_ok_both : {T E : Type 0} {P Q R : T → Type 0} (r : Result T E) → ((x : T) → P x → Q x → R x) → IfOk r P → IfOk r Q → IfOk r R
if_ok_both (Ok x) f p q = f x p q
if_ok_both (Err e) f p q = p

-- a selection commits nothing
pub plain_survives : (sql : List ℕ) (params : Row) (old new : State) → IsPlain (understood old.now.schema sql) → Survives old new (CommitsShowing sql params old) → Survives old new (λ _. ⊥)
plain_survives sql params old new plain s = record {
  clean = s.clean;
  shield = s.shield;
  counts = s.counts;
  limit = s.limit;
  closes = s.closes;
  crash = λ clean db is. elim (s.crash clean db is) [ inl was ↦ inl was | inr done ↦ absurd (never_commits sql params old db plain done) ];
}

module _ (old new : State) (key : List ℕ) (has : old.now.schema ≡ store_schema) where
  pub object_selects : (found : Option Row) → Answers object_text key old new found → Selects (old.now.trees 0) key two_columns found
  object_selects (Some row) h = let a = some_answer object_text _ _ object_is object_plain object_unlisted old new (Blob key ∷ []) has row h in selects_some 0 (col 1 2 ∷ col 1 3 ∷ []) key (overlay old.now.trees []) row a.0 a.1
  object_selects None h = selects_none 0 (col 1 2 ∷ col 1 3 ∷ []) key (overlay old.now.trees []) (none_answer object_text _ _ object_is object_plain object_unlisted old new (Blob key ∷ []) has h)

  pub ref_selects : (found : Option Row) → Answers ref_text key old new found → Selects (old.now.trees 2) key one_column found
  ref_selects (Some row) h = let a = some_answer ref_text _ _ ref_is ref_plain ref_unlisted old new (Blob key ∷ []) has row h in selects_some 2 (col 1 2 ∷ []) key (overlay old.now.trees []) row a.0 a.1
  ref_selects None h = selects_none 2 (col 1 2 ∷ []) key (overlay old.now.trees []) (none_answer ref_text _ _ ref_is ref_plain ref_unlisted old new (Blob key ∷ []) has h)

  pub object_follows : (found : Option Row) → Answers next_object_text key old new found → Follows (old.now.trees 0) key key_and_column found
  object_follows (Some row) h = let a = some_answer next_object_text _ _ next_object_is next_object_plain next_object_unlisted old new (Blob key ∷ []) has row h in let x = follows_some 0 (col 1 1 ∷ col 1 2 ∷ []) key (overlay old.now.trees []) row a.0 a.1 in (x.0, x.1, x.2, x.3.0, x.3.1)
  object_follows None h = follows_none 0 (col 1 1 ∷ col 1 2 ∷ []) key (overlay old.now.trees []) (none_answer next_object_text _ _ next_object_is next_object_plain next_object_unlisted old new (Blob key ∷ []) has h)

  pub ref_follows : (found : Option Row) → Answers next_ref_text key old new found → Follows (old.now.trees 2) key key_and_column found
  ref_follows (Some row) h = let a = some_answer next_ref_text _ _ next_ref_is next_ref_plain next_ref_unlisted old new (Blob key ∷ []) has row h in let x = follows_some 2 (col 1 1 ∷ col 1 2 ∷ []) key (overlay old.now.trees []) row a.0 a.1 in (x.0, x.1, x.2, x.3.0, x.3.1)
  ref_follows None h = follows_none 2 (col 1 1 ∷ col 1 2 ∷ []) key (overlay old.now.trees []) (none_answer next_ref_text _ _ next_ref_is next_ref_plain next_ref_unlisted old new (Blob key ∷ []) has h)
