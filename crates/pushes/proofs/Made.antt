-- What making the push of an entry comes to, where the store tells what it holds.
use Rattle.std.proofs.Common.{◌≡◌, ℕ, Bool, true, false, List, [], ◌∷◌, ◌++◌, Option, Some, None, refl, sym, ap, subst, ◌∙◌, arith}
use Rattle.std.specs.Prelude.{◌||◌, IfErr, IfOk, Result, Ok, Err, cond}
use Rattle.std.specs.Option.{is_none, option_and_then}
use Rattle.std.specs.Result.{IsErrAnd}
use Rattle.std.specs.Str.{bytes_eq}
use Rattle.std.proofs.lemmas.Bool.{true≢false}
use Rattle.std.proofs.lemmas.Slice.Eq.{bytes_eq-Decides}
use Rattle.git_object.specs.Ids.{IsId}
use Rattle.git_object.specs.Objects.{Pair}
use Rattle.git_object.specs.Repository.{Repository, object_at}
use Rattle.rsl_chain.specs.Logs.{IsNamed, IsNoEntryAs, entry_at, entry_of_pair}
use Rattle.rsl_chain.specs.declared.entries.Entry.{Entry}
use Rattle.rsl_chain.specs.declared.log_faults.LogFault.{LogFault}
use Rattle.rsl_chain.specs.declared.log_faults.LogFault.TheVariants as log_
use Rattle.pushes.specs.Pushes.{IsPushText, entry_in, entry_of_object, object_in}
use Rattle.pushes.proofs.EntryLines.{has_id}
use Rattle.pushes.specs.Needing.{has}
use Rattle.pushes.specs.Going.{Go, GoWith, IsBreakAmong}
use Rattle.pushes.specs.Making.{AreFound, IsWritten, Makes, StopsGathering, StopsWriting, fault_of_log, first_missing, is_missing, kept_among}
use Rattle.pushes.specs.declared.make_faults.MakeFault.{MakeFault}
use Rattle.pushes.specs.declared.make_faults.MakeFault.TheVariants.{Broken, Missing, TooLarge, KeeperFailed, Memory}
use Rattle.pushes.proofs.Gathered.{has_one_more, or_false}
use Rattle.pushes.proofs.Lengths.{push_len}
use Rattle.pushes.proofs.Values.{same_some}

-- ---- the first that is missing

none_missing : (r : Repository) (ids : List (List ℕ)) (q : List ℕ) → first_missing r ids ≡ None → has ids q ≡ true → object_at r q ≡ None → ⊥
none_missing r [] q none among gone = true≢false (sym among)
none_missing r (x ∷ ids) q none among gone = by_test (is_missing r x) refl (λ n a. none_missing r ids q n a gone) none (bytes_eq x q) refl among
  where
    by_test : (m : Bool) → is_missing r x ≡ m → (first_missing r ids ≡ None → has ids q ≡ true → ⊥) → cond m (Some x) (first_missing r ids) ≡ None
        → (b : Bool) → bytes_eq x q ≡ b → (b || has ids q) ≡ true → ⊥
    by_test true e more n b s a = cc n
    by_test false e more n true s a =
        let gone_too : is_missing r x ≡ true = ap is_none (ap (object_at r) ((bytes_eq-Decides x q).0 s) ∙ gone) in true≢false (sym gone_too ∙ e)
    by_test false e more n false s a = more n a

entry_kept : (r : Repository) (id : List ℕ) (entry : Entry) → entry_at r id ≡ Some entry → object_at r id ≡ None → ⊥
entry_kept r id entry read gone =
    let both : None ≡ Some entry = sym (ap (option_and_then (λ (pair : Pair). entry_of_pair id pair.kind pair.body)) gone) ∙ read in cc both

or_true : (b : Bool) → (b || true) ≡ true
or_true true = refl
or_true false = refl

-- ---- the whole

-- what a fault comes to that a call below answered
pub as_made : (r : Repository) (before : List (List ℕ)) (id : List ℕ) (result : Result (List ℕ) MakeFault) (fault : MakeFault)
    → IsErrAnd result (λ f. f ≡ fault)
    → Makes r before id (Err fault) → Makes r before id result
as_made r before id (Ok text) fault is makes = absurd is
as_made r before id (Err other) fault is makes = subst (λ (f : MakeFault). Makes r before id (Err f)) (sym is) makes

module _ (r : Repository) (before : List (List ℕ)) (id : List ℕ) (is_id : IsId id) where
  -- the entry, or an earlier one, is none
  pub not_read : (fault : LogFault) → IsNoEntryAs r id fault → IsNamed id fault → Makes r before id (Err (fault_of_log fault))
  not_read (log_.Broken named) none is = record {
    among = has_one_more before id named ∙ ap (λ (b : Bool). has before named || b) ((bytes_eq-Decides id named).1 (sym is)) ∙ or_true (has before named);
    none = ap (entry_at r) is ∙ none;
  }
  not_read log_.Failed none is = tt
  not_read log_.Memory none is = tt

  pub not_gone : (fault : LogFault) → IsBreakAmong r before fault → Makes r before id (Err (fault_of_log fault))
  not_gone (log_.Broken named) has_none = record {
    among = has_one_more before id named ∙ ap (λ (b : Bool). b || bytes_eq id named) has_none.among;
    none = has_none.none;
  }
  not_gone log_.Failed has_none = tt
  not_gone log_.Memory has_none = tt

  module _ (entry : Entry) (read : entry_at r id ≡ Some entry) (ids : List (List ℕ)) (with_body : GoWith r before entry.body ids) where
    go : Go r before id ids
    go = record { entry = entry; read = read; with_body = with_body }

    pub lacks : (missing : List ℕ) → first_missing r ids ≡ Some missing → Makes r before id (Err (Missing missing))
    lacks missing first = record { ids = ids; go = go; first = first }

    module _ (whole : first_missing r ids ≡ None) where
      pub never_gone : (q : List ℕ) → has (ids ++ id ∷ []) q ≡ true → object_at r q ≡ None → ⊥
      never_gone q among gone = by_test (bytes_eq id q) refl (sym (has_one_more ids id q) ∙ among)
        where
          by_test : (b : Bool) → bytes_eq id q ≡ b → (has ids q || b) ≡ true → ⊥
          by_test true e h = entry_kept r id entry read (ap (object_at r) ((bytes_eq-Decides id q).0 e) ∙ gone)
          by_test false e h = none_missing r ids q whole (sym (or_false (has ids q)) ∙ h) gone

      pub not_gathered : (fault : MakeFault) → StopsGathering r (ids ++ id ∷ []) fault → Makes r before id (Err fault)
      not_gathered (Broken named) stops = absurd stops
      not_gathered (Missing missing) stops = absurd (never_gone missing stops.0 stops.1)
      not_gathered TooLarge stops =
          let len = push_len (kept_among r (ids ++ id ∷ [])) id is_id in
          record { ids = ids; go = go; whole = whole; long = omega (arith, stops, len) }
      not_gathered KeeperFailed stops = tt
      not_gathered Memory stops = tt

      module _ (objects : List Pair) (those : objects ≡ kept_among r (ids ++ id ∷ [])) (found : AreFound r (ids ++ id ∷ []) objects) where
        entry_there : entry_in objects id ≡ Some entry
        entry_there =
            let among : has (ids ++ id ∷ []) id ≡ true =
            has_one_more ids id id ∙ ap (λ (b : Bool). has ids id || b) ((bytes_eq-Decides id id).1 refl) ∙ or_true (has ids id) in
            by_found (object_in objects id) refl (found.each id among)
          where
            by_found : (o : Option Pair) → object_in objects id ≡ o → o ≡ object_at r id → option_and_then entry_of_object o ≡ Some entry
            by_found None e same = absurd (entry_kept r id entry read (sym same))
            by_found (Some pair) e same =
                ap (λ (i : List ℕ). entry_of_pair i pair.kind pair.body) (has_id objects id pair e)
                ∙ ap (option_and_then (λ (p : Pair). entry_of_pair id p.kind p.body)) same ∙ read

        not_written : (fault : MakeFault) → StopsWriting objects id fault → Makes r before id (Err fault)
        not_written (Broken named) stops = let both : None ≡ Some entry = sym stops.1 ∙ entry_there in absurd (cc both)
        not_written (Missing missing) stops = absurd stops
        not_written TooLarge stops = absurd stops
        not_written KeeperFailed stops = absurd stops
        not_written Memory stops = tt

        made : (text : List ℕ) → IsWritten objects id text → Makes r before id (Ok text)
        unfolding go
        made text w =
            let same : w.entry ≡ entry = same_some w.entry entry (sym w.found ∙ entry_there) in
            let is : IsPushText (record { entry = entry; objects = objects }) text =
            subst (λ (e : Entry). IsPushText (record { entry = e; objects = objects }) text) same w.is in
            record {
              ids = ids;
              go = go;
              whole = whole;
              is = subst (λ (o : List Pair). IsPushText (record { entry = entry; objects = o }) text) those is;
            }

        pub of_text : (result : Result (List ℕ) MakeFault) → IfOk result (IsWritten objects id) → IfErr result (StopsWriting objects id)
            → Makes r before id result
        of_text (Ok text) written stops = made text written
        of_text (Err fault) written stops = not_written fault stops
