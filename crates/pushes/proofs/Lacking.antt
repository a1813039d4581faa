-- A desk that has what was there before lacks nothing of a push.
use Rattle.std.proofs.Common.{◌≡◌, ◌≢◌, ℕ, zero, suc, Bool, true, false, List, [], ◌∷◌, ◌++◌, map, Option, Some, None, inl, inr, refl, sym, ap, subst, ◌∙◌}
use Rattle.std.specs.Prelude.{cond}
use Rattle.std.specs.FinMap.{entries, get, get-entries, get-retain_keys, retain_keys}
use Rattle.std.specs.FinMap.Entries.{below_all, is_sorted}
use Rattle.std.specs.FinMap.Entries as entry
use Rattle.std.specs.Ordering.{eq_by_cmp}
use Rattle.std.specs.Str.{bytes_eq}
use Rattle.std.proofs.lemmas.Bool.{and_parts, true≢false}
use Rattle.std.proofs.lemmas.List.{append-nil}
use Rattle.std.proofs.lemmas.Slice.Eq.{bytes_eq-Decides}
use Rattle.octets.specs.BytesMap.{by_bytes}
use Rattle.git_object.specs.Ids.{IsId}
use Rattle.git_object.specs.Objects.{Pair, pair_id}
use Rattle.git_object.specs.Repository.{HasObject, Repository, object_at}
use Rattle.git_object.proofs.ObjectAt.{object_there}
use Rattle.keeper_api.proofs.Growing.{has_there}
use Rattle.keeper_api.proofs.Trees.{exact_bytes}
use Rattle.rsl_chain.specs.Logs.{entry_at}
use Rattle.rsl_chain.specs.declared.entries.Entry.{Entry}
use Rattle.rsl_chain.specs.declared.entries.EntryBody.{EntryBody}
use Rattle.rsl_chain.specs.declared.entries.EntryBody.TheVariants.{Reference, Annotation}
use Rattle.clone_stream.proofs.Built.{entries_rise}
use Rattle.pushes.specs.Pushes.{IsPushText, has_own_id, object_in}
use Rattle.pushes.specs.declared.pushed.Push.{Push}
use Rattle.pushes.proofs.EntryLines.{has_id}
use Rattle.pushes.proofs.Whole.{one_push}
use Rattle.pushes.specs.Needing.{IsIncomplete, Walk, after, has, names_in, names_or, next_at, start_of}
use Rattle.pushes.specs.Going.{GoWith}
use Rattle.pushes.specs.MakingLaws.{HasBefore, NothingLacks}
use Rattle.pushes.specs.Making.{kept_among, push_with}
use Rattle.pushes.specs.Reached.{Itself, Named, Reached}
use Rattle.pushes.specs.Reaching.{names_kept}
use Rattle.pushes.proofs.Ordered.{find_first, in_front, never_found}
use Rattle.pushes.proofs.Made.{never_gone}
use Rattle.pushes.proofs.OneMakings.{read_id}
use Rattle.pushes.proofs.Reached.{either_way, fresh, has_front, is_itself, or_first, sound_after, sound_start, distinct_none, was_reached}
use Rattle.pushes.proofs.Values.{same_some}

abbrev pairs : List (List ℕ × Pair) → List Pair
pairs es = map (λ (e : List ℕ × Pair). e.1) es

-- ---- objects among entries

-- an object under its own id is found by it
found_under : (q : List ℕ) (pair : Pair) (es : List (List ℕ × Pair)) → entry.find by_bytes q es ≡ Some pair → pair_id pair ≡ q → object_in (pairs es) q ≢ None
found_under q pair [] found own = λ none. cc found
found_under q pair (e ∷ es) found own = by_key (eq_by_cmp by_bytes q e.0) (found_under q pair es) found
  where
    passes : e.1 ≡ pair → has_own_id q e.1 ≡ true
    passes same = ap (has_own_id q) same ∙ (bytes_eq-Decides (pair_id pair) q).1 own

    by_test : (b : Bool) → (object_in (pairs es) q ≢ None) → cond b (Some e.1) (object_in (pairs es) q) ≢ None
    by_test true more = λ none. cc none
    by_test false more = more

    first : (b : Bool) → b ≡ true → cond b (Some e.1) (object_in (pairs es) q) ≢ None
    first true is = λ none. cc none
    first false is = absurd (true≢false (sym is))

    by_key : (b : Bool) → (entry.find by_bytes q es ≡ Some pair → pair_id pair ≡ q → object_in (pairs es) q ≢ None)
        → cond b (Some e.1) (entry.find by_bytes q es) ≡ Some pair → object_in (pairs (e ∷ es)) q ≢ None
    by_key true more f = first (has_own_id q e.1) (passes (same_some e.1 pair f))
    by_key false more f = by_test (has_own_id q e.1) (more f own)

-- an object that is found stands under some key
stands_under : (q : List ℕ) (pair : Pair) (es : List (List ℕ × Pair)) → is_sorted by_bytes es ≡ true → object_in (pairs es) q ≡ Some pair
    → (k : List ℕ) × (entry.find by_bytes k es ≡ Some pair)
stands_under q pair [] rises found = absurd (cc found)
stands_under q pair (e ∷ es) rises found = by_test (has_own_id q e.1) (stands_under q pair es parts.1) found
  where
    parts : (below_all by_bytes e.0 es ≡ true) × (is_sorted by_bytes es ≡ true)
    parts = and_parts (below_all by_bytes e.0 es) (is_sorted by_bytes es) rises

    by_test : (b : Bool) → (object_in (pairs es) q ≡ Some pair → (k : List ℕ) × (entry.find by_bytes k es ≡ Some pair))
        → cond b (Some e.1) (object_in (pairs es) q) ≡ Some pair
        → (k : List ℕ) × (entry.find by_bytes k (e ∷ es) ≡ Some pair)
    by_test true more f = (e.0, find_first e es ∙ f)
    by_test false more f =
        let later = more f in
        (later.0, in_front later.0 e.0 e.1 pair es (never_found later.0 e.0 pair es parts.0 later.1) later.1)

-- ---- the objects of a push

module _ (r : Repository) (all : List (List ℕ)) (there : (q : List ℕ) → has all q ≡ true → object_at r q ≢ None) where
  looked_up : (q : List ℕ) → entry.find by_bytes q (entries (retain_keys r.objects (has all))) ≡ cond (has all q) (get r.objects q) None
  looked_up q = sym (get-entries (retain_keys r.objects (has all)) q) ∙ get-retain_keys r.objects (has all) q (λ y t. ap (has all) (sym (exact_bytes q y t)))

  -- what an id of them leads to
  kept_at : (q : List ℕ) → has all q ≡ true → (pair : Pair) × HasObject r q pair
  kept_at q among = by_object (object_at r q) refl
    where
      by_object : (o : Option Pair) → object_at r q ≡ o → (pair : Pair) × HasObject r q pair
      by_object None e = absurd (there q among e)
      by_object (Some pair) e = (pair, has_there r q pair e)

  is_in : (q : List ℕ) → has all q ≡ true → object_in (kept_among r all) q ≢ None
  is_in q among =
      let at = kept_at q among in
      found_under q at.0 (entries (retain_keys r.objects (has all))) (looked_up q ∙ ap (λ (b : Bool). cond b (get r.objects q) None) among
      ∙ at.1.kept) at.1.is.own

  -- what is found among them is kept
  is_kept : (q : List ℕ) (pair : Pair) → object_in (kept_among r all) q ≡ Some pair → object_at r q ≡ Some pair
  is_kept q pair found =
      let at = stands_under q pair (entries (retain_keys r.objects (has all))) (entries_rise (retain_keys r.objects (has all))) found in
      by_test at.0 (has all at.0) refl (sym (looked_up at.0) ∙ at.1)
    where
      by_test : (k : List ℕ) (b : Bool) → has all k ≡ b → cond b (get r.objects k) None ≡ Some pair → object_at r q ≡ Some pair
      by_test k false e f = absurd (cc f)
      by_test k true e f =
          let at = kept_at k e in
          let same : at.0 ≡ pair = same_some at.0 pair (sym at.1.kept ∙ f) in
          let key : k ≡ q = sym at.1.is.own ∙ ap pair_id same ∙ has_id (kept_among r all) q pair found in
          object_there r q pair (subst (λ (i : List ℕ). HasObject r i pair) key (subst (HasObject r k) same at.1))

  -- so what is reached among them is reached
  names_more : (q other : List ℕ) → has (names_in (kept_among r all) q) other ≡ true → has (names_kept r q) other ≡ true
  names_more q other = by_object (object_in (kept_among r all) q) refl
    where
      by_object : (o : Option Pair) → object_in (kept_among r all) q ≡ o → has (names_or o) other ≡ true → has (names_kept r q) other ≡ true
      by_object None e named = absurd (true≢false (sym named))
      by_object (Some pair) e named = ap (λ (o : Option Pair). has (names_or o) other) (is_kept q pair e) ∙ named

  reached_more : (root q : List ℕ) → Reached (names_in (kept_among r all)) root q → Reached (names_kept r) root q
  reached_more root q (Itself some) = Itself some
  reached_more root q (Named id other before named some) = Named id other (reached_more root id before) (names_more id other named) some

-- ---- the walk at a desk

nothing_ahead : (names : List ℕ → List (List ℕ)) (n : ℕ) → (after names n (record { seen = []; ahead = [] })).ahead ≡ []
nothing_ahead names zero = refl
nothing_ahead names (suc n) =
    let w : Walk = after names n (record { seen = []; ahead = [] }) in
    ap (λ (a : List (List ℕ)). (next_at names w.seen a).ahead) (nothing_ahead names n)

module _ (r desk : Repository) (before : List (List ℕ)) (id : List ℕ) (ids : List (List ℕ)) (missing : List ℕ)
    (there : (q : List ℕ) → has (ids ++ id ∷ []) q ≡ true → object_at r q ≢ None) (had : HasBefore r desk before id) where
  abbrev objects : List Pair
  objects = kept_among r (ids ++ id ∷ [])

  -- what is visited there is reached
  visited : (target : List ℕ) → IsIncomplete objects desk (record { seen = []; ahead = target ∷ [] }) missing → Reached (names_kept r) target missing
  visited target first =
      let w : Walk = after (names_in objects) first.step (record { seen = []; ahead = target ∷ [] }) in
      let sound = sound_after (names_in objects) target [] (record { seen = []; ahead = target ∷ [] })
      (sound_start (names_in objects) target [] distinct_none) first.step in
      let front : has w.ahead missing ≡ true =
      ap (λ (a : List (List ℕ)). has a missing) first.visits.front
      ∙ or_first (bytes_eq missing missing) (has first.visits.rest missing) (is_itself missing) in
      reached_more r (ids ++ id ∷ []) there target missing
      (sound.waiting missing front (fresh (names_in objects) target [] w.seen missing first.visits.first).0)

  by_body : (found : Entry) (body : EntryBody) → entry_at r id ≡ Some found → found.body ≡ body → GoWith r before body ids
      → IsIncomplete objects desk (start_of body) missing → ⊥
  by_body found (Reference name target) read is new first =
      elim (either_way r new.was target ids new.reached missing (visited target first)) [
        | inl early ↦ had.each found name target new.was missing read is new.value
            (was_reached r new.was target ids new.reached missing early) first.missing.not_kept
        | inr now ↦ is_in r (ids ++ id ∷ []) there missing (has_front ids (id ∷ []) missing now) first.missing.not_pushed
      ]
  by_body found (Annotation named skip message) read is none first =
      let both : missing ∷ first.visits.rest ≡ [] = sym first.visits.front ∙ nothing_ahead (names_in objects) first.step in
      absurd (cc both)

pub nothing_lacks : NothingLacks
nothing_lacks r desk before id text missing push made is had first =
    let with_entry : Push = push_with r id made.ids made.go.entry in
    let same : push ≡ with_entry = (one_push push with_entry text [] is (subst (IsPushText with_entry) (sym (append-nil text)) made.is)).1 in
    let is_id : IsId id = subst IsId (read_id r id made.go.entry made.go.read) made.is.is.spelled.id in
    by_body r desk before id made.ids missing (never_gone r before id is_id made.go.entry made.go.read made.ids made.go.with_body made.whole) had
    made.go.entry made.go.entry.body made.go.read refl made.go.with_body
    (subst (λ (p : Push). IsIncomplete p.objects desk (start_of p.entry.body) missing) same first)
