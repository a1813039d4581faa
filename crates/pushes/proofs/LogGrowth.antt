-- The log of the repository that a push makes.
use Rattle.std.proofs.Common.{◌≡◌, ◌≢◌, ℕ, ◌+◌, ◌≤◌, ◌==◌, Bool, true, false, ◌||◌, cond, List, [], ◌∷◌, ◌++◌, Option, Some, None, inl, inr, length, map, refl, sym, ap, subst, ◌∙◌, arith}
use Rattle.std.specs.Prelude.{◌⊎◌, not, is_some, unwrap_or}
use Rattle.std.specs.Cmp.{eq_by_cmp_equiv}
use Rattle.std.specs.Cmp.Lexicographic.{bytes_decides, nat_list_cmp_total}
use Rattle.std.specs.FinMap.{get, get-insert, get-remove, insert, remove, nat_cmp-IsAntisymmetric, slice_cmp-IsAntisymmetric}
use Rattle.std.specs.FinMap.Entries.{below_all, is_sorted}
use Rattle.std.specs.List.{AllByRecursion, filter, find}
use Rattle.std.specs.Option.{option_and_then, option_map}
use Rattle.std.specs.Ordering.{is_eq, is_lt}
use Rattle.std.specs.Str.{bytes_eq}
use Rattle.std.specs.declared.cmp.Ordering.{Ordering}
use Rattle.std.specs.declared.cmp.Ordering.TheVariants.{Equal, Less, Greater}
use Rattle.std.proofs.lemmas.Bool.{and_parts, eqb-true, true≢false}
use Rattle.std.proofs.lemmas.Bool.Decides.{same_from_decides}
use Rattle.std.proofs.lemmas.List.{length-map}
use Rattle.std.proofs.lemmas.Slice.Eq.{bytes_eq-Decides}
use Rattle.octets.specs.BytesMap.{BytesMap, by_bytes}
use Rattle.git_object.specs.Ids.{zeros}
use Rattle.git_object.specs.Names.{log_name}
use Rattle.git_object.specs.Objects.{Pair, pair_id}
use Rattle.git_object.specs.Repository.{HasObject, IsObject, Repository, largest_body, object_at, own_pair}
use Rattle.keeper_api.specs.Changes.{changed, with_objects, with_ref, with_refs}
use Rattle.rsl_chain.specs.declared.entries.Entry.{Entry}
use Rattle.rsl_chain.specs.declared.entries.EntryBody.{EntryBody}
use Rattle.rsl_chain.specs.declared.entries.EntryBody.TheVariants.{Reference, Annotation}
use Rattle.rsl_chain.specs.Chain.{head_after}
use Rattle.rsl_chain.specs.Growing.{GainsEntry, KeepsEntries}
use Rattle.rsl_chain.specs.Logs.{IsLogOf, head_in, head_of_pair, heads_of}
use Rattle.rsl_chain.specs.declared.heads.Head.{Head}
use Rattle.rsl_chain.proofs.Growing as growing
use Rattle.rsl_chain.proofs.Lookups.{entry_read, heads_of_entries}
use Rattle.placed_items.specs.Places.{place_of}
use Rattle.placed_items.proofs.Placing.{has_place}
use Rattle.clone_stream.specs.Streams.{IsOwn}
use Rattle.pushes.specs.Pushes.{IsSpelled, entry_in, entry_of_object, has_own_id, object_in}
use Rattle.pushes.specs.declared.pushed.Push.{Push}
use Rattle.pushes.proofs.EntryLines.{has_id}
use Rattle.pushes.specs.Steps.{PushGrows, by_number, by_place, change_of, early, entry_refs, has_row, ids_of, is_new, row_id, same_tip, target_ref, tip_of}
use Rattle.pushes.specs.declared.replies.Reply.TheVariants.{Misnumbered, Stale}
use Rattle.pushes.specs.declared.rows.Row.{Row}

-- ---- maps by bytes

is_equal : (o : Ordering) → is_eq o ≡ true → o ≡ Equal
is_equal Less e = absurd (true≢false (sym e))
is_equal Equal e = refl
is_equal Greater e = absurd (true≢false (sym e))

pub same_key : (a b : List ℕ) → is_eq (by_bytes a b) ≡ true → a ≡ b
same_key a b e = slice_cmp-IsAntisymmetric nat_cmp-IsAntisymmetric a b (is_equal (by_bytes a b) e)

same_test : (a b : List ℕ) → is_eq (by_bytes a b) ≡ bytes_eq a b
same_test a b =
    same_from_decides (is_eq (by_bytes a b)) (bytes_eq a b)
    (same_key a b, λ e. subst (λ (x : List ℕ). is_eq (by_bytes a x) ≡ true) e ((eq_by_cmp_equiv nat_list_cmp_total).refl a)) (bytes_decides a b)

module _ {X : Type 0} where
  get_other : (m : BytesMap X) (k q : List ℕ) (v : X) → bytes_eq q k ≡ false → get (insert m k v) q ≡ get m q
  get_other m k q v ne = get-insert nat_list_cmp_total m k v q ∙ ap (λ (b : Bool). cond b (Some v) (get m q)) (same_test q k ∙ ne)

  get_same : (m : BytesMap X) (k q : List ℕ) (v : X) → bytes_eq q k ≡ true → get (insert m k v) q ≡ Some v
  get_same m k q v eq = get-insert nat_list_cmp_total m k v q ∙ ap (λ (b : Bool). cond b (Some v) (get m q)) (same_test q k ∙ eq)

-- objects of other ids leave what is kept at an id
kept_other : (ps : List Pair) (m : BytesMap Pair) (q : List ℕ) → AllByRecursion (λ (p : Pair). bytes_eq q (pair_id p) ≡ false) ps → get (with_objects ps m) q ≡ get m q
kept_other [] m q all = refl
kept_other (p ∷ ps) m q all = kept_other ps (insert m (pair_id p) p) q all.1 ∙ get_other m (pair_id p) q p all.0

-- an object is kept of whose id no other is
kept_there : (ps : List Pair) (m : BytesMap Pair) (q : List ℕ) (x : Pair) → AllByRecursion (λ (p : Pair). bytes_eq q (pair_id p) ≡ true → p ≡ x) ps
    → (get m q ≡ Some x) ⊎ (find (has_own_id q) ps ≡ Some x) → get (with_objects ps m) q ≡ Some x
kept_there [] m q x all (inl had) = had
kept_there [] m q x all (inr found) = absurd (cc found)
kept_there (p ∷ ps) m q x all had = kept_there ps (insert m (pair_id p) p) q x all.1 (by_test (bytes_eq q (pair_id p)) refl had)
  where
    turned : (b : Bool) → bytes_eq q (pair_id p) ≡ b → has_own_id q p ≡ b
    turned true e = (bytes_eq-Decides (pair_id p) q).1 (sym ((bytes_eq-Decides q (pair_id p)).0 e))
    turned false e = other (has_own_id q p) refl
      where
        other : (c : Bool) → has_own_id q p ≡ c → has_own_id q p ≡ false
        other true is = absurd (true≢false (sym ((bytes_eq-Decides q (pair_id p)).1 (sym ((bytes_eq-Decides (pair_id p) q).0 is))) ∙ e))
        other false is = is

    by_test : (b : Bool) → bytes_eq q (pair_id p) ≡ b → (get m q ≡ Some x) ⊎ (find (has_own_id q) (p ∷ ps) ≡ Some x)
        → (get (insert m (pair_id p) p) q ≡ Some x) ⊎ (find (has_own_id q) ps ≡ Some x)
    by_test true e any = inl (get_same m (pair_id p) q p e ∙ ap Some (all.0 e))
    by_test false e (inl had) = inl (get_other m (pair_id p) q p e ∙ had)
    by_test false e (inr found) = inr (ap (λ (b : Bool). cond b (Some p) (find (has_own_id q) ps)) (sym (turned false e)) ∙ found)

-- ---- the pushed objects that are new

in_filter : {A : Type 0} (P : A → Type 0) (t : A → Bool) (xs : List A) → AllByRecursion P xs → AllByRecursion P (filter t xs)
in_filter P t [] all = tt
in_filter P t (x ∷ xs) all = by_test (t x) (in_filter P t xs all.1)
  where
    by_test : (b : Bool) → AllByRecursion P (filter t xs) → AllByRecursion P (cond b (x ∷ filter t xs) (filter t xs))
    by_test true more = (all.0, more)
    by_test false more = more

-- an id of the log is that of no new object
not_new : (log : List Row) (id : List ℕ) (p : Pair) → has_row log id ≡ true → is_new log p ≡ true → bytes_eq id (pair_id p) ≡ false
not_new log id p has new = by_test (bytes_eq id (pair_id p)) refl
  where
    by_test : (b : Bool) → bytes_eq id (pair_id p) ≡ b → bytes_eq id (pair_id p) ≡ false
    by_test true e =
        let same : id ≡ pair_id p = (bytes_eq-Decides id (pair_id p)).0 e in
        let there : has_row log (pair_id p) ≡ true = ap (has_row log) (sym same) ∙ has in
        absurd (true≢false (sym new ∙ ap not there))
    by_test false e = e

none_new : (log : List Row) (id : List ℕ) (ps : List Pair) → has_row log id ≡ true → AllByRecursion (λ (p : Pair). bytes_eq id (pair_id p) ≡ false) (filter (is_new log) ps)
none_new log id [] has = tt
none_new log id (p ∷ ps) has = by_test (is_new log p) refl (none_new log id ps has)
  where
    by_test : (b : Bool) → is_new log p ≡ b → AllByRecursion (λ (x : Pair). bytes_eq id (pair_id x) ≡ false) (filter (is_new log) ps)
        → AllByRecursion (λ (x : Pair). bytes_eq id (pair_id x) ≡ false) (cond b (p ∷ filter (is_new log) ps) (filter (is_new log) ps))
    by_test true e more = (not_new log id p has e, more)
    by_test false e more = more

-- the object of an id that is not in the log is new
still_found : (log : List Row) (id : List ℕ) (ps : List Pair) → has_row log id ≡ false → find (has_own_id id) (filter (is_new log) ps) ≡ find (has_own_id id) ps
still_found log id [] none = refl
still_found log id (p ∷ ps) none = by_test (still_found log id ps none) (has_own_id id p) refl (is_new log p) refl
  where
    by_test : find (has_own_id id) (filter (is_new log) ps) ≡ find (has_own_id id) ps → (b : Bool) → has_own_id id p ≡ b → (n : Bool) → is_new log p ≡ n
        → find (has_own_id id) (cond n (p ∷ filter (is_new log) ps) (filter (is_new log) ps)) ≡ cond b (Some p) (find (has_own_id id) ps)
    by_test more true e true f = ap (λ (b : Bool). cond b (Some p) (find (has_own_id id) (filter (is_new log) ps))) e
    by_test more true e false f =
        let same : pair_id p ≡ id = (bytes_eq-Decides (pair_id p) id).0 e in
        let absent : has_row log (pair_id p) ≡ false = ap (has_row log) same ∙ none in
        absurd (true≢false (sym (ap not absent) ∙ f))
    by_test more false e true f = ap (λ (b : Bool). cond b (Some p) (find (has_own_id id) (filter (is_new log) ps))) e ∙ more
    by_test more false e false f = more

-- ---- an id of objects that rise is that of one

not_less : (o : Ordering) → is_lt o ≡ true → is_eq o ≡ true → ⊥
not_less Less a b = true≢false (sym b)
not_less Equal a b = true≢false (sym a)
not_less Greater a b = true≢false (sym a)

all_above : (k q : List ℕ) (x : Pair) (es : List (List ℕ × Pair)) → bytes_eq q k ≡ true → AllByRecursion IsOwn es → below_all by_bytes k es ≡ true
    → AllByRecursion (λ (p : Pair). bytes_eq q (pair_id p) ≡ true → p ≡ x) (map (λ (e : List ℕ × Pair). e.1) es)
all_above k q x [] is own below = tt
all_above k q x (e ∷ es) is own below =
    let parts = and_parts (is_lt (by_bytes k e.0)) (below_all by_bytes k es) below in
    let first : bytes_eq q (pair_id e.1) ≡ true → e.1 ≡ x = λ same.
    let here : k ≡ e.0 = sym ((bytes_eq-Decides q k).0 is) ∙ (bytes_eq-Decides q (pair_id e.1)).0 same ∙ own.0.is.own in
    absurd (not_less (by_bytes k e.0) parts.0 (same_test k e.0 ∙ (bytes_eq-Decides k e.0).1 here)) in
    (first, all_above k q x es is own.1 parts.1)

one_of_id : (es : List (List ℕ × Pair)) (q : List ℕ) (x : Pair) → AllByRecursion IsOwn es → is_sorted by_bytes es ≡ true → find (has_own_id q) (map (λ (e : List ℕ × Pair). e.1) es) ≡ Some x
    → AllByRecursion (λ (p : Pair). bytes_eq q (pair_id p) ≡ true → p ≡ x) (map (λ (e : List ℕ × Pair). e.1) es)
one_of_id [] q x own sorted found = tt
one_of_id (e ∷ es) q x own sorted found = by_test (one_of_id es q x own.1 (parts_of sorted).1) (has_own_id q e.1) refl found
  where
    parts_of : is_sorted by_bytes (e ∷ es) ≡ true → (below_all by_bytes e.0 es ≡ true) × (is_sorted by_bytes es ≡ true)
    parts_of rising = and_parts (below_all by_bytes e.0 es) (is_sorted by_bytes es) rising

    by_test : (find (has_own_id q) (map (λ (d : List ℕ × Pair). d.1) es) ≡ Some x → AllByRecursion (λ (p : Pair). bytes_eq q (pair_id p) ≡ true → p ≡ x) (map (λ (d : List ℕ × Pair). d.1) es))
        → (b : Bool) → has_own_id q e.1 ≡ b → cond b (Some e.1) (find (has_own_id q) (map (λ (d : List ℕ × Pair). d.1) es)) ≡ Some x
        → AllByRecursion (λ (p : Pair). bytes_eq q (pair_id p) ≡ true → p ≡ x) (e.1 ∷ map (λ (d : List ℕ × Pair). d.1) es)
    by_test more true is f =
        let same : e.1 ≡ x = cc f in
        let key : q ≡ e.0 = sym ((bytes_eq-Decides (pair_id e.1) q).0 is) ∙ own.0.is.own in
        ((λ _. same), all_above e.0 q x es ((bytes_eq-Decides q e.0).1 key) own.1 (parts_of sorted).0)
    by_test more false isnt f = (
      (λ same. absurd (true≢false (sym ((bytes_eq-Decides (pair_id e.1) q).1 (sym ((bytes_eq-Decides q (pair_id e.1)).0 same))) ∙ isnt))),
      more f,
    )

found_small : (es : List (List ℕ × Pair)) (q : List ℕ) (x : Pair) → AllByRecursion IsOwn es → find (has_own_id q) (map (λ (e : List ℕ × Pair). e.1) es) ≡ Some x → length x.body ≤ largest_body
found_small [] q x own found = absurd (cc found)
found_small (e ∷ es) q x own found = by_test (found_small es q x own.1) (has_own_id q e.1) found
  where
    by_test : (find (has_own_id q) (map (λ (d : List ℕ × Pair). d.1) es) ≡ Some x → length x.body ≤ largest_body)
        → (b : Bool) → cond b (Some e.1) (find (has_own_id q) (map (λ (d : List ℕ × Pair). d.1) es)) ≡ Some x → length x.body ≤ largest_body
    by_test more true f = let same : e.1 ≡ x = cc f in subst (λ (p : Pair). length p.body ≤ largest_body) same own.0.is.small
    by_test more false f = more f

-- ---- the next entry

pub record Next (log : List Row) (entry : Entry) : Type 0 where
  pub fresh : has_row log entry.id ≡ false
  pub parent : entry.parent ≡ tip_of log
  pub number : entry.number ≡ length log + 1

same_tips : (a b : Option (List ℕ)) → same_tip a b ≡ true → a ≡ b
same_tips (Some a) (Some b) e = ap Some ((bytes_eq-Decides a b).0 e)
same_tips (Some a) None e = absurd (true≢false (sym e))
same_tips None (Some b) e = absurd (true≢false (sym e))
same_tips None None e = refl

pub next_of : (log : List Row) (entry : Entry) → early log entry ≡ None → Next log entry
next_of log entry fits = by_where (place_of row_id log entry.id) refl fits
  where
    by_count : (b : Bool) → (entry.number == length log + 1) ≡ b → cond b None (Some (Misnumbered entry.number (length log + 1))) ≡ None → entry.number ≡ length log + 1
    by_count true e f = eqb-true entry.number (length log + 1) e
    by_count false e f = absurd (cc f)

    by_tip : (b : Bool) → same_tip entry.parent (tip_of log) ≡ b → cond b (by_number log entry.number) (Some (Stale (length log) (unwrap_or (tip_of log) zeros))) ≡ None → (entry.parent ≡ tip_of log) × (entry.number ≡ length log + 1)
    by_tip true e f = (same_tips entry.parent (tip_of log) e, by_count (entry.number == length log + 1) refl f)
    by_tip false e f = absurd (cc f)

    by_where : (o : Option ℕ) → place_of row_id log entry.id ≡ o → by_place log entry o ≡ None → Next log entry
    by_where (Some n) e f = absurd (cc f)
    by_where None e f =
        let both = by_tip (same_tip entry.parent (tip_of log)) refl f in
        record { fresh = sym (has_place row_id log entry.id) ∙ ap is_some e; parent = both.0; number = both.1 }

-- an id of the log has its row
pub its_row : (log : List Row) (front : List (List ℕ)) (id : List ℕ) (rest : List (List ℕ)) → ids_of log ≡ front ++ id ∷ rest → has_row log id ≡ true
its_row [] [] id rest e = absurd (cc e)
its_row [] (x ∷ front) id rest e = absurd (cc e)
its_row (row ∷ log) [] id rest e =
    let same : row.id ≡ id = cc e in
    ap (λ (b : Bool). b || has_row log id) ((bytes_eq-Decides row.id id).1 same)
its_row (row ∷ log) (x ∷ front) id rest e =
    let more : ids_of log ≡ front ++ id ∷ rest = cc e in
    ap (λ (b : Bool). bytes_eq row.id id || b) (its_row log front id rest more) ∙ last_true (bytes_eq row.id id)
  where
    last_true : (b : Bool) → (b || true) ≡ true
    last_true true = refl
    last_true false = refl

-- the log's reference after a push
pub at_entry : (log : List Row) (r : Repository) (push : Push) → get (changed (change_of log push) r).refs log_name ≡ Some push.entry.id
at_entry log r push = by_body push.entry.body
  where
    by_body : (body : EntryBody) → get (with_refs (entry_refs body ++ record { name = log_name; to = Some push.entry.id } ∷ []) r.refs) log_name ≡ Some push.entry.id
    by_body (Reference name target) = get_same (with_ref name (target_ref target) r.refs) log_name log_name push.entry.id ((bytes_eq-Decides log_name log_name).1 refl)
    by_body (Annotation ids skip message) = get_same r.refs log_name log_name push.entry.id ((bytes_eq-Decides log_name log_name).1 refl)

-- ---- the entry of a push

record Pushed (objects : List Pair) (entry : Entry) : Type 0 where
  pair : Pair
  found : object_in objects entry.id ≡ Some pair
  read : entry_of_object pair ≡ Some entry

pushed_of : (objects : List Pair) (entry : Entry) → entry_in objects entry.id ≡ Some entry → Pushed objects entry
pushed_of objects entry e = by_found (object_in objects entry.id) refl e
  where
    by_found : (o : Option Pair) → object_in objects entry.id ≡ o → option_and_then entry_of_object o ≡ Some entry → Pushed objects entry
    by_found None is f = absurd (cc f)
    by_found (Some pair) is f = record { pair = pair; found = is; read = f }

module _ (log : List Row) (r : Repository) (push : Push) (spelled : IsSpelled push) (next : Next log push.entry) (is_log : IsLogOf r (ids_of log)) where
  abbrev after : Repository
  after = changed (change_of log push) r

  abbrev id : List ℕ
  id = push.entry.id

  abbrev es : List (List ℕ × Pair)
  es = spelled.es

  pushed : Pushed push.objects push.entry
  pushed = pushed_of push.objects push.entry spelled.entry

  in_es : find (has_own_id id) (map (λ (e : List ℕ × Pair). e.1) es) ≡ Some pushed.pair
  in_es = ap (find (has_own_id id)) (sym spelled.own.objects_are) ∙ pushed.found

  has : HasObject after id pushed.pair
  has = record {
    kept = kept_there (filter (is_new log) push.objects) r.objects id pushed.pair
        (in_filter (λ (p : Pair). bytes_eq id (pair_id p) ≡ true → p ≡ pushed.pair) (is_new log) push.objects
        (subst (λ (ps : List Pair). AllByRecursion (λ (p : Pair). bytes_eq id (pair_id p) ≡ true → p ≡ pushed.pair) ps) (sym spelled.own.objects_are) (one_of_id es id pushed.pair spelled.own.are.own spelled.own.are.ids_rise in_es)))
        (inr (still_found log id push.objects next.fresh ∙ pushed.found));
    is = record { own = has_id push.objects id pushed.pair pushed.found; small = found_small es id pushed.pair spelled.own.are.own in_es };
  }

  -- the new entry counts those before it, and its parent is the last of them
  reads : heads_of after id ≡ Some (head_after (ids_of log))
  reads =
      let count : length (ids_of log) ≡ length log = length-map log row_id in
      let number : push.entry.number ≡ length (ids_of log) + 1 = next.number ∙ ap (λ (n : ℕ). n + 1) (sym count) in
      let head : head_in push.entry ≡ head_after (ids_of log) = λ i. record { number = number i; parent = next.parent i } in
      heads_of_entries after id ∙ ap (option_map head_in) (entry_read after id pushed.pair has (Some push.entry) (sym pushed.read)) ∙ ap Some head

  -- what an old id leads to stays
  stays : (old : List ℕ) → has_row log old ≡ true → heads_of after old ≡ heads_of r old
  stays old there =
      ap (λ (o : Option Pair). option_and_then (λ (pair : Pair). head_of_pair pair.kind pair.body) (option_and_then (own_pair old) o))
      (kept_other (filter (is_new log) push.objects) r.objects old (none_new log old push.objects there))

  keeps : KeepsEntries (ids_of log) r after
  keeps front old rest is head read = stays old (its_row log front old rest is) ∙ read

  pub grows : IsLogOf after (ids_of log ++ id ∷ [])
  grows = growing.log_grows (ids_of log) id r after is_log (record { keeps = keeps; counts = reads; at = at_entry log r push })

pub push_grows : PushGrows
push_grows = λ log r push spelled fits is_log. grows log r push spelled (next_of log push.entry fits) is_log
