-- Ids and entries in the order of their bytes.
use Rattle.std.proofs.Common.{◌≡◌, ℕ, zero, suc, ◌<◌, ◌≤◌, ◌+◌, ◌^◌, ◌-◌, Bool, true, false, List, [], ◌∷◌, ◌++◌, Option, Some, None, inl, inr}
use Rattle.std.proofs.Common.{length, map, take, refl, sym, ap, subst, ◌∙◌, arith, length-append}
use Rattle.std.specs.Prelude.{◌&&◌, ◌||◌, IfSome, T, cond, min, slice_get, slice_index_or}
use Rattle.std.proofs.Math.Nat.{min-eq_left, min-eq_right, min-le_left}
use Rattle.std.specs.FinMap.{entries, entries_sorted, get, get-entries, get-retain_keys, retain_keys}
use Rattle.std.specs.FinMap.Entries.{below_all, find-append, is_sorted, same_entries}
use Rattle.std.specs.FinMap.Entries as entry
use Rattle.std.specs.List.{AllByRecursion, flat_map}
use Rattle.std.specs.Option.{option_and_then}
use Rattle.std.specs.Ordering.{eq_by_cmp, is_eq, is_lt, ordering_reverse}
use Rattle.std.specs.Str.{bytes_eq}
use Rattle.std.specs.declared.cmp.Ordering.{Ordering}
use Rattle.std.specs.declared.cmp.Ordering.TheVariants.{Less, Equal, Greater}
use Rattle.std.proofs.lemmas.Bool.{and_parts, cases_Bool, cases_lt, true≢false}
use Rattle.std.proofs.lemmas.Cmp.{nat_list_cmp_total}
use Rattle.std.proofs.lemmas.List.Folds.{list_any-append}
use Rattle.std.proofs.lemmas.Slice.Eq.{bytes_eq-Decides}
use Rattle.octets.specs.BytesMap.{by_bytes}
use Rattle.git_object.specs.Ids.{IsId}
use Rattle.git_object.specs.Objects.{Pair, pair_id}
use Rattle.git_object.specs.Repository.{HasObject, IsObject, Repository, object_at, own_pair}
use Rattle.git_object.proofs.ObjectAt.{own_there}
use Rattle.git_object.proofs.Runs.{all_push, flat_push}
use Rattle.keeper_api.proofs.Trees.{exact_bytes}
use Rattle.clone_stream.specs.Reading.{ComesAfter, last_of}
use Rattle.clone_stream.specs.Streams.{IsOwn}
use Rattle.clone_stream.proofs.Built.{entries_rise}
use Rattle.clone_stream.proofs.Lasts.{sorted_push}
use Rattle.pushes.specs.Pushes.{AreOwn, has_own_id, largest_push, object_in, own_record}
use Rattle.pushes.specs.Fronts.{keys}
use Rattle.pushes.proofs.Fronts.{their_keys}
use Rattle.pushes.specs.Needing.{has}
use Rattle.pushes.specs.Making.{AreFound, Rise, frame_len, kept_among}
use Rattle.pushes.proofs.Firsts.{has_taken, take_next}
use Rattle.pushes.proofs.Values.{same_some}

-- ---- the order of ids

less_is : (o : Ordering) → is_lt o ≡ true → o ≡ Less
less_is Less e = refl
less_is Equal e = absurd (cc e)
less_is Greater e = absurd (cc e)

-- an id that neither comes after another nor before it is the other
pub tie : (a b : List ℕ) → (is_lt (by_bytes a b) ≡ true → ⊥) → is_lt (by_bytes b a) ≡ false → a ≡ b
tie a b after before = by_order (by_bytes a b) refl
  where
    by_order : (o : Ordering) → by_bytes a b ≡ o → a ≡ b
    by_order Less e = absurd (after (ap is_lt e))
    by_order Equal e = exact_bytes a b e
    by_order Greater e = absurd (true≢false (sym (ap is_lt (nat_list_cmp_total.antisymm b a ∙ ap ordering_reverse e)) ∙ before))

itself : (a : List ℕ) → eq_by_cmp by_bytes a a ≡ true
itself a = by_order (by_bytes a a) refl
  where
    by_order : (o : Ordering) → by_bytes a a ≡ o → is_eq o ≡ true
    by_order Less e = let clash : Less ≡ Greater = sym e ∙ nat_list_cmp_total.antisymm a a ∙ ap ordering_reverse e in absurd (cc clash)
    by_order Equal e = refl
    by_order Greater e = let clash : Greater ≡ Less = sym e ∙ nat_list_cmp_total.antisymm a a ∙ ap ordering_reverse e in absurd (cc clash)

-- the order ties the ids that are equal
pub same_key : (a b : List ℕ) → eq_by_cmp by_bytes a b ≡ bytes_eq b a
same_key a b = elim (cases_Bool (bytes_eq b a)) [
  | inl same ↦
      let e : b ≡ a = (bytes_eq-Decides b a).0 same in
      subst (λ (x : List ℕ). eq_by_cmp by_bytes a x ≡ true) (sym e) (itself a) ∙ sym same
  | inr differs ↦ by_order (by_bytes a b) refl differs ∙ sym differs
]
  where
    by_order : (o : Ordering) → by_bytes a b ≡ o → bytes_eq b a ≡ false → is_eq o ≡ false
    by_order Less e d = refl
    by_order Equal e d = absurd (true≢false (sym ((bytes_eq-Decides b a).1 (sym (exact_bytes a b e))) ∙ d))
    by_order Greater e d = refl

pub last_taken : (ids : List (List ℕ)) (i : ℕ) (id : List ℕ) → slice_get ids i ≡ Some id → last_of (take (suc i) ids) ≡ Some id
last_taken [] i id there = absurd (cc there)
last_taken (x ∷ ids) zero id there = there
last_taken (x ∷ []) (suc i) id there = absurd (cc there)
last_taken (x ∷ y ∷ ids) (suc i) id there = last_taken (y ∷ ids) i id there

before_there : (ids : List (List ℕ)) (i : ℕ) (id : List ℕ) → slice_get ids (suc i) ≡ Some id → (l : List ℕ) × (slice_get ids i ≡ Some l)
before_there [] i id there = absurd (cc there)
before_there (x ∷ ids) zero id there = (x, refl)
before_there (x ∷ ids) (suc i) id there = before_there ids i id there

index_is : (xs : List (List ℕ)) (i : ℕ) (x d : List ℕ) → slice_get xs i ≡ Some x → slice_index_or xs i d ≡ x
index_is [] i x d e = absurd (cc e)
index_is (y ∷ xs) zero x d e = same_some y x e
index_is (y ∷ xs) (suc i) x d e = index_is xs i x d e

within : (xs : List (List ℕ)) (i : ℕ) (x : List ℕ) → slice_get xs i ≡ Some x → i < length xs
within [] i x e = absurd (cc e)
within (y ∷ xs) zero x e = omega arith
within (y ∷ xs) (suc i) x e = let less = within xs i x e in omega (arith, less)

-- the id at a place of ids that rise is not less than the last of those before it
pub not_less : (ids : List (List ℕ)) (i : ℕ) (id l : List ℕ) → Rise ids → slice_get ids i ≡ Some id → last_of (take i ids) ≡ Some l
    → is_lt (by_bytes id l) ≡ false
not_less ids zero id l rise there last = absurd (no_front ids last)
  where
    no_front : (xs : List (List ℕ)) → last_of (take 0 xs) ≡ Some l → ⊥
    no_front [] e = cc e
    no_front (x ∷ xs) e = cc e
not_less ids (suc i) id l rise there last =
    let was = before_there ids i id there in
    let same : was.0 ≡ l = same_some was.0 l (sym (last_taken ids i was.0 was.1) ∙ last) in
    let next : suc i ≡ i + 1 = omega arith in
    let short : suc i < length ids = within ids (suc i) id there in
    let here : slice_index_or ids (i + 1) l ≡ id = index_is ids (i + 1) id l (ap (slice_get ids) (sym next) ∙ there) in
    let before : slice_index_or ids i l ≡ l = index_is ids i l l (was.1 ∙ ap Some same) in
    ap (λ (x : List ℕ). is_lt (by_bytes x l)) (sym here) ∙ ap (λ (y : List ℕ). is_lt (by_bytes (slice_index_or ids (i + 1) l) y)) (sym before)
    ∙ rise i l (omega arith) (omega (arith, short, next))

-- ---- entries in order

below_in : {X : Type 0} (k : List ℕ) (es : List (List ℕ × X)) (x : List ℕ × X) → below_all by_bytes k (es ++ x ∷ []) ≡ true → is_lt (by_bytes k x.0) ≡ true
below_in k [] x h = (and_parts (is_lt (by_bytes k x.0)) true h).0
below_in k (e ∷ es) x h = below_in k es x (and_parts (is_lt (by_bytes k e.0)) (below_all by_bytes k (es ++ x ∷ [])) h).1

greater_key : (k q : List ℕ) → by_bytes k q ≡ Less → eq_by_cmp by_bytes q k ≡ false
greater_key k q e = ap is_eq (nat_list_cmp_total.antisymm q k ∙ ap ordering_reverse e)

less_key : (k q : List ℕ) → by_bytes q k ≡ Less → eq_by_cmp by_bytes q k ≡ false
less_key k q e = ap is_eq e

-- a key after all others is none of them
pub absent : {X : Type 0} (es : List (List ℕ × X)) (x : List ℕ × X) → is_sorted by_bytes (es ++ x ∷ []) ≡ true → entry.find by_bytes x.0 es ≡ None
absent [] x h = refl
absent (e ∷ es) x h =
    let parts = and_parts (below_all by_bytes e.0 (es ++ x ∷ [])) (is_sorted by_bytes (es ++ x ∷ [])) h in
    ap (λ (b : Bool). cond b (Some e.1) (entry.find by_bytes x.0 es)) (greater_key e.0 x.0 (less_is (by_bytes e.0 x.0) (below_in e.0 es x parts.0)))
    ∙ absent es x parts.1

find_below : {X : Type 0} (q : List ℕ) (es : List (List ℕ × X)) → below_all by_bytes q es ≡ true → entry.find by_bytes q es ≡ None
find_below q [] h = refl
find_below q (e ∷ es) h =
    let parts = and_parts (is_lt (by_bytes q e.0)) (below_all by_bytes q es) h in
    ap (λ (b : Bool). cond b (Some e.1) (entry.find by_bytes q es)) (less_key e.0 q (less_is (by_bytes q e.0) parts.0)) ∙ find_below q es parts.1

both_so : (a b : Bool) → a ≡ true → b ≡ true → (a && b) ≡ true
both_so true b p q = q
both_so false b p q = absurd (cc p)

lower : {X : Type 0} (q k : List ℕ) (es : List (List ℕ × X)) → by_bytes q k ≡ Less → below_all by_bytes k es ≡ true → below_all by_bytes q es ≡ true
lower q k [] less h = refl
lower q k (e ∷ es) less h =
    let parts = and_parts (is_lt (by_bytes k e.0)) (below_all by_bytes k es) h in
    both_so _ _ (ap is_lt (nat_list_cmp_total.trans q k e.0 less (less_is (by_bytes k e.0) parts.0))) (lower q k es less parts.1)

pub find_first : {X : Type 0} (e : List ℕ × X) (es : List (List ℕ × X)) → entry.find by_bytes e.0 (e ∷ es) ≡ Some e.1
find_first e es = ap (λ (b : Bool). cond b (Some e.1) (entry.find by_bytes e.0 es)) (itself e.0)

-- ---- a part of some entries is no longer than they are

abbrev pub Part : List (List ℕ × Pair) → List (List ℕ × Pair) → Type 0
Part es fs = (q : List ℕ) (x : Pair) → entry.find by_bytes q es ≡ Some x → entry.find by_bytes q fs ≡ Some x

abbrev pub total : List (List ℕ × Pair) → ℕ
total es = length (flat_map own_record (map (λ (e : List ℕ × Pair). e.1) es))

total_more : (e : List ℕ × Pair) (es : List (List ℕ × Pair)) → total (e ∷ es) ≡ length (own_record e.1) + total es
total_more e es = length-append (own_record e.1) (flat_map own_record (map (λ (x : List ℕ × Pair). x.1) es))

le_more : (a b c d x y : ℕ) → a ≡ x + b → c ≡ y + d → y ≡ x → b ≤ d → a ≤ c
le_more a b c d x y p q r le = omega (arith, p, q, r, le)

le_later : (a c d y : ℕ) → c ≡ y + d → a ≤ d → a ≤ c
le_later a c d y p le = omega (arith, p, le)

-- what is found behind another key
behind : (q k : List ℕ) (v x : Pair) (es : List (List ℕ × Pair)) → (q ≡ k → ⊥) → entry.find by_bytes q ((k, v) ∷ es) ≡ Some x
    → entry.find by_bytes q es ≡ Some x
behind q k v x es other found = by_test (eq_by_cmp by_bytes q k) refl found
  where
    by_test : (b : Bool) → eq_by_cmp by_bytes q k ≡ b → cond b (Some v) (entry.find by_bytes q es) ≡ Some x → entry.find by_bytes q es ≡ Some x
    by_test true e f = absurd (other (sym ((bytes_eq-Decides k q).0 (sym (same_key q k) ∙ e))))
    by_test false e f = f

pub in_front : (q k : List ℕ) (v x : Pair) (es : List (List ℕ × Pair)) → (q ≡ k → ⊥) → entry.find by_bytes q es ≡ Some x
    → entry.find by_bytes q ((k, v) ∷ es) ≡ Some x
in_front q k v x es other found = by_test (eq_by_cmp by_bytes q k) refl
  where
    by_test : (b : Bool) → eq_by_cmp by_bytes q k ≡ b → cond b (Some v) (entry.find by_bytes q es) ≡ Some x
    by_test true e = absurd (other (sym ((bytes_eq-Decides k q).0 (sym (same_key q k) ∙ e))))
    by_test false e = found

pub never_found : (q k : List ℕ) (x : Pair) (es : List (List ℕ × Pair)) → below_all by_bytes k es ≡ true → entry.find by_bytes q es ≡ Some x → q ≡ k → ⊥
never_found q k x es below found same =
    let both : None ≡ Some x = sym (find_below k es below) ∙ ap (λ (z : List ℕ). entry.find by_bytes z es) (sym same) ∙ found in cc both

pub total_le : (es fs : List (List ℕ × Pair)) → is_sorted by_bytes es ≡ true → is_sorted by_bytes fs ≡ true → Part es fs → total es ≤ total fs
total_le [] fs g h part = omega arith
total_le (e ∷ es) [] g h part = let both : None ≡ Some e.1 = part e.0 e.1 (find_first e es) in absurd (cc both)
total_le (e ∷ es) (f ∷ fs) g h part =
    by_order (by_bytes e.0 f.0) refl (λ g' h' p. total_le es fs g' h' p) (λ h' p. total_le (e ∷ es) fs g h' p)
  where
    a : (below_all by_bytes e.0 es ≡ true) × (is_sorted by_bytes es ≡ true)
    a = and_parts (below_all by_bytes e.0 es) (is_sorted by_bytes es) g

    b : (below_all by_bytes f.0 fs ≡ true) × (is_sorted by_bytes fs ≡ true)
    b = and_parts (below_all by_bytes f.0 fs) (is_sorted by_bytes fs) h

    by_order : (o : Ordering) → by_bytes e.0 f.0 ≡ o → (is_sorted by_bytes es ≡ true → is_sorted by_bytes fs ≡ true → Part es fs → total es ≤ total fs)
        → (is_sorted by_bytes fs ≡ true → Part (e ∷ es) fs → total (e ∷ es) ≤ total fs) → total (e ∷ es) ≤ total (f ∷ fs)
    by_order Less o both_less late_less =
        let none : entry.find by_bytes e.0 (f ∷ fs) ≡ None = find_below e.0 (f ∷ fs) (both_so _ _ (ap is_lt o) (lower e.0 f.0 fs o b.0)) in
        let both : None ≡ Some e.1 = sym none ∙ part e.0 e.1 (find_first e es) in absurd (cc both)
    by_order Equal o both_less late_less =
        let key : e.0 ≡ f.0 = exact_bytes e.0 f.0 o in
        let value : f.1 ≡ e.1 =
        same_some f.1 e.1 (sym (ap (λ (k : List ℕ). entry.find by_bytes k (f ∷ fs)) key ∙ find_first f fs) ∙ part e.0 e.1 (find_first e es)) in
        let rest = both_less a.1 b.1 (λ q x found.
        let other : q ≡ e.0 → ⊥ = never_found q e.0 x es a.0 found in
        behind q f.0 f.1 x fs (λ same. other (same ∙ sym key)) (part q x (in_front q e.0 e.1 x es other found))) in
        let one : length (own_record f.1) ≡ length (own_record e.1) = ap (λ (p : Pair). length (own_record p)) value in
        le_more (total (e ∷ es)) (total es) (total (f ∷ fs)) (total fs) (length (own_record e.1)) (length (own_record f.1)) (total_more e es)
        (total_more f fs) one rest
    by_order Greater o both_less late_less =
        let less : by_bytes f.0 e.0 ≡ Less = nat_list_cmp_total.antisymm f.0 e.0 ∙ ap ordering_reverse o in
        let rest = late_less b.1 (λ q x found.
        behind q f.0 f.1 x fs (never_found q f.0 x (e ∷ es) (both_so _ _ (ap is_lt less) (lower f.0 e.0 es less a.0)) found) (part q x found)) in
        le_later (total (e ∷ es)) (total (f ∷ fs)) (total fs) (length (own_record f.1)) (total_more f fs) rest
