-- Objects that are gathered by rising ids.
use Rattle.std.proofs.Common.{◌≡◌, ℕ, zero, suc, ◌<◌, ◌≤◌, ◌+◌, ◌^◌, ◌-◌, Bool, true, false, List, [], ◌∷◌, ◌++◌, Option, Some, None, inl, inr}
use Rattle.std.proofs.Common.{length, map, take, refl, sym, ap, subst, ◌∙◌, arith, length-append}
use Rattle.std.specs.Prelude.{◌&&◌, ◌||◌, IfSome, T, cond, min, slice_get, slice_index_or}
use Rattle.std.proofs.Math.Nat.{min-eq_left, min-eq_right, min-le_left}
use Rattle.std.specs.FinMap.{entries, entries_sorted, get, get-entries, get-retain_keys, retain_keys}
use Rattle.std.specs.FinMap.Entries.{below_all, find-append, is_sorted, same_entries}
use Rattle.std.specs.FinMap.Entries as entry
use Rattle.std.specs.List.{AllByRecursion, flat_map}
use Rattle.std.specs.Option.{option_and_then}
use Rattle.std.specs.Ordering.{eq_by_cmp, is_eq, is_lt, ordering_reverse}
use Rattle.std.specs.Str.{bytes_eq}
use Rattle.std.specs.declared.cmp.Ordering.{Ordering}
use Rattle.std.specs.declared.cmp.Ordering.TheVariants.{Less, Equal, Greater}
use Rattle.std.proofs.lemmas.Bool.{and_parts, cases_Bool, cases_lt, true≢false}
use Rattle.std.proofs.lemmas.Cmp.{nat_list_cmp_total}
use Rattle.std.proofs.lemmas.List.Folds.{list_any-append}
use Rattle.std.proofs.lemmas.Slice.Eq.{bytes_eq-Decides}
use Rattle.octets.specs.BytesMap.{by_bytes}
use Rattle.git_object.specs.Ids.{IsId}
use Rattle.git_object.specs.Objects.{Pair, pair_id}
use Rattle.git_object.specs.Repository.{HasObject, IsObject, Repository, object_at, own_pair}
use Rattle.git_object.proofs.ObjectAt.{own_there}
use Rattle.git_object.proofs.Runs.{all_push, flat_push}
use Rattle.keeper_api.proofs.Trees.{exact_bytes}
use Rattle.clone_stream.specs.Reading.{ComesAfter, last_of}
use Rattle.clone_stream.specs.Streams.{IsOwn}
use Rattle.clone_stream.proofs.Built.{entries_rise}
use Rattle.clone_stream.proofs.Lasts.{sorted_push}
use Rattle.pushes.specs.Pushes.{AreOwn, has_own_id, largest_push, object_in, own_record}
use Rattle.pushes.specs.Fronts.{keys}
use Rattle.pushes.proofs.Fronts.{their_keys}
use Rattle.pushes.specs.Needing.{has}
use Rattle.pushes.specs.Making.{AreFound, Rise, frame_len, kept_among}
use Rattle.pushes.proofs.Firsts.{has_taken, take_next}
use Rattle.pushes.proofs.Values.{same_some}
use Rattle.pushes.proofs.Ordered.{absent, last_taken, not_less, Part, same_key, tie, total, total_le}

-- ---- what was gathered so far

-- the objects of these ids, in a store that tells this
pub record IsSoFar (content : Option Repository) (ids : List (List ℕ)) (objects : List Pair) (len : ℕ) : Type 0 where
  pub es : List (List ℕ × Pair)
  pub own : AreOwn es objects
  pub last : last_of (keys es) ≡ last_of ids
  pub long : len ≡ length (flat_map own_record objects) + frame_len
  pub short : len ≤ largest_push
  pub those : (r : Repository) → content ≡ Some r → (q : List ℕ) → entry.find by_bytes q es ≡ cond (has ids q) (get r.objects q) None

pub at_first : (content : Option Repository) (objects : List Pair) (len : ℕ) → objects ≡ [] → len ≡ 89 → IsSoFar content [] objects len
at_first content objects len none is = record {
  es = [];
  own = record { are = record { own = tt; ids_rise = refl; are_refs = tt; names_rise = refl }; objects_are = none };
  last = refl;
  long = is ∙ ap (λ (o : List Pair). length (flat_map own_record o) + 89) (sym none);
  short = omega (arith, is);
  those = λ r told q. refl;
}

-- it is told no more than before
pub still_so : (content now : Option Repository) (ids : List (List ℕ)) (objects : List Pair) (len : ℕ) → ((r : Repository) → now ≡ Some r → content ≡ Some r)
    → IsSoFar content ids objects len → IsSoFar now ids objects len
still_so content now ids objects len told so =
    record { es = so.es; own = so.own; last = so.last; long = so.long; short = so.short; those = λ r t. so.those r (told r t) }

pub or_false : (b : Bool) → (b || false) ≡ b
or_false true = refl
or_false false = refl

-- a choice, where it is taken in any case or by the first test alone
kept_so : {A : Type 0} (h : Bool) (o none : A) → o ≡ cond (h || true) o none
kept_so true o none = refl
kept_so false o none = refl

kept_as : {A : Type 0} (h : Bool) (o none : A) → cond h o none ≡ cond (h || false) o none
kept_as true o none = refl
kept_as false o none = refl

pub has_one_more : (ids : List (List ℕ)) (id q : List ℕ) → has (ids ++ id ∷ []) q ≡ (has ids q || bytes_eq id q)
has_one_more ids id q = list_any-append (λ (x : List ℕ). bytes_eq x q) ids (id ∷ []) ∙ ap (λ (b : Bool). has ids q || b) (or_false (bytes_eq id q))

sum_is : (len more a b c : ℕ) → len ≡ a + frame_len → more ≡ len + b → c ≡ a + b → more ≡ c + frame_len
sum_is len more a b c p q r = omega (arith, p, q, r)

below_end : (n : ℕ) → n ≤ largest_push → n < 2 ^ 64 - 1
below_end n le = omega (arith, le)

past : (len more a b c d : ℕ) → len ≡ a + frame_len → more ≤ len + b → c ≡ a + b → largest_push < more → c ≤ d → largest_push < d + frame_len
past len more a b c d p q r large le = omega (arith, p, q, r, large, le)

-- a sum that the end of its type does not cut off
capped : (s t n : ℕ) → t ≡ min s n → t < n → t ≡ s
capped s t n is less = elim (cases_lt n s) [
  | inl more ↦
      let low : n ≤ s = omega (arith, more) in
      let same : min s n ≡ n = min-eq_right low in
      let whole : t ≡ n = is ∙ same in
      absurd (omega (arith, less, whole))
  | inr low ↦ is ∙ min-eq_left low
]

not_more : (s t n : ℕ) → t ≡ min s n → t ≤ s
not_more s t n is = let le : min s n ≤ s = min-le_left s n in omega (arith, is, le)

last_more : {A : Type 0} (xs : List A) (x : A) → last_of (xs ++ x ∷ []) ≡ Some x
last_more [] x = refl
last_more (y ∷ []) x = refl
last_more (y ∷ z ∷ xs) x = last_more (z ∷ xs) x

has_last : (ids : List (List ℕ)) (id : List ℕ) → last_of ids ≡ Some id → has ids id ≡ true
has_last [] id e = absurd (cc e)
has_last (x ∷ []) id e = ap (λ (b : Bool). b || false) ((bytes_eq-Decides x id).1 (same_some x id e))
has_last (x ∷ y ∷ ids) id e = or_true (bytes_eq x id) _ (has_last (y ∷ ids) id e)
  where
    or_true : (a b : Bool) → b ≡ true → (a || b) ≡ true
    or_true true b h = refl
    or_true false b h = h

map_more : {A B : Type 0} (f : A → B) (xs : List A) (x : A) → map f (xs ++ x ∷ []) ≡ map f xs ++ f x ∷ []
map_more f [] x = refl
map_more f (y ∷ xs) x = ap (λ rest. f y ∷ rest) (map_more f xs x)

module _ (content : Option Repository) (ids : List (List ℕ)) (i : ℕ) (id : List ℕ) (there : slice_get ids i ≡ Some id) (objects : List Pair)
    (len : ℕ) (so : IsSoFar content (take i ids) objects len) where
  -- an id that does not come after the last one is that one
  repeats : Rise ids → (ComesAfter (last_of (map pair_id objects)) id → ⊥) → last_of (take i ids) ≡ Some id
  repeats rise late = by_last (last_of (take i ids)) refl
    where
      same_last : last_of (map pair_id objects) ≡ last_of (take i ids)
      same_last = ap last_of (their_keys so.es objects so.own) ∙ so.last

      by_last : (l : Option (List ℕ)) → last_of (take i ids) ≡ l → last_of (take i ids) ≡ Some id
      by_last None e = absurd (late (subst (λ (o : Option (List ℕ)). ComesAfter o id) (sym (same_last ∙ e)) tt))
      by_last (Some l) e =
          let same : l ≡ id = tie l id (λ after. late (subst (λ (o : Option (List ℕ)). ComesAfter o id) (sym (same_last
          ∙ e)) after)) (not_less ids i id l rise there e) in
          e ∙ ap Some same

  again : last_of (take i ids) ≡ Some id → (q : List ℕ) → has (take (suc i) ids) q ≡ has (take i ids) q
  again last q = ap (λ (xs : List (List ℕ)). has xs q) (take_next ids i id there) ∙ has_one_more (take i ids) id q ∙ by_test (bytes_eq id q) refl
    where
      by_test : (b : Bool) → bytes_eq id q ≡ b → (has (take i ids) q || b) ≡ has (take i ids) q
      by_test true e =
          let is : has (take i ids) q ≡ true = ap (has (take i ids)) (sym ((bytes_eq-Decides id q).0 e)) ∙ has_last (take i ids) id last in
          ap (λ (b : Bool). b || true) is ∙ sym is
      by_test false e = or_false (has (take i ids) q)

  pub skipped : Rise ids → (ComesAfter (last_of (map pair_id objects)) id → ⊥) → IsSoFar content (take (suc i) ids) objects len
  skipped rise late =
      let last = repeats rise late in
      record {
        es = so.es;
        own = so.own;
        last = so.last ∙ last ∙ sym (last_taken ids i id there);
        long = so.long;
        short = so.short;
        those = λ r told q. so.those r told q ∙ ap (λ (b : Bool). cond b (get r.objects q) None) (sym (again last q));
      }

  pub skipped_more : Rise ids → (ComesAfter (last_of (map pair_id objects)) id → ⊥) → IsSoFar content (take (i + 1) ids) objects len
  skipped_more rise late = let next : suc i ≡ i + 1 = omega arith in subst (λ (n : ℕ). IsSoFar content (take n ids) objects len) next (skipped rise late)

  module _ (pair : Pair) (is_id : IsId id) (own : IsObject id pair) (comes : ComesAfter (last_of (map pair_id objects)) id)
      (kept : (r : Repository) → content ≡ Some r → get r.objects id ≡ Some pair) where
    after : ComesAfter (last_of (keys so.es)) id
    after = subst (λ (ks : List (List ℕ)). ComesAfter (last_of ks) id) (their_keys so.es objects so.own) comes

    rises : is_sorted by_bytes (so.es ++ (id, pair) ∷ []) ≡ true
    rises = sorted_push so.es id pair so.own.are.ids_rise after

    those_more : (r : Repository) → content ≡ Some r → (q : List ℕ)
        → entry.find by_bytes q (so.es ++ (id, pair) ∷ []) ≡ cond (has (take (suc i) ids) q) (get r.objects q) None
    those_more r told q =
        find-append by_bytes nat_list_cmp_total so.es id pair q (absent so.es (id, pair) rises)
        ∙ ap (cond (eq_by_cmp by_bytes q id) (Some pair)) (so.those r told q)
        ∙ ap (λ (b : Bool). cond b (Some pair) (cond (has (take i ids) q) (get r.objects q) None)) (same_key q id)
        ∙ by_test (bytes_eq id q) refl
        ∙ ap (λ (b : Bool). cond b (get r.objects q) None) (sym (ap (λ (xs : List (List ℕ)). has xs q) (take_next ids i id there)
        ∙ has_one_more (take i ids) id q))
      where
        by_test : (b : Bool) → bytes_eq id q ≡ b
            → cond b (Some pair) (cond (has (take i ids) q) (get r.objects q) None) ≡ cond (has (take i ids) q || b) (get r.objects q) None
        by_test true e =
            let here : get r.objects q ≡ Some pair = ap (get r.objects) (sym ((bytes_eq-Decides id q).0 e)) ∙ kept r told in
            sym here ∙ kept_so (has (take i ids) q) (get r.objects q) None
        by_test false e = kept_as (has (take i ids) q) (get r.objects q) None

    own_more : AreOwn (so.es ++ (id, pair) ∷ []) (objects ++ pair ∷ [])
    own_more = record {
      are = record {
        own = all_push IsOwn so.es (id, pair) so.own.are.own (record { id = is_id; is = own });
        ids_rise = rises;
        are_refs = tt;
        names_rise = refl;
      };
      objects_are = ap (λ (o : List Pair). o ++ pair ∷ []) so.own.objects_are ∙ sym (map_more (λ (e : List ℕ × Pair). e.1) so.es (id, pair));
    }

    long_more : length (flat_map own_record (objects ++ pair ∷ [])) ≡ length (flat_map own_record objects) + length (own_record pair)
    long_more = ap length (flat_push own_record objects pair) ∙ length-append (flat_map own_record objects) (own_record pair)

    pub added : (len' : ℕ) → len' ≡ min (len + length (own_record pair)) (2 ^ 64 - 1) → len' ≤ largest_push
        → IsSoFar content (take (suc i) ids) (objects ++ pair ∷ []) len'
    added len' is short = record {
      es = so.es ++ (id, pair) ∷ [];
      own = own_more;
      last = ap last_of (map_more (λ (e : List ℕ × Pair). e.0) so.es (id, pair)) ∙ last_more (keys so.es) id ∙ sym (last_taken ids i id there);
      long = sum_is len len' (length (flat_map own_record objects)) (length (own_record pair)) (length (flat_map own_record (objects ++ pair ∷ []))) so.long
          (capped (len + length (own_record pair)) len' (2 ^ 64 - 1) is (below_end len' short)) long_more;
      short = short;
      those = those_more;
    }

    pub added_more : (len' : ℕ) → len' ≡ min (len + length (own_record pair)) (2 ^ 64 - 1) → len' ≤ largest_push → (objects' : List Pair)
        → objects' ≡ objects ++ pair ∷ []
        → IsSoFar content (take (i + 1) ids) objects' len'
    added_more len' is short objects' more =
        let next : suc i ≡ i + 1 = omega arith in
        subst (λ (o : List Pair). IsSoFar content (take (i + 1) ids) o len') (sym more)
        (subst (λ (n : ℕ). IsSoFar content (take n ids) (objects ++ pair ∷ []) len') next (added len' is short))

    part : (r : Repository) → content ≡ Some r → Part (so.es ++ (id, pair) ∷ []) (entries (retain_keys r.objects (has ids)))
    part r told q x found = by_test (has (take (suc i) ids) q) refl (sym (those_more r told q) ∙ found)
      where
        by_test : (b : Bool) → has (take (suc i) ids) q ≡ b → cond b (get r.objects q) None ≡ Some x
            → entry.find by_bytes q (entries (retain_keys r.objects (has ids))) ≡ Some x
        by_test false e f = absurd (cc f)
        by_test true e f =
            let all : has ids q ≡ true = has_taken ids (suc i) q e in
            sym (get-entries (retain_keys r.objects (has ids)) q)
            ∙ get-retain_keys r.objects (has ids) q (λ y t. ap (has ids) (sym (exact_bytes q y t)))
            ∙ ap (λ (b : Bool). cond b (get r.objects q) None) all ∙ f

    pub too_large : (len' : ℕ) → len' ≡ min (len + length (own_record pair)) (2 ^ 64 - 1) → largest_push < len' → (r : Repository) → content ≡ Some r
        → largest_push < length (flat_map own_record (kept_among r ids)) + frame_len
    too_large len' is more r told =
        let whole = entries (retain_keys r.objects (has ids)) in
        let le : total (so.es ++ (id, pair) ∷ []) ≤ total whole =
        total_le (so.es ++ (id, pair) ∷ []) whole rises (entries_rise (retain_keys r.objects (has ids))) (part r told) in
        let same : length (flat_map own_record (objects ++ pair ∷ [])) ≡ total (so.es ++ (id, pair) ∷ []) =
        ap (λ (o : List Pair). length (flat_map own_record o)) own_more.objects_are in
        past len len' (length (flat_map own_record objects)) (length (own_record pair)) (total (so.es ++ (id, pair) ∷ [])) (total whole) so.long
        (not_more (len + length (own_record pair)) len' (2 ^ 64 - 1) is) (sym same ∙ long_more) more le

-- what was read is kept
pub kept_there : (content : Option Repository) (id : List ℕ) (found : Option Pair) (pair : Pair) → found ≡ Some pair
    → ((r : Repository) → content ≡ Some r → IfSome found (HasObject r id))
    → (r : Repository) → content ≡ Some r → get r.objects id ≡ Some pair
kept_there content id found pair is has r told = (subst (λ (o : Option Pair). IfSome o (HasObject r id)) is (has r told)).kept

-- ---- all of them

found_in : (q : List ℕ) (es : List (List ℕ × Pair)) → AllByRecursion IsOwn es → object_in (map (λ (e : List ℕ × Pair). e.1) es) q ≡ entry.find by_bytes q es
found_in q [] own = refl
found_in q (e ∷ es) own =
    let key : has_own_id q e.1 ≡ eq_by_cmp by_bytes q e.0 = ap (λ (k : List ℕ). bytes_eq k q) own.0.is.own ∙ sym (same_key q e.0) in
    ap (λ (b : Bool). cond b (Some e.1) (object_in (map (λ (x : List ℕ × Pair). x.1) es) q)) key
    ∙ ap (λ (o : Option Pair). cond (eq_by_cmp by_bytes q e.0) (Some e.1) o) (found_in q es own.1)

own_found : (q : List ℕ) (es : List (List ℕ × Pair)) (x : Pair) → AllByRecursion IsOwn es → entry.find by_bytes q es ≡ Some x → IsObject q x
own_found q [] x own found = absurd (cc found)
own_found q (e ∷ es) x own found = by_test (eq_by_cmp by_bytes q e.0) refl (own_found q es x own.1) found
  where
    by_test : (b : Bool) → eq_by_cmp by_bytes q e.0 ≡ b → (entry.find by_bytes q es ≡ Some x → IsObject q x)
        → cond b (Some e.1) (entry.find by_bytes q es) ≡ Some x → IsObject q x
    by_test true e' more f =
        let key : e.0 ≡ q = (bytes_eq-Decides e.0 q).0 (sym (same_key q e.0) ∙ e') in
        subst (λ (p : Pair). IsObject q p) (same_some e.1 x f) (subst (λ (k : List ℕ). IsObject k e.1) key own.0.is)
    by_test false e' more f = more f

is_so : (b : Bool) → b ≡ true → T b
is_so true e = tt
is_so false e = absurd (cc e)

module _ (content : Option Repository) (ids taken : List (List ℕ)) (objects : List Pair) (len : ℕ) (all : taken ≡ ids)
    (so : IsSoFar content taken objects len) where
  told_all : (r : Repository) → content ≡ Some r → (q : List ℕ) → entry.find by_bytes q so.es ≡ cond (has ids q) (get r.objects q) None
  told_all r told q = so.those r told q ∙ ap (λ (xs : List (List ℕ)). cond (has xs q) (get r.objects q) None) all

  pub those_all : (r : Repository) → content ≡ Some r → objects ≡ kept_among r ids
  those_all r told =
      let map_of = retain_keys r.objects (has ids) in
      let same : so.es ≡ entries map_of =
      same_entries by_bytes nat_list_cmp_total exact_bytes so.es (entries map_of) (is_so _ so.own.are.ids_rise) (entries_sorted map_of)
      (λ q. told_all r told q ∙ sym (get-retain_keys r.objects (has ids) q (λ y t. ap (has ids) (sym (exact_bytes q y t)))) ∙ get-entries map_of q) in
      so.own.objects_are ∙ ap (map (λ (e : List ℕ × Pair). e.1)) same

  pub found_all : (r : Repository) → content ≡ Some r → AreFound r ids objects
  found_all r told = record {
    each = λ q among. ap (λ (o : List Pair). object_in o q) so.own.objects_are ∙ found_in q so.es so.own.are.own
        ∙ by_kept q (told_all r told q ∙ ap (λ (b : Bool). cond b (get r.objects q) None) among);
  }
    where
      by_found : (q : List ℕ) (o : Option Pair) → entry.find by_bytes q so.es ≡ o → o ≡ get r.objects q → o ≡ option_and_then (own_pair q) o
      by_found q None e same = refl
      by_found q (Some x) e same = sym (own_there q x (own_found q so.es x so.own.are.own e))

      by_kept : (q : List ℕ) → entry.find by_bytes q so.es ≡ get r.objects q → entry.find by_bytes q so.es ≡ object_at r q
      by_kept q e = by_found q (entry.find by_bytes q so.es) refl e ∙ ap (option_and_then (own_pair q)) e
