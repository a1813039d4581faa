-- The entry after a key, in the list of a map's entries.
use Rattle.std.proofs.Common.{◌≡◌, ℕ, suc, Bool, true, false, cond, ◌&&◌, T, List, [], ◌∷◌, ◌++◌, Option, Some, None, refl, sym, ap, subst, ◌∙◌}
use Rattle.std.specs.Prelude.{map, option_map}
use Rattle.std.proofs.lemmas.Cmp.{nat_list_cmp_total}
use Rattle.std.proofs.lemmas.Option.{same_Some}
use Rattle.std.specs.Cmp.{tied_itself}
use Rattle.std.specs.FinMap.{entries, entries_sorted, get, get-entries, is_sorted}
use Rattle.std.specs.FinMap.Entries.{below_all}
use Rattle.std.specs.FinMap.Entries as entry
use Rattle.std.specs.List.{find, slice_get}
use Rattle.std.specs.Ordering.{is_eq, is_lt, ordering_reverse}
use Rattle.std.specs.declared.cmp.Ordering.{Ordering}
use Rattle.std.specs.declared.cmp.Ordering.TheVariants.{Less, Equal, Greater}
use Rattle.octets.specs.BytesMap.{BytesMap, by_bytes, entry_after}
use Rattle.octets.specs.Content.{Stays}
use Rattle.git_object.specs.Ids.{IsId}
use Rattle.git_object.specs.Objects.{Pair}
use Rattle.git_object.specs.Repository.{HasObject, IsObject, Repository}
use Rattle.keeper_api.proofs.Walking.{entry_after_at}
use Rattle.clone_stream.specs.Exports.{IsBadNext, IsDamaged, IsNextEntry, objects_in}
use Rattle.clone_stream.specs.Reading.{last_of}
use Rattle.clone_stream.specs.Streams.{IsOwn}
use Prim.Native.Nat as Nat

first : (a b : Bool) → T (a && b) → T a
first true b p = tt
first false b p = p

second : (a b : Bool) → T (a && b) → T b
second true b p = p
second false b p = absurd p

-- what is below another does not tie with it
apart : (r s : Ordering) → s ≡ ordering_reverse r → T (is_lt r) → is_eq s ≡ false
apart Less s e p = ap is_eq e
apart Equal s e p = absurd p
apart Greater s e p = absurd p

module _ {X : Type 0} where
  below_at : (k : List ℕ) (es : List (List ℕ × X)) (i : ℕ) (e : List ℕ × X) → T (below_all by_bytes k es) → slice_get es i ≡ Some e → T (is_lt (by_bytes k e.0))
  below_at k [] i e h at = cc
  below_at k (x ∷ es) Nat.zero e h at = subst (λ (y : List ℕ × X). T (is_lt (by_bytes k y.0))) (same_Some x e at) (first _ _ h)
  below_at k (x ∷ es) (suc i) e h at = below_at k es i e (second _ _ h) at

  -- in a rising list the value at the key of an entry is the entry's
  found_at : (es : List (List ℕ × X)) (i : ℕ) (e : List ℕ × X) → T (is_sorted by_bytes es) → slice_get es i ≡ Some e → entry.find by_bytes e.0 es ≡ Some e.1
  found_at [] i e h at = cc
  found_at (x ∷ es) Nat.zero e h at =
      subst (λ (y : List ℕ × X). entry.find by_bytes y.0 (x ∷ es) ≡ Some y.1) (same_Some x e at)
      (ap (λ r. cond (is_eq r) (Some x.1) (entry.find by_bytes x.0 es)) (tied_itself nat_list_cmp_total x.0))
  found_at (x ∷ es) (suc i) e h at =
      ap (λ b. cond b (Some x.1) (entry.find by_bytes e.0 es)) (apart (by_bytes x.0 e.0) (by_bytes e.0 x.0) (nat_list_cmp_total.antisymm e.0 x.0) (below_at x.0 es i e (first _ _ h) at))
      ∙ found_at es i e (second _ _ h) at

  -- what is found stands somewhere
  place_of : (p : List ℕ × X → Bool) (es : List (List ℕ × X)) (e : List ℕ × X) → find p es ≡ Some e → (i : ℕ) × (slice_get es i ≡ Some e)
  place_of p [] e h = cc
  place_of p (x ∷ es) e h =
      elim (p x) as (λ b. cond b (Some x) (find p es) ≡ Some e → (i : ℕ) × (slice_get (x ∷ es) i ≡ Some e)) [
        | true ↦ λ at. (0, at)
        | false ↦ λ at. let more = place_of p es e at in (suc more.0, more.1)
      ] h

  -- the entry after a key is the map's
  pub get_after : (m : BytesMap X) (last : Option (List ℕ)) (e : List ℕ × X) → entry_after m last ≡ Some e → get m e.0 ≡ Some e.1
  get_after m None e h = get-entries m e.0 ∙ found_at (entries m) 0 e (entries_sorted m) h
  get_after m (Some key) e h =
      let place = place_of (λ (d : List ℕ × X). is_lt (by_bytes key d.0)) (entries m) e h in
      get-entries m e.0 ∙ found_at (entries m) place.0 e (entries_sorted m) place.1

  -- an entry whose key is told
  key_found : (o : Option (List ℕ × X)) (k : List ℕ) → Some k ≡ option_map (λ (e : List ℕ × X). e.0) o → (v : X) × (o ≡ Some (k, v))
  key_found None k h = cc
  key_found (Some e) k h = (e.1, ap (λ (q : List ℕ). Some (q, e.1)) (sym (same_Some k e.0 h)))

  -- the last of the entries in front of others, where it stands, and what stands after it
  pub record IsLastAt (first rest : List (List ℕ × X)) : Type 0 where
    pub at : ℕ
    pub entry : List ℕ × X
    pub here : slice_get (first ++ rest) at ≡ Some entry
    pub last : last_of (map (λ (e : List ℕ × X). e.0) first) ≡ Some entry.0
    pub after : slice_get (first ++ rest) (suc at) ≡ slice_get rest 0

  last_at : (f : List ℕ × X) (first rest : List (List ℕ × X)) → IsLastAt (f ∷ first) rest
  last_at f [] rest = record { at = 0; entry = f; here = refl; last = refl; after = refl }
  last_at f (g ∷ first) rest =
      let more = last_at g first rest in
      record { at = suc more.at; entry = more.entry; here = more.here; last = more.last; after = more.after }

  -- the entry after the last key of a front of the entries is the next one
  pub next_entry : (m : BytesMap X) (last : Option (List ℕ)) (first rest : List (List ℕ × X)) → entries m ≡ first ++ rest → last ≡ last_of (map (λ (e : List ℕ × X). e.0) first) → entry_after m last ≡ slice_get rest 0
  next_entry m last [] rest whole is = ap (entry_after m) is ∙ ap (λ (es : List (List ℕ × X)). slice_get es 0) whole
  next_entry m last (f ∷ first) rest whole is =
      let place = last_at f first rest in
      ap (entry_after m) (is ∙ place.last)
      ∙ entry_after_at m place.at place.entry (ap (λ (es : List (List ℕ × X)). slice_get es place.at) whole ∙ place.here)
      ∙ ap (λ (es : List (List ℕ × X)). slice_get es (suc place.at)) whole
      ∙ place.after

module _ (before after : Option Repository) (last : Option (List ℕ)) (id : List ℕ) (stays : Stays before after)
    (is_next : (r : Repository) → before ≡ Some r → Some id ≡ option_map (λ (e : List ℕ × Pair). e.0) (entry_after r.objects last)) where
  -- an object that was loaded is the next entry
  pub object_next : (pair : Pair) → IsId id → IsObject id pair → ((r : Repository) → after ≡ Some r → HasObject r id pair) → IsNextEntry IsOwn objects_in after last (id, pair)
  object_next pair is_id is has = record {
    is = record { id = is_id; is = is };
    tells = λ r told.
        let entry = key_found (entry_after r.objects last) id (is_next r (stays r told)) in
        let same : pair ≡ entry.0 = same_Some pair entry.0 (sym (has r told).kept ∙ get_after r.objects last (id, entry.0) entry.1) in
        entry.1 ∙ ap (λ (p : Pair). Some (id, p)) (sym same);
  }

  -- where none was loaded, the next entry is damaged
  pub object_damaged : ((r : Repository) → after ≡ Some r → (pair : Pair) → HasObject r id pair → ⊥) → IsBadNext IsDamaged objects_in after last id
  object_damaged none = λ r told.
      let entry = key_found (entry_after r.objects last) id (is_next r (stays r told)) in
      record {
        value = entry.0;
        bad = λ is. none r told entry.0 (record { kept = get_after r.objects last (id, entry.0) entry.1; is = is });
        after = entry.1;
      }
