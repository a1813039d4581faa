-- What the changes by which a store takes an offer make of its maps.
use Rattle.std.proofs.Common.{◌≡◌, ℕ, Bool, true, false, cond, not, List, [], ◌∷◌, ◌++◌, Option, Some, None, refl, sym, ap, ◌∙◌}
use Rattle.std.specs.Prelude.{if◌then◌else◌}
use Rattle.std.specs.Option.{option_or}
use Rattle.std.specs.FinMap.{empty, entries, find, get, get-empty, get-entries, get-insert, get-remove}
use Rattle.std.specs.List.{filter, flat_map}
use Rattle.std.specs.Ordering.{eq_by_cmp}
use Rattle.std.specs.Str.{bytes_eq}
use Rattle.std.proofs.lemmas.Bool.{false≢true, true≢false}
use Rattle.std.proofs.lemmas.Cmp.{nat_list_cmp_total}
use Rattle.std.proofs.lemmas.Slice.Eq.{bytes_eq-Decides}
use Rattle.octets.specs.BytesMap.{BytesMap, by_bytes}
use Rattle.git_object.specs.Objects.{Pair, pair_id}
use Rattle.git_object.specs.Repository.{HasObject, Repository, empty_repository}
use Rattle.keeper_api.specs.Changes.{changed, with_ref, with_refs}
use Rattle.keeper_api.specs.declared.changes.Change.{Change}
use Rattle.keeper_api.specs.declared.changes.RefChange.{RefChange}
use Rattle.mirror.specs.Changes.{fork_change, going, going_one, is_foreign, take_change}
use Rattle.mirror.specs.Mirrors.{Forks, Takes}
use Rattle.mirror.specs.Names.{fork_name, is_own}
use Rattle.mirror.proofs.Keys.{same_test, told_apart}
use Rattle.mirror.proofs.NewObjects.{all_taken}

abbrev Refs : Type 0
Refs = BytesMap (List ℕ)

abbrev Ref : Type 0
Ref = List ℕ × List ℕ

-- ---- two names

-- names of which one is the mirror's own and one is not do not tie
apart : (q name : List ℕ) → (is_own q ≡ is_own name → ⊥) → eq_by_cmp by_bytes q name ≡ false
apart = told_apart is_own

-- ---- references

get_with_ref : (name : List ℕ) (to : Option (List ℕ)) (m : Refs) (q : List ℕ) → get (with_ref name to m) q ≡ cond (eq_by_cmp by_bytes q name) to (get m q)
get_with_ref name (Some id) m q = get-insert nat_list_cmp_total m name id q
get_with_ref name None m q = get-remove nat_list_cmp_total m name q

-- a change of another name leaves what stands at this one
passes : (name : List ℕ) (to : Option (List ℕ)) (m : Refs) (q : List ℕ) → (is_own q ≡ is_own name → ⊥) → get (with_ref name to m) q ≡ get m q
passes name to m q differ = get_with_ref name to m q ∙ ap (λ (b : Bool). cond b to (get m q)) (apart q name differ)

appended : (a b : List RefChange) (m : Refs) → with_refs (a ++ b) m ≡ with_refs b (with_refs a m)
appended [] b m = refl
appended (c ∷ a) b m = appended a b (with_ref c.name c.to m)

-- what changes make of a name depends on what stood there alone
alike : (cs : List RefChange) (m n : Refs) (q : List ℕ) → get m q ≡ get n q → get (with_refs cs m) q ≡ get (with_refs cs n) q
alike [] m n q e = e
alike (c ∷ cs) m n q e =
    alike cs (with_ref c.name c.to m) (with_ref c.name c.to n) q
    (get_with_ref c.name c.to m q ∙ ap (cond (eq_by_cmp by_bytes q c.name) c.to) e ∙ sym (get_with_ref c.name c.to n q))

own_is_foreign : (q name : List ℕ) → is_own q ≡ true → is_own name ≡ false → is_own q ≡ is_own name → ⊥
own_is_foreign q name own foreign same = true≢false (sym own ∙ same ∙ foreign)

foreign_is_own : (q name : List ℕ) → is_own q ≡ false → is_own name ≡ true → is_own q ≡ is_own name → ⊥
foreign_is_own q name foreign own same = false≢true (sym foreign ∙ same ∙ own)

-- the changes of names that are not the mirror's own: the mirror's stay, and the others are changed as by all
pub own_stays : (cs : List RefChange) (m : Refs) (q : List ℕ) → is_own q ≡ true → get (with_refs (filter is_foreign cs) m) q ≡ get m q
own_stays [] m q own = refl
own_stays (c ∷ cs) m q own = by_test (is_own c.name) refl (λ n. own_stays cs n q own) where
  by_test : (b : Bool) → is_own c.name ≡ b → ((n : Refs) → get (with_refs (filter is_foreign cs) n) q ≡ get n q)
      → get (with_refs (cond (not b) (c ∷ filter is_foreign cs) (filter is_foreign cs)) m) q ≡ get m q
  by_test true is later = later m
  by_test false is later = later (with_ref c.name c.to m) ∙ passes c.name c.to m q (own_is_foreign q c.name own is)

pub foreign_changes : (cs : List RefChange) (m : Refs) (q : List ℕ) → is_own q ≡ false → get (with_refs (filter is_foreign cs) m) q ≡ get (with_refs cs m) q
foreign_changes [] m q foreign = refl
foreign_changes (c ∷ cs) m q foreign = by_test (is_own c.name) refl (λ n. foreign_changes cs n q foreign) where
  by_test : (b : Bool) → is_own c.name ≡ b → ((n : Refs) → get (with_refs (filter is_foreign cs) n) q ≡ get (with_refs cs n) q)
      → get (with_refs (cond (not b) (c ∷ filter is_foreign cs) (filter is_foreign cs)) m) q ≡ get (with_refs cs (with_ref c.name c.to m)) q
  by_test true is later = later m ∙ alike cs m (with_ref c.name c.to m) q (sym (passes c.name c.to m q (foreign_is_own q c.name foreign is)))
  by_test false is later = later (with_ref c.name c.to m)

abbrev going_of : List Ref → List RefChange
going_of es = flat_map (λ (e : Ref). going_one e.0) es

-- that all go but the mirror's own: these stay, and of the others none is left
going_own : (es : List Ref) (m : Refs) (q : List ℕ) → is_own q ≡ true → get (with_refs (going_of es) m) q ≡ get m q
going_own [] m q own = refl
going_own (e ∷ es) m q own = by_test (is_own e.0) refl (λ n. going_own es n q own) where
  by_test : (b : Bool) → is_own e.0 ≡ b → ((n : Refs) → get (with_refs (going_of es) n) q ≡ get n q)
      → get (with_refs ((if b then [] else (record { name = e.0; to = None }) ∷ []) ++ going_of es) m) q ≡ get m q
  by_test true is later = later m
  by_test false is later = later (with_ref e.0 None m) ∙ passes e.0 None m q (own_is_foreign q e.0 own is)

-- what is found behind an entry of another key is found
skipped : (b : Bool) (x o : Option (List ℕ)) → b ≡ false → o ≡ None → cond b x o ≡ None
skipped true x o is none = absurd (true≢false is)
skipped false x o is none = none

going_foreign : (es : List Ref) (m : Refs) (q : List ℕ) → is_own q ≡ false → (find by_bytes q es ≡ None → get m q ≡ None) → get (with_refs (going_of es) m) q ≡ None
going_foreign [] m q foreign left = left refl
going_foreign (e ∷ es) m q foreign left = by_test (is_own e.0) refl (λ n. going_foreign es n q foreign) where
  removed : (b : Bool) → eq_by_cmp by_bytes q e.0 ≡ b → find by_bytes q es ≡ None → cond b None (get m q) ≡ None
  removed true is none = refl
  removed false is none = left (skipped (eq_by_cmp by_bytes q e.0) (Some e.1) (find by_bytes q es) is none)

  by_test : (b : Bool) → is_own e.0 ≡ b → ((n : Refs) → (find by_bytes q es ≡ None → get n q ≡ None) → get (with_refs (going_of es) n) q ≡ None)
      → get (with_refs ((if b then [] else (record { name = e.0; to = None }) ∷ []) ++ going_of es) m) q ≡ None
  by_test true is later =
      later m (λ none. left (skipped (eq_by_cmp by_bytes q e.0) (Some e.1) (find by_bytes q es) (apart q e.0 (foreign_is_own q e.0 foreign is)) none))
  by_test false is later =
      later (with_ref e.0 None m) (λ none. get_with_ref e.0 None m q ∙ removed (eq_by_cmp by_bytes q e.0) refl none)

module _ (offered : Change) (kept : Repository) where
  left_refs : Refs
  left_refs = with_refs (going kept.refs) kept.refs

  taken_refs : (name : List ℕ) (b : Bool) → is_own name ≡ b
      → get (with_refs (going kept.refs ++ filter is_foreign offered.refs) kept.refs) name ≡ (if b then get kept.refs name else get (with_refs offered.refs empty) name)
  unfolding left_refs
  taken_refs name true own =
      ap (λ (m : Refs). get m name) (appended (going kept.refs) (filter is_foreign offered.refs) kept.refs)
      ∙ own_stays offered.refs left_refs name own
      ∙ going_own (entries kept.refs) kept.refs name own
  taken_refs name false foreign =
      ap (λ (m : Refs). get m name) (appended (going kept.refs) (filter is_foreign offered.refs) kept.refs)
      ∙ foreign_changes offered.refs left_refs name foreign
      ∙ alike offered.refs left_refs empty name
      (going_foreign (entries kept.refs) kept.refs name foreign (λ none. get-entries kept.refs name ∙ none) ∙ sym (get-empty by_bytes name))

-- ---- both changes

-- the change by which a store takes what another makes of an empty one
pub takes : (offered : Change) (kept : Repository)
    → Takes (changed offered empty_repository) kept (changed (take_change offered (changed offered empty_repository).objects kept) kept)
takes offered kept = record {
  refs = λ name. taken_refs offered kept name (is_own name) refl;
  objects = λ id. all_taken kept.objects offered.objects id;
}

-- the change by which it keeps an entry of another past
pub forks : (offered kept : Repository) (number : ℕ) (id : List ℕ) (entry : Pair) → HasObject offered id entry
    → Forks offered number id kept (changed (fork_change number id entry) kept)
forks offered kept number id entry has = record {
  refs = λ name.
      get-insert nat_list_cmp_total kept.refs (fork_name number id) id name
      ∙ ap (λ (b : Bool). cond b (Some id) (get kept.refs name)) (same_test name (fork_name number id));
  objects = λ other.
      get-insert nat_list_cmp_total kept.objects (pair_id entry) entry other
      ∙ ap (λ (b : Bool). cond b (Some entry) (get kept.objects other)) (ap (eq_by_cmp by_bytes other) has.is.own ∙ same_test other id)
      ∙ by_test other (bytes_eq other id) refl;
}
  where
    by_test : (other : List ℕ) (b : Bool) → bytes_eq other id ≡ b
        → cond b (Some entry) (get kept.objects other) ≡ option_or (if b then get offered.objects other else None) (get kept.objects other)
    by_test other true is =
        ap (λ (o : Option Pair). option_or o (get kept.objects other)) (sym (ap (get offered.objects) ((bytes_eq-Decides other id).0 is) ∙ has.kept))
    by_test other false is = refl
