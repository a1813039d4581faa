-- Where a listing is refused, no trees have its paths.
use Rattle.std.proofs.Common.{◌≡◌, ◌≢◌, ℕ, ◌-◌, ◌≤◌, Bool, true, false, List, [], ◌∷◌, ◌++◌, refl, sym, ap, subst, ◌∙◌, append_assoc}
use Rattle.std.specs.List.{AllByRecursion}
use Rattle.text_reader.specs.Line.{Begins, has_byte}
use Rattle.git_object.specs.Trees.{AreWellFormed, IsEntryName, Precedes, sort_key}
use Rattle.git_object.specs.declared.modes.Mode.TheVariants.{Dir}
use Rattle.git_object.specs.declared.trees.TreeEntry.{TreeEntry}
use Rattle.git_object.proofs.TreeLemmas.{formed_push}
use Rattle.tree_paths.specs.Readings.{Trees}
use Rattle.tree_paths.specs.States.{path_values}
use Rattle.tree_paths.specs.Walks.{Step, below, entry_steps, is_dir, listed, place_of, steps}
use Rattle.tree_paths.proofs.Judging.{piece_of, steps_at, steps_zero}
use Rattle.tree_paths.proofs.Order.{dir_end, formed_tail, steps_under}
use Rattle.object_making.specs.Listings.{StartsAt, StopsAt, entry_of, values}
use Rattle.object_making.specs.Matching.{AreFormed, IsNoTree, IsPlace, Matches}
use Rattle.object_making.specs.declared.listed.Listed.{Listed}
use Rattle.octets.specs.BytesMap.{by_bytes}
use Rattle.object_making.proofs.Putting.{all_both, path_values_append, values_append}
use Rattle.object_making.proofs.Runs.{Kinds, Reaches, Value, inside, kinds, one_run, outside, reached}

-- a listing of which nothing is made yet
pub match_start : (trees : Trees) (left : ℕ) (front id : List ℕ) (made : List TreeEntry) (listing : List Listed) → 1 ≤ left → AreFormed trees → made ≡ [] → path_values (steps trees left front id) ≡ values listing
    → Matches (steps trees (left - 1)) id front made listing
match_start trees left front id made listing some formed none is = record {
  entries = listed (trees id);
  formed = formed id;
  ahead = subst (AllByRecursion (λ (m : TreeEntry). AllByRecursion (Precedes m) (listed (trees id)))) (sym none) tt;
  left = sym (ap path_values (steps_at trees left front id some)) ∙ is;
}

-- the entry that leads to the first path that is left
pub record Next (into : List ℕ → List ℕ → List Step) (holder front : List ℕ) (made : List TreeEntry) (first : Listed) (more : List Listed) : Type 0 where
  pub entry : TreeEntry
  pub entries : List TreeEntry
  pub formed : AreWellFormed (entry ∷ entries)
  pub ahead : AllByRecursion (λ (m : TreeEntry). AllByRecursion (Precedes m) (entry ∷ entries)) made
  pub after : List Value
  pub here : path_values (piece_of into holder front entry) ≡ (first.path, (first.mode, first.id)) ∷ after
  pub left : after ++ path_values (below into holder front entries) ≡ values more

all_made : (P Q : TreeEntry → Type 0) → ((m : TreeEntry) → P m → Q m) → (made : List TreeEntry) → AllByRecursion P made → AllByRecursion Q made
all_made P Q f [] all = tt
all_made P Q f (m ∷ made) all = (f m all.0, all_made P Q f made all.1)

next_of : (into : List ℕ → List ℕ → List Step) (holder front : List ℕ) (made es : List TreeEntry) (first : Listed) (more : List Listed) → AreWellFormed es
    → AllByRecursion (λ (m : TreeEntry). AllByRecursion (Precedes m) es) made → path_values (below into holder front es) ≡ values (first ∷ more) → Next into holder front made first more
next_of into holder front made [] first more formed ahead is = absurd (cc)
next_of into holder front made (e ∷ es) first more formed ahead is =
    by_piece (next_of into holder front made es first more (formed_tail e es formed) (all_made (λ m. AllByRecursion (Precedes m) (e ∷ es)) (λ m. AllByRecursion (Precedes m) es) (λ m all. all.1) made ahead))
    (path_values (piece_of into holder front e)) refl
  where
    parts : path_values (piece_of into holder front e) ++ path_values (below into holder front es) ≡ values (first ∷ more)
    parts = sym (path_values_append (piece_of into holder front e) (below into holder front es)) ∙ is

    by_piece : (path_values (below into holder front es) ≡ values (first ∷ more) → Next into holder front made first more) → (vs : List Value) → path_values (piece_of into holder front e) ≡ vs → Next into holder front made first more
    by_piece later [] none = later (ap (λ (vs : List Value). vs ++ path_values (below into holder front es)) (sym none) ∙ parts)
    by_piece later (v ∷ vs) some =
        let whole : v ∷ (vs ++ path_values (below into holder front es)) ≡ (first.path, (first.mode, first.id)) ∷ values more =
        ap (λ (us : List Value). us ++ path_values (below into holder front es)) (sym some) ∙ parts in
        let same : v ≡ (first.path, (first.mode, first.id)) = cc in
        let rest : vs ++ path_values (below into holder front es) ≡ values more = cc in
        record { entry = e; entries = es; formed = formed; ahead = ahead; after = vs; here = some ∙ ap (λ (u : Value). u ∷ vs) same; left = rest }

pub next_entry : (into : List ℕ → List ℕ → List Step) (holder front : List ℕ) (made : List TreeEntry) (rest : List Listed) (first : Listed) (more : List Listed) → rest ≡ first ∷ more
    → Matches into holder front made rest → Next into holder front made first more
next_entry into holder front made rest first more is match = next_of into holder front made match.entries first more match.formed match.ahead (match.left ∙ ap values is)

one_path : (v w : Value) (after : List Value) → v ∷ [] ≡ w ∷ after → (v ≡ w) × (after ≡ [])
one_path v w after e =
    let same : v ≡ w = cc in
    let none : after ≡ [] = cc in
    (same, none)

-- a path below a directory's place, as one with a slash after the front
pub place_path : (front name place path rest : List ℕ) → path ≡ place ++ rest → IsPlace front name place → path ≡ front ++ (name ++ 47 ∷ rest)
place_path front name place path rest at is =
    at ∙ ap (λ (p : List ℕ). p ++ rest) is.at ∙ append_assoc front (name ++ 47 ∷ []) rest ∙ ap (λ (end : List ℕ). front ++ end) (append_assoc name (47 ∷ []) rest)

module _ (trees : Trees) (n : ℕ) (holder front : List ℕ) (made : List TreeEntry) (first : Listed) (more : List Listed) (next : Next (steps trees n) holder front made first more) where
  reach : Reaches front next.entry first.path
  reach = (subst (AllByRecursion (λ (v : Value). Reaches front next.entry v.0)) next.here (reached (steps trees n) (steps_under trees n) holder front next.entry)).0

  -- its path begins with the front
  pub next_begins : ((tail : List ℕ) → first.path ≡ front ++ tail → ⊥) → ⊥
  next_begins other = other (sort_key next.entry ++ reach.rest) reach.at

  pub next_kinds : (tail : List ℕ) → first.path ≡ front ++ tail → Kinds next.entry tail
  next_kinds tail at = kinds front first.path tail next.entry next.formed.named.0 reach at

  -- an entry of the same name, of a directory or of none, may stand after what is made
  before_next : (e : TreeEntry) → e.name ≡ next.entry.name → sort_key e ≡ sort_key next.entry → AllByRecursion (λ (m : TreeEntry). Precedes m e) made
  before_next e name key =
      all_made (λ m. AllByRecursion (Precedes m) (next.entry ∷ next.entries)) (λ m. Precedes m e)
      (λ m all. record { rising = ap (λ (k : List ℕ). by_bytes (sort_key m) k) key ∙ all.0.rising; other = λ same. all.0.other (same ∙ name) }) made next.ahead

  pub next_formed : (e : TreeEntry) → AreWellFormed made → e.name ≡ next.entry.name → sort_key e ≡ sort_key next.entry → AreWellFormed (made ++ e ∷ [])
  next_formed e formed name key = formed_push made e formed (subst IsEntryName (sym name) next.formed.named.0) (before_next e name key)

  -- and what is left of the other tree may stand after it
  pub next_ahead : (e : TreeEntry) → e.name ≡ next.entry.name → sort_key e ≡ sort_key next.entry
      → AllByRecursion (λ (m : TreeEntry). AllByRecursion (Precedes m) next.entries) (made ++ e ∷ [])
  next_ahead e name key =
      all_both (λ m. AllByRecursion (Precedes m) next.entries) made (e ∷ [])
      (all_made (λ m. AllByRecursion (Precedes m) (next.entry ∷ next.entries)) (λ m. AllByRecursion (Precedes m) next.entries) (λ m all. all.1) made next.ahead) (
        all_made (Precedes next.entry) (Precedes e)
            (λ f before. record { rising = ap (λ (k : List ℕ). by_bytes k (sort_key f)) key ∙ before.rising; other = λ same. before.other (sym name ∙ same) }) next.entries next.formed.ordered.0,
        tt,
      )

  -- ---- a path

  pub same_leaf : (tail : List ℕ) → first.path ≡ front ++ tail → has_byte 47 tail ≡ false → (entry_of first.mode tail first.id ≡ next.entry) × (next.after ≡ [])
  same_leaf tail at plain =
      let kind = (next_kinds tail at).none plain in
      let alone : (place_of front next.entry, (next.entry.mode, next.entry.id)) ∷ [] ≡ (first.path, (first.mode, first.id)) ∷ next.after =
      sym (ap (λ (b : Bool). path_values (entry_steps (steps trees n) holder front next.entry b)) kind.0) ∙ next.here in
      let same = one_path (place_of front next.entry, (next.entry.mode, next.entry.id)) (first.path, (first.mode, first.id)) next.after alone in
      let mode : next.entry.mode ≡ first.mode = ap (λ (v : Value). v.1.0) same.0 in
      let id : next.entry.id ≡ first.id = ap (λ (v : Value). v.1.1) same.0 in
      ((λ i. record { mode = sym mode i; name = sym kind.1 i; id = sym id i }), same.1)

  pub leaf_plain : (tail : List ℕ) → first.path ≡ front ++ tail → has_byte 47 tail ≡ false → is_dir first.mode ≡ false
  leaf_plain tail at plain = ap (λ (e : TreeEntry). is_dir e.mode) (same_leaf tail at plain).0 ∙ ((next_kinds tail at).none plain).0

  pub leaf_formed : (tail : List ℕ) → AreWellFormed made → first.path ≡ front ++ tail → has_byte 47 tail ≡ false → AreWellFormed (made ++ entry_of first.mode tail first.id ∷ [])
  leaf_formed tail formed at plain =
      let same = (same_leaf tail at plain).0 in
      next_formed (entry_of first.mode tail first.id) formed (ap (λ (e : TreeEntry). e.name) same) (ap sort_key same)

  pub leaf_matches : (tail : List ℕ) (after : List TreeEntry) → first.path ≡ front ++ tail → has_byte 47 tail ≡ false → after ≡ made ++ entry_of first.mode tail first.id ∷ []
      → Matches (steps trees n) holder front after more
  leaf_matches tail after at plain is =
      let same = same_leaf tail at plain in
      record {
        entries = next.entries;
        formed = formed_tail next.entry next.entries next.formed;
        ahead = subst (AllByRecursion (λ (m : TreeEntry). AllByRecursion (Precedes m) next.entries)) (sym is)
            (next_ahead (entry_of first.mode tail first.id) (ap (λ (e : TreeEntry). e.name) same.0) (ap sort_key same.0));
        left = ap (λ (vs : List Value). vs ++ path_values (below (steps trees n) holder front next.entries)) (sym same.1) ∙ next.left;
      }

  -- ---- a directory

  pub same_key : (name id : List ℕ) → is_dir next.entry.mode ≡ true → next.entry.name ≡ name → sort_key (entry_of Dir name id) ≡ sort_key next.entry
  same_key name id dir same = ap (λ (text : List ℕ). text ++ 47 ∷ []) (sym same) ∙ ap (λ (end : List ℕ). next.entry.name ++ end) (sym (dir_end next.entry.mode dir))

  -- the run of a directory's paths is that of the entry
  pub run_matches : (name rest place : List ℕ) (run after all : List Listed) → first.path ≡ place ++ rest → IsPlace front name place → all ≡ run ++ after → all ≡ first ∷ more
      → AllByRecursion (λ (l : Listed). Begins place l.path) run → StopsAt place after
      → (path_values (steps trees n place next.entry.id) ≡ values run) × (path_values (below (steps trees n) holder front next.entries) ≡ values after)
  run_matches name rest place run after all at is whole begins inner stop =
      let kind = (next_kinds (name ++ 47 ∷ rest) (place_path front name place first.path rest at is)).slash name rest is.plain refl in
      let there : place_of front next.entry ≡ place = ap (λ (end : List ℕ). front ++ end) (ap (λ (end : List ℕ). next.entry.name ++ end) (dir_end next.entry.mode kind.0) ∙ ap (λ (text : List ℕ). text ++ 47 ∷ []) kind.1) ∙ sym is.at in
      let piece : path_values (piece_of (steps trees n) holder front next.entry) ≡ path_values (steps trees n place next.entry.id) =
      ap (λ (b : Bool). path_values (entry_steps (steps trees n) holder front next.entry b)) kind.0 ∙ ap (λ (p : List ℕ). path_values (steps trees n p next.entry.id)) there in
      let both = one_run place (path_values (piece_of (steps trees n) holder front next.entry)) (path_values (below (steps trees n) holder front next.entries)) run after
      (subst (λ (p : List ℕ). AllByRecursion (λ (v : Value). Begins p v.0) (path_values (piece_of (steps trees n) holder front next.entry))) there (inside (steps trees n) (steps_under trees n) holder front next.entry))
      (subst (λ (p : List ℕ). AllByRecursion (λ (v : Value). Begins p v.0 → ⊥) (path_values (below (steps trees n) holder front next.entries))) (sym is.at)
      (outside (steps trees n) (steps_under trees n) holder front name next.entries is.plain
      (all_made (Precedes next.entry) (λ f. name ≢ f.name) (λ f before same. before.other (kind.1 ∙ same)) next.entries next.formed.ordered.0) next.formed.named.1))
      inner stop joined in
      (sym piece ∙ both.0, both.1)
    where
      joined : path_values (piece_of (steps trees n) holder front next.entry) ++ path_values (below (steps trees n) holder front next.entries) ≡ values run ++ values after
      joined =
          ap (λ (vs : List Value). vs ++ path_values (below (steps trees n) holder front next.entries)) next.here
          ∙ ap (λ (vs : List Value). (first.path, (first.mode, first.id)) ∷ vs) next.left
          ∙ ap values (sym begins ∙ whole) ∙ values_append run after

record Starts (place : List ℕ) (listing : List Listed) : Type 0 where
  first : Listed
  more : List Listed
  rest : List ℕ
  is : listing ≡ first ∷ more
  at : first.path ≡ place ++ rest

starts : (place : List ℕ) (listing : List Listed) → StartsAt place listing → Starts place listing
starts place [] begins = absurd begins
starts place (l ∷ listing) begins = record { first = l; more = listing; rest = begins.0; is = refl; at = begins.1 }

module _ (trees : Trees) (n : ℕ) (holder front name place : List ℕ) (made : List TreeEntry) (listing : List Listed) (begins : StartsAt place listing) (is : IsPlace front name place)
    (match : Matches (steps trees n) holder front made listing) where
  start : Starts place listing
  start = starts place listing begins

  next : Next (steps trees n) holder front made start.first start.more
  next = next_entry (steps trees n) holder front made listing start.first start.more start.is match

  kind : (is_dir next.entry.mode ≡ true) × (next.entry.name ≡ name)
  kind =
      (next_kinds trees n holder front made start.first start.more next (name ++ 47 ∷ start.rest) (place_path front name place start.first.path start.rest start.at is)).slash
      name start.rest is.plain refl

  -- where no level is left, a directory has no paths
  pub directory_has_level : n ≡ 0 → ⊥
  directory_has_level zero =
      let nothing : path_values (piece_of (steps trees n) holder front next.entry) ≡ [] =
      ap (λ (b : Bool). path_values (entry_steps (steps trees n) holder front next.entry b)) kind.0
      ∙ ap (λ (m : ℕ). path_values (steps trees m (place_of front next.entry) next.entry.id)) zero ∙ ap path_values (steps_zero trees (place_of front next.entry) next.entry.id) in
      let clash : (start.first.path, (start.first.mode, start.first.id)) ∷ next.after ≡ [] = sym next.here ∙ nothing in
      cc

  -- it has a tree
  pub directory_is_tree : (run after : List Listed) → AreFormed trees → listing ≡ run ++ after → AllByRecursion (λ (l : Listed). Begins place l.path) run → StopsAt place after → IsNoTree n place run → ⊥
  directory_is_tree run after formed whole inner stop none =
      none trees next.entry.id formed (run_matches trees n holder front made start.first start.more next name start.rest place run after listing start.at is whole start.is inner stop).0

  -- its entry may stand after what is made
  pub directory_formed : (id : List ℕ) → AreWellFormed made → AreWellFormed (made ++ entry_of Dir name id ∷ [])
  directory_formed id formed =
      next_formed trees n holder front made start.first start.more next (entry_of Dir name id) formed (sym kind.1)
      (same_key trees n holder front made start.first start.more next name id kind.0 kind.1)

  -- and what is left of the other tree has the paths after the run
  pub directory_matches : (id : List ℕ) (run after : List Listed) (more_made : List TreeEntry) → listing ≡ run ++ after → AllByRecursion (λ (l : Listed). Begins place l.path) run → StopsAt place after
      → more_made ≡ made ++ entry_of Dir name id ∷ [] → Matches (steps trees n) holder front more_made after
  directory_matches id run after more_made whole inner stop added = record {
    entries = next.entries;
    formed = formed_tail next.entry next.entries next.formed;
    ahead = subst (AllByRecursion (λ (m : TreeEntry). AllByRecursion (Precedes m) next.entries)) (sym added)
        (next_ahead trees n holder front made start.first start.more next (entry_of Dir name id) (sym kind.1)
        (same_key trees n holder front made start.first start.more next name id kind.0 kind.1));
    left = (run_matches trees n holder front made start.first start.more next name start.rest place run after listing start.at is whole start.is inner stop).1;
  }
