-- The paths of trees rise, are well named, and none stands in a directory that has the path of another.
use Rattle.std.proofs.Common.{◌≡◌, ◌≢◌, ◌≤◌, ℕ, suc, zero, Bool, true, false, List, [], ◌∷◌, ◌++◌, length, refl, sym, ap, subst, ◌∙◌, append_assoc, arith}
use Rattle.std.specs.List.{AllByRecursion}
use Rattle.std.specs.declared.cmp.Ordering.TheVariants.{Less}
use Rattle.std.proofs.lemmas.List.{append-nil}
use Rattle.octets.specs.BytesMap.{by_bytes}
use Rattle.text_reader.specs.Line.{Begins}
use Rattle.git_object.specs.Trees.{AreWellFormed, IsEntryName, Precedes, sort_key}
use Rattle.git_object.specs.declared.trees.TreeEntry.{TreeEntry}
use Rattle.tree_paths.specs.Changes.{AreRising}
use Rattle.tree_paths.specs.Leading.{join}
use Rattle.tree_paths.specs.Readings.{Trees}
use Rattle.tree_paths.specs.States.{path_values}
use Rattle.tree_paths.specs.Walks.{Leaf, Step, Visit, below, entry_steps, is_dir, listed, place_of, steps}
use Rattle.tree_paths.proofs.Differing.{Rising}
use Rattle.tree_paths.proofs.Judging.{piece_of, steps_suc, steps_zero}
use Rattle.tree_paths.proofs.Order.{GoesUnder, formed_tail, plain_end, steps_under}
use Rattle.tree_paths.proofs.Rising.{steps_rise}
use Rattle.object_making.specs.Listings.{values}
use Rattle.object_making.specs.Matching.{AreFormed}
use Rattle.object_making.specs.TreePaths.{AreApart, IsListed, IsListing, paths}
use Rattle.object_making.specs.declared.listed.Listed.{Listed}
use Rattle.object_making.proofs.Putting.{all_both, path_values_append}
use Rattle.object_making.proofs.Runs.{Reaches, Value, all_values, at_paths, directory_key, outside, plain_key, reached}

-- ---- names

-- a path of names below a front, of no directory
record Good (most : ℕ) (front : List ℕ) (v : Value) : Type 0 where
  names : List (List ℕ)
  at : v.0 ≡ front ++ join names
  named : AllByRecursion IsEntryName names
  some : names ≢ []
  few : length names ≤ most
  plain : is_dir v.1.0 ≡ false

joined : (name : List ℕ) (names : List (List ℕ)) → names ≢ [] → join (name ∷ names) ≡ name ++ 47 ∷ join names
joined name [] some = absurd (some refl)
joined name (next ∷ names) some = refl

good_deeper : (n : ℕ) (front : List ℕ) (e : TreeEntry) → is_dir e.mode ≡ true → IsEntryName e.name → (v : Value) → Good n (place_of front e) v → Good (suc n) front v
good_deeper n front e dir named v good = record {
  names = e.name ∷ good.names;
  at = good.at ∙ append_assoc front (sort_key e) (join good.names) ∙ ap (λ (end : List ℕ). front ++ end) (directory_key e (join good.names) dir ∙ sym (joined e.name good.names good.some));
  named = (named, good.named);
  some = λ none. cc;
  few = let less = good.few in omega arith;
  plain = good.plain;
}

good_below : (into : List ℕ → List ℕ → List Step) (n : ℕ) → ((front id : List ℕ) → AllByRecursion (Good n front) (path_values (into front id))) → (holder front : List ℕ) (es : List TreeEntry)
    → AllByRecursion (λ (e : TreeEntry). IsEntryName e.name) es → AllByRecursion (Good (suc n) front) (path_values (below into holder front es))
good_below into n next holder front [] named = tt
good_below into n next holder front (e ∷ es) named =
    subst (AllByRecursion (Good (suc n) front)) (sym (path_values_append (piece_of into holder front e) (below into holder front es)))
    (all_both (Good (suc n) front) (path_values (piece_of into holder front e)) (path_values (below into holder front es)) (by_kind (is_dir e.mode) refl) (good_below into n next holder front es named.1))
  where
    by_kind : (b : Bool) → is_dir e.mode ≡ b → AllByRecursion (Good (suc n) front) (path_values (entry_steps into holder front e b))
    by_kind true dir = all_values (Good n (place_of front e)) (Good (suc n) front) (good_deeper n front e dir named.0) (path_values (into (place_of front e) e.id)) (next (place_of front e) e.id)
    by_kind false plain = (
      record {
        names = e.name ∷ [];
        at = ap (λ (end : List ℕ). front ++ (e.name ++ end)) (plain_end e.mode plain) ∙ ap (λ (end : List ℕ). front ++ end) (append-nil e.name);
        named = (named.0, tt);
        some = λ none. cc;
        few = omega arith;
        plain = plain;
      },
      tt,
    )

good_steps : (trees : Trees) → AreFormed trees → (n : ℕ) (front id : List ℕ) → AllByRecursion (Good n front) (path_values (steps trees n front id))
good_steps trees formed zero front id = subst (λ (ss : List Step). AllByRecursion (Good 0 front) (path_values ss)) (sym (steps_zero trees front id)) tt
good_steps trees formed (suc n) front id =
    subst (λ (ss : List Step). AllByRecursion (Good (suc n) front) (path_values ss)) (sym (steps_suc trees n front id))
    (good_below (steps trees n) n (good_steps trees formed n) id front (listed (trees id)) (formed id).named)

-- ---- no path in a directory of another's

abbrev Apart : List Value → Type 0
Apart [] = Unit {0}
Apart (v ∷ vs) = AllByRecursion (λ (w : Value). Begins (v.0 ++ 47 ∷ []) w.0 → ⊥) vs × Apart vs

apart_append : (vs ws : List Value) → Apart vs → Apart ws → AllByRecursion (λ (v : Value). AllByRecursion (λ (w : Value). Begins (v.0 ++ 47 ∷ []) w.0 → ⊥) ws) vs → Apart (vs ++ ws)
apart_append [] ws a b cross = b
apart_append (v ∷ vs) ws a b cross = (all_both (λ (w : Value). Begins (v.0 ++ 47 ∷ []) w.0 → ⊥) vs ws a.0 cross.0, apart_append vs ws a.1 b cross.1)

-- what stands in a directory that has the path of an entry, or of a path below it, stands in one of the entry's name
inward : (front path other : List ℕ) (e : TreeEntry) → Reaches front e path → Begins (path ++ 47 ∷ []) other → Begins (front ++ (e.name ++ 47 ∷ [])) other
inward front path other e there begins = by_kind (is_dir e.mode) refl
  where
    regroup : (a b c d : List ℕ) → ((a ++ (b ++ 47 ∷ c)) ++ 47 ∷ []) ++ d ≡ (a ++ (b ++ 47 ∷ [])) ++ (c ++ (47 ∷ d))
    regroup a b c d = simp append_assoc

    regroup_plain : (a b d : List ℕ) → ((a ++ b) ++ 47 ∷ []) ++ d ≡ (a ++ (b ++ 47 ∷ [])) ++ d
    regroup_plain a b d = simp append_assoc

    by_kind : (k : Bool) → is_dir e.mode ≡ k → Begins (front ++ (e.name ++ 47 ∷ [])) other
    by_kind true dir = (
      there.rest ++ (47 ∷ begins.0),
      begins.1 ∙ ap (λ (p : List ℕ). (p ++ 47 ∷ []) ++ begins.0) (there.at ∙ ap (λ (end : List ℕ). front ++ end) (directory_key e there.rest dir)) ∙ regroup front e.name there.rest begins.0,
    )
    by_kind false plain = (
      begins.0,
      begins.1 ∙ ap (λ (p : List ℕ). (p ++ 47 ∷ []) ++ begins.0) (there.at ∙ ap (λ (end : List ℕ). front ++ end) (plain_key e there.rest plain (there.alone plain))) ∙ regroup_plain front e.name begins.0,
    )

all_entries : (P Q : TreeEntry → Type 0) → ((e : TreeEntry) → P e → Q e) → (es : List TreeEntry) → AllByRecursion P es → AllByRecursion Q es
all_entries P Q f [] all = tt
all_entries P Q f (e ∷ es) all = (f e all.0, all_entries P Q f es all.1)

apart_below : (into : List ℕ → List ℕ → List Step) → GoesUnder into → ((front id : List ℕ) → Apart (path_values (into front id))) → (holder front : List ℕ) (es : List TreeEntry) → AreWellFormed es
    → Apart (path_values (below into holder front es))
apart_below into under next holder front [] formed = tt
apart_below into under next holder front (e ∷ es) formed =
    subst Apart (sym (path_values_append (piece_of into holder front e) (below into holder front es)))
    (apart_append (path_values (piece_of into holder front e)) (path_values (below into holder front es)) (by_kind (is_dir e.mode)) (apart_below into under next holder front es (formed_tail e es formed))
    (all_values (λ (v : Value). Reaches front e v.0) (λ (v : Value). AllByRecursion (λ (w : Value). Begins (v.0 ++ 47 ∷ []) w.0 → ⊥) (path_values (below into holder front es)))
    (λ v there. all_values (λ (w : Value). Begins (front ++ (e.name ++ 47 ∷ [])) w.0 → ⊥) (λ (w : Value). Begins (v.0 ++ 47 ∷ []) w.0 → ⊥) (λ w none begins. none (inward front v.0 w.0 e there begins))
    (path_values (below into holder front es)) others)
    (path_values (piece_of into holder front e)) (reached into under holder front e)))
  where
    by_kind : (b : Bool) → Apart (path_values (entry_steps into holder front e b))
    by_kind true = next (place_of front e) e.id
    by_kind false = (tt, tt)

    others : AllByRecursion (λ (w : Value). Begins (front ++ (e.name ++ 47 ∷ [])) w.0 → ⊥) (path_values (below into holder front es))
    others = outside into under holder front e.name es formed.named.0.no_slash (all_entries (Precedes e) (λ f. e.name ≢ f.name) (λ f before. before.other) es formed.ordered.0) formed.named.1

apart_steps : (trees : Trees) → AreFormed trees → (n : ℕ) (front id : List ℕ) → Apart (path_values (steps trees n front id))
apart_steps trees formed zero front id = subst (λ (ss : List Step). Apart (path_values ss)) (sym (steps_zero trees front id)) tt
apart_steps trees formed (suc n) front id =
    subst (λ (ss : List Step). Apart (path_values ss)) (sym (steps_suc trees n front id))
    (apart_below (steps trees n) (steps_under trees n) (apart_steps trees formed n) id front (listed (trees id)) (formed id))

-- ---- listings

abbrev Rises : List Value → Type 0
Rises [] = Unit {0}
Rises (v ∷ vs) = AllByRecursion (λ (w : Value). by_bytes v.0 w.0 ≡ Less) vs × Rises vs

values_rise : (ss : List Step) → Rising ss → Rises (path_values ss)
values_rise [] rising = tt
values_rise (Visit left at id ∷ ss) rising = values_rise ss rising.1
values_rise (Leaf holder path mode id ∷ ss) rising = (at_paths (λ (p : List ℕ). by_bytes path p ≡ Less) ss rising.0, values_rise ss rising.1)

on_paths : (P : List ℕ → Type 0) (ls : List Listed) → AllByRecursion (λ (v : Value). P v.0) (values ls) → AllByRecursion P (paths ls)
on_paths P [] all = tt
on_paths P (l ∷ ls) all = (all.0, on_paths P ls all.1)

rising_paths : (ls : List Listed) → Rises (values ls) → AreRising (paths ls)
rising_paths [] rises = tt
rising_paths (l ∷ ls) rises = (on_paths (λ p. by_bytes l.path p ≡ Less) ls rises.0, rising_paths ls rises.1)

apart_paths : (ls : List Listed) → Apart (values ls) → AreApart (paths ls)
apart_paths [] apart = tt
apart_paths (l ∷ ls) apart = (on_paths (λ p. Begins (l.path ++ 47 ∷ []) p → ⊥) ls apart.0, apart_paths ls apart.1)

good_listed : (ls : List Listed) → AllByRecursion (Good 32 []) (values ls) → AllByRecursion IsListed ls
good_listed [] all = tt
good_listed (l ∷ ls) all = (
  record { path = record { names = all.0.names; joined = all.0.at; named = all.0.named; some = all.0.some; few = all.0.few }; plain = all.0.plain },
  good_listed ls all.1,
)

pub listing_is : (trees : Trees) (id : List ℕ) (listing : List Listed) → AreFormed trees → path_values (steps trees 32 [] id) ≡ values listing → IsListing listing
listing_is trees id listing formed is = record {
  each = good_listed listing (subst (AllByRecursion (Good 32 [])) is (good_steps trees formed 32 [] id));
  rising = rising_paths listing (subst Rises is (values_rise (steps trees 32 [] id) (steps_rise trees formed 32 [] id)));
  apart = apart_paths listing (subst Apart is (apart_steps trees formed 32 [] id));
}
