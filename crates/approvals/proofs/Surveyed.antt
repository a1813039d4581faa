-- A file put by the directories that were read of old trees.
use Rattle.std.proofs.Common.{◌≡◌, ◌≢◌, ℕ, false, List, [], ◌∷◌, ◌++◌, length, Option, Some, None, refl, sym, ap, subst, ◌∙◌, append_assoc, arith}
use Rattle.std.specs.Prelude.{IfNone, IfOk, IfSome, Result, Ok, Err}
use Rattle.text_reader.specs.Line.{has_byte}
use Rattle.git_object.specs.EntryParts.{entry_of}
use Rattle.git_object.specs.Names.{components}
use Rattle.git_object.specs.Objects.{Pair}
use Rattle.git_object.specs.Repository.{Repository}
use Rattle.git_object.specs.Trees.{AreWellFormed}
use Rattle.git_object.specs.declared.modes.Mode.TheVariants.{Dir}
use Rattle.git_object.specs.declared.trees.TreeEntry.{TreeEntry}
use Rattle.tree_paths.specs.Lookups.{entry_named}
use Rattle.tree_paths.specs.Readings.{Readings, Told}
use Rattle.tree_paths.proofs.PathNames.{cut_parts, plain_parts, some_parts}
use Rattle.object_making.specs.Editing.{put_entry}
use Rattle.approvals.specs.Files.{Putting, old_entries, put_below, put_dir, put_file, put_last, tree_pair, with_tree}
use Rattle.approvals.specs.Levels.{AreLevels, HasLevels, put_levels}
use Rattle.approvals.specs.Placing.{IsMade, IsPlaced}
use Rattle.approvals.specs.declared.putting.Placed.{Placed}
use Rattle.approvals.specs.declared.surveys.Level.{Level}
use Rattle.tree_paths.proofs.ObjectsRead.{kept_told}
use Rattle.approvals.proofs.Puts.{below_refused, last_put, split_put}

put_more : (blob name : List ℕ) (names : List (List ℕ)) (level : Level) (levels : List Level) → names ≢ []
    → put_levels blob (name ∷ names) (level ∷ levels) ≡ put_dir level.old name level.entries (put_below (λ dir. put_levels blob names levels) (entry_named name level.entries))
put_more blob name [] level levels some = absurd (some refl)
put_more blob name (next ∷ names) level levels some = refl

abbrev pub level_of : Option (List ℕ) → List TreeEntry → Level
level_of old entries = record { old = old; entries = entries }

-- ---- reading

module _ (content : Option Repository) (path : List ℕ) (old : Option (List ℕ)) (entries : List TreeEntry) (formed : AreWellFormed entries)
    (is : (readings : Readings) → Told content readings → old_entries readings.trees old ≡ Ok entries) (before : List Level) where
  pub last_level : (after : List Level) → has_byte 47 path ≡ false → after ≡ before ++ level_of old entries ∷ [] → HasLevels content (components path) old before after
  last_level after plain added = record {
    levels = level_of old entries ∷ [];
    added = added;
    are = subst (λ (names : List (List ℕ)). AreLevels names (level_of old entries ∷ [])) (sym (plain_parts path plain)) (formed, tt);
    same = λ readings told blob.
        last_put readings.trees blob path old entries (put_last old path blob entries (entry_named path entries)) plain (is readings told) refl
        ∙ ap (λ (names : List (List ℕ)). put_levels blob names (level_of old entries ∷ [])) (sym (plain_parts path plain));
  }

  pub more_levels : (name rest : List ℕ) (dir : Option (List ℕ)) (mid after : List Level) → path ≡ name ++ 47 ∷ rest → has_byte 47 name ≡ false → mid ≡ before ++ level_of old entries ∷ []
      → ((next : Option (List ℕ) → Putting) → put_below next (entry_named name entries) ≡ next dir) → HasLevels content (components rest) dir mid after → HasLevels content (components path) old before after
  more_levels name rest dir mid after whole plain pushed found below =
      let parts : components path ≡ name ∷ components rest = ap components whole ∙ cut_parts name rest plain in
      let levels : List Level = level_of old entries ∷ below.levels in
      record {
        levels = level_of old entries ∷ below.levels;
        added = below.added ∙ ap (λ (l : List Level). l ++ below.levels) pushed ∙ append_assoc before (level_of old entries ∷ []) below.levels;
        are = subst (λ (names : List (List ℕ)). AreLevels names (level_of old entries ∷ below.levels)) (sym parts) (formed, below.are);
        same = λ readings told blob.
            split_put readings.trees blob path old name rest whole plain entries (is readings told)
            ∙ ap (put_dir old name entries) (found (put_file readings.trees blob (components rest)) ∙ below.same readings told blob ∙ sym (found (λ d. put_levels blob (components rest) below.levels)))
            ∙ sym (put_more blob name (components rest) (level_of old entries) below.levels (some_parts rest))
            ∙ ap (λ (names : List (List ℕ)). put_levels blob names (level_of old entries ∷ below.levels)) (sym parts);
      }

pub formed_in : (found : Result (List TreeEntry) (List ℕ)) (entries : List TreeEntry) → found ≡ Ok entries → IfOk found AreWellFormed → AreWellFormed entries
formed_in found entries is formed = subst (λ (o : Result (List TreeEntry) (List ℕ)). IfOk o AreWellFormed) is formed

-- reading goes on below a directory
module _ (before now : Option Repository) (stays : (r : Repository) → now ≡ Some r → before ≡ Some r) (path : List ℕ) (old : Option (List ℕ)) (entries : List TreeEntry) (formed : AreWellFormed entries)
    (is : (readings : Readings) → Told before readings → old_entries readings.trees old ≡ Ok entries) (name rest : List ℕ) (whole : path ≡ name ++ 47 ∷ rest) (plain : has_byte 47 name ≡ false)
    (listed : List TreeEntry) (same : listed ≡ entries) (dir : Option (List ℕ)) (found : (next : Option (List ℕ) → Putting) → put_below next (entry_named name listed) ≡ next dir) where
  here : (readings : Readings) → Told now readings → old_entries readings.trees old ≡ Ok entries
  here readings told = is readings (kept_told readings stays told)

  found_here : (next : Option (List ℕ) → Putting) → put_below next (entry_named name entries) ≡ next dir
  found_here next = ap (λ (es : List TreeEntry). put_below next (entry_named name es)) (sym same) ∙ found next

  pub if_more : (in_way : Option (List ℕ)) (first mid after : List Level) → mid ≡ first ++ level_of old entries ∷ [] → IfNone in_way (HasLevels now (components rest) dir mid after) → IfNone in_way (HasLevels now (components path) old first after)
  if_more None first mid after pushed below = more_levels now path old entries formed here first name rest dir mid after whole plain pushed found_here below
  if_more (Some id) first mid after pushed below = tt

  pub if_refused : (in_way : Option (List ℕ)) → IfSome in_way (λ id. (readings : Readings) → Told now readings → (blob : List ℕ) → put_file readings.trees blob (components rest) dir ≡ Err id)
      → IfSome in_way (λ id. (readings : Readings) → Told now readings → (blob : List ℕ) → put_file readings.trees blob (components path) old ≡ Err id)
  if_refused None below = tt
  if_refused (Some id) below = λ readings told blob.
      below_refused readings.trees blob path old name rest whole plain entries (here readings told) id (found_here (put_file readings.trees blob (components rest)) ∙ below readings told blob)

-- ---- putting

module _ (blob path : List ℕ) (level : Level) (below levels : List Level) (are : levels ≡ level ∷ below) (entries : List TreeEntry) (is : entries ≡ level.entries) where
  last_is : has_byte 47 path ≡ false → put_last level.old path blob entries (entry_named path entries) ≡ put_levels blob (components path) levels
  last_is plain =
      ap (λ (es : List TreeEntry). put_last level.old path blob es (entry_named path es)) is
      ∙ (λ i. put_levels blob (sym (plain_parts path plain) i) (sym are i))

  pub last_at : (placed : Placed) (before after : List Pair) → has_byte 47 path ≡ false → IsPlaced placed (put_last level.old path blob entries (entry_named path entries)) before after
      → IsPlaced placed (put_levels blob (components path) levels) before after
  last_at placed before after plain h = subst (λ (put : Putting). IsPlaced placed put before after) (last_is plain) h

  module _ (name rest : List ℕ) (whole : path ≡ name ++ 47 ∷ rest) (plain : has_byte 47 name ≡ false) where
    split_at : put_levels blob (components path) levels ≡ put_dir level.old name entries (put_below (λ dir. put_levels blob (components rest) below) (entry_named name entries))
    split_at =
        (λ i. put_levels blob ((ap components whole ∙ cut_parts name rest plain) i) (are i))
        ∙ put_more blob name (components rest) level below (some_parts rest)
        ∙ ap (λ (es : List TreeEntry). put_dir level.old name es (put_below (λ dir. put_levels blob (components rest) below) (entry_named name es))) (sym is)

    pub refused_at : (id : List ℕ) → put_below (λ dir. put_levels blob (components rest) below) (entry_named name entries) ≡ Err id → put_levels blob (components path) levels ≡ Err id
    refused_at id refused = split_at ∙ ap (put_dir level.old name entries) refused

    pub placed_at : (id name' : List ℕ) (entries' : List TreeEntry) (placed : Placed) (before mid after : List Pair) → name' ≡ name → entries' ≡ entries
        → put_below (λ dir. put_levels blob (components rest) below) (entry_named name entries) ≡ put_levels blob (components rest) below → (made : IsMade (put_levels blob (components rest) below) before mid id)
        → IsPlaced placed (with_tree level.old made.made (tree_pair (put_entry (entry_of Dir name' id) entries'))) before after → IsPlaced placed (put_levels blob (components path) levels) before after
    placed_at id name' entries' placed before mid after same_name same_entries found made h =
        let Is : Putting → Type 0 = λ put. IsPlaced placed put before after in
        let all : put_levels blob (components path) levels ≡ with_tree level.old made.made (tree_pair (put_entry (entry_of Dir name id) entries)) = split_at ∙ ap (put_dir level.old name entries) (found ∙ made.put_is) in
        subst Is (sym all) (subst Is (λ i. with_tree level.old made.made (tree_pair (put_entry (entry_of Dir (same_name i) id) (same_entries i)))) h)

-- the levels for the names below the first
pub levels_below : (path name rest : List ℕ) (level : Level) (below levels : List Level) → path ≡ name ++ 47 ∷ rest → has_byte 47 name ≡ false → levels ≡ level ∷ below → AreLevels (components path) levels → AreLevels (components rest) below
levels_below path name rest level below levels whole plain are h =
    (subst (λ (all : List (List ℕ) × List Level). AreLevels all.0 all.1) (λ i. ((ap components whole ∙ cut_parts name rest plain) i, are i)) h).1

first_formed : (names : List (List ℕ)) (level : Level) (below : List Level) → names ≢ [] → AreLevels names (level ∷ below) → AreWellFormed level.entries
first_formed [] level below some h = absurd (some refl)
first_formed (name ∷ names) level below some h = h.0

-- there is a first one, in Git's order
pub formed_first : (path : List ℕ) (level : Level) (below levels : List Level) → levels ≡ level ∷ below → AreLevels (components path) levels → AreWellFormed level.entries
formed_first path level below levels are h = first_formed (components path) level below (some_parts path) (subst (AreLevels (components path)) are h)

none_first : (names : List (List ℕ)) → names ≢ [] → AreLevels names [] → ⊥
none_first [] some h = some refl
none_first (name ∷ names) some h = h

no_level : (names : List (List ℕ)) (levels : List Level) → names ≢ [] → length levels ≡ 0 → AreLevels names levels → ⊥
no_level names [] some none h = none_first names some h
no_level names (level ∷ levels) some none h = absurd (omega arith)

pub no_first : (path : List ℕ) (levels : List Level) → length levels ≡ 0 → AreLevels (components path) levels → ⊥
no_first path levels none h = no_level (components path) levels (some_parts path) none h

-- a directory stands there, or nothing does
pub found_by : (answer : Result (Option (List ℕ)) (List ℕ)) (put : Putting) (found : Option TreeEntry) → ((id : List ℕ) → answer ≡ Err id → ⊥) → IfOk answer (λ dir. (next : Option (List ℕ) → Putting) → put_below next found ≡ next dir)
    → put_below (λ dir. put) found ≡ put
found_by (Ok dir) put found not is = is (λ dir. put)
found_by (Err id) put found not is = absurd (not id refl)
