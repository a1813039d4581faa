-- A file that is put is found at its path from the new root.
use Rattle.std.proofs.Common.{◌≡◌, ◌≢◌, ℕ, Bool, true, false, List, [], ◌∷◌, ◌++◌, length, Option, Some, None, refl, sym, ap, subst, ◌∙◌}
use Rattle.std.specs.Prelude.{Result, Ok, Err, nat_le, option_and_then, if◌then◌else◌}
use Rattle.std.specs.List.{AllByRecursion}
use Rattle.std.specs.Option.{option_map}
use Rattle.git_object.specs.EntryParts.{entry_of}
use Rattle.git_object.specs.Ids.{IsId}
use Rattle.git_object.specs.Objects.{Pair, object_text, pair_id}
use Rattle.git_object.specs.Repository.{largest_body}
use Rattle.git_object.specs.Trees.{AreEntries, IsEntryName}
use Rattle.git_object.specs.declared.modes.Mode.TheVariants.{Dir, File}
use Rattle.git_object.specs.declared.trees.TreeEntry.{TreeEntry}
use Rattle.lmots.proofs.HashBytes.{IsDigest-sha256}
use Rattle.object_making.specs.Keeping.{Keeps, KeepsPair}
use Rattle.tree_paths.specs.Lookups.{entry_at, entry_named, entry_value, from_dir, value_named}
use Rattle.tree_paths.specs.Readings.{Trees}
use Rattle.tree_paths.specs.Walks.{is_dir, listed}
use Rattle.object_making.specs.Editing.{IsPut, put_entry}
use Rattle.approvals.specs.Files.{NewTrees, Putting, entries_or, in_entries, old_entries, put_below, put_dir, put_file, put_last, tree_pair, with_tree}
use Rattle.approvals.specs.Finding.{AreRead, IsFilePut}
use Rattle.object_making.specs.Named.{IsAlike}
use Rattle.object_making.proofs.InOrder.{put_all, put_is}
use Rattle.approvals.proofs.Puts.{fits}

pub all_last : (P : Pair → Type 0) (below : List Pair) (pair : Pair) → AllByRecursion P (below ++ pair ∷ []) → P pair
all_last P [] pair all = all.0
all_last P (p ∷ below) pair all = all_last P below pair all.1

pub all_front : (P : Pair → Type 0) (below more : List Pair) → AllByRecursion P (below ++ more) → AllByRecursion P below
all_front P [] more all = tt
all_front P (p ∷ below) more all = (all.0, all_front P below more all.1)

-- an object's id has 32 bytes
pub id_of_pair : (pair : Pair) → IsId (pair_id pair)
id_of_pair pair = let d = IsDigest-sha256 (object_text pair.kind pair.body) in record { length = d.long; bytes = d.bytes }

-- ---- what made the new trees

abbrev pub MadeBy : List Pair → Pair → NewTrees → Type 0
MadeBy below pair made = (made.objects ≡ below ++ pair ∷ []) × (made.root ≡ pair_id pair)

by_size : (b : Bool) (old : List ℕ) (below : List Pair) (pair : Pair) (made : NewTrees) → fits b old below pair ≡ Ok made → MadeBy below pair made
by_size true old below pair made e =
    let it : NewTrees = record { objects = below ++ pair ∷ []; root = pair_id pair } in
    let same : it ≡ made = cc in
    (ap (λ (m : NewTrees). m.objects) (sym same), ap (λ (m : NewTrees). m.root) (sym same))
by_size false old below pair made e = cc

pub with_made : (old : Option (List ℕ)) (below : List Pair) (pair : Pair) (made : NewTrees) → with_tree old below pair ≡ Ok made → MadeBy below pair made
with_made None below pair made e = by_size true [] below pair made e
with_made (Some old) below pair made e = by_size (nat_le (length pair.body) largest_body) old below pair made e

abbrev pub Opened : Result (List TreeEntry) (List ℕ) → (List TreeEntry → Putting) → NewTrees → Type 0
Opened o next made = (entries : List TreeEntry) × (o ≡ Ok entries) × (next entries ≡ Ok made)

pub opened_at : (o : Result (List TreeEntry) (List ℕ)) (next : List TreeEntry → Putting) (made : NewTrees) → in_entries o next ≡ Ok made → Opened o next made
opened_at (Ok entries) next made e = (entries, refl, e)
opened_at (Err id) next made e = cc

last_by : (b : Bool) (id : List ℕ) (put : Putting) (made : NewTrees) → (if b then Err id else put) ≡ Ok made → (b ≡ false) × (put ≡ Ok made)
last_by true id put made e = cc
last_by false id put made e = (refl, e)

pub last_made : (old : Option (List ℕ)) (name blob : List ℕ) (entries : List TreeEntry) (found : Option TreeEntry) (made : NewTrees) → put_last old name blob entries found ≡ Ok made
    → IsAlike File found × (with_tree old [] (tree_pair (put_entry (entry_of File name blob) entries)) ≡ Ok made)
last_made old name blob entries None made e = (tt, e)
last_made old name blob entries (Some found) made e =
    last_by (is_dir found.mode) found.id (with_tree old [] (tree_pair (put_entry (entry_of File name blob) entries))) made e

abbrev pub BelowMade : (Option (List ℕ) → Putting) → Option TreeEntry → NewTrees → Type 0
BelowMade next found below = IsAlike Dir found × (dir : Option (List ℕ)) × (next dir ≡ Ok below)

pub below_by : (b : Bool) (id : List ℕ) (put : Putting) (below : NewTrees) → (if b then put else Err id) ≡ Ok below → (b ≡ true) × (put ≡ Ok below)
below_by true id put below e = (refl, e)
below_by false id put below e = cc

pub below_made : (next : Option (List ℕ) → Putting) (found : Option TreeEntry) (below : NewTrees) → put_below next found ≡ Ok below → BelowMade next found below
below_made next None below e = (tt, None, e)
below_made next (Some found) below e =
    let parts = below_by (is_dir found.mode) found.id (next (Some found.id)) below e in
    (parts.0, Some found.id, parts.1)

abbrev pub DirMade : Option (List ℕ) → List ℕ → List TreeEntry → Putting → NewTrees → Type 0
DirMade old name entries put made =
    (below : NewTrees) × (put ≡ Ok below) × (with_tree old below.objects (tree_pair (put_entry (entry_of Dir name below.root) entries)) ≡ Ok made)

pub dir_made : (old : Option (List ℕ)) (name : List ℕ) (entries : List TreeEntry) (put : Putting) (made : NewTrees) → put_dir old name entries put ≡ Ok made → DirMade old name entries put made
dir_made old name entries (Ok below) made e = (below, refl, e)
dir_made old name entries (Err id) made e = cc

-- ---- the new trees

pub entries_with : (entry : TreeEntry) (entries : List TreeEntry) → IsEntryName entry.name → IsId entry.id → AreEntries entries → IsPut entries entry (put_entry entry entries) → AreEntries (put_entry entry entries)
entries_with entry entries named id are put = record { formed = put.formed; ids = put_all entry named (λ (x : TreeEntry). IsId x.id) entries id are.ids }

pub new_there : (after : Trees) (entries : List TreeEntry) (entry : TreeEntry) (old : Option (List ℕ)) (below : List Pair) (made : NewTrees) → Keeps after made.objects
    → AreEntries (put_entry entry entries) → with_tree old below (tree_pair (put_entry entry entries)) ≡ Ok made → after made.root ≡ Some (put_entry entry entries)
new_there after entries entry old below made keeps are is =
    let parts = with_made old below (tree_pair (put_entry entry entries)) made is in
    let kept : KeepsPair after (tree_pair (put_entry entry entries)) =
    all_last (KeepsPair after) below (tree_pair (put_entry entry entries)) (subst (AllByRecursion (KeepsPair after)) parts.0 keeps) in
    ap after parts.1 ∙ kept (put_entry entry entries) refl (record { entries_are = are; text = refl })

new_value : (after : Trees) (entries : List TreeEntry) (entry : TreeEntry) (old : Option (List ℕ)) (below : List Pair) (made : NewTrees) → Keeps after made.objects
    → AreEntries (put_entry entry entries) → IsPut entries entry (put_entry entry entries) → with_tree old below (tree_pair (put_entry entry entries)) ≡ Ok made
    → value_named after made.root entry.name ≡ Some (entry.mode, entry.id)
new_value after entries entry old below made keeps are put is =
    ap (λ (t : Option (List TreeEntry)). option_map entry_value (entry_named entry.name (listed t))) (new_there after entries entry old below made keeps are is) ∙ ap (option_map entry_value) put.put

-- the root of new trees has an id
pub root_is : (trees : Trees) (blob : List ℕ) (names : List (List ℕ)) (old : Option (List ℕ)) (made : NewTrees) → names ≢ [] → put_file trees blob names old ≡ Ok made → IsId made.root
root_is trees blob [] old made some put = absurd (some refl)
root_is trees blob (name ∷ []) old made some put =
    let opened = opened_at (old_entries trees old) (λ (entries : List TreeEntry). put_last old name blob entries (entry_named name entries)) made put in
    let last = last_made old name blob opened.0 (entry_named name opened.0) made opened.2 in
    let parts = with_made old [] (tree_pair (put_entry (entry_of File name blob) opened.0)) made last.1 in
    subst IsId (sym parts.1) (id_of_pair (tree_pair (put_entry (entry_of File name blob) opened.0)))
root_is trees blob (name ∷ next ∷ names) old made some put =
    let into : Option (List ℕ) → Putting = put_file trees blob (next ∷ names) in
    let opened = opened_at (old_entries trees old) (λ (entries : List TreeEntry). put_dir old name entries (put_below into (entry_named name entries))) made put in
    let dir = dir_made old name opened.0 (put_below into (entry_named name opened.0)) made opened.2 in
    let parts = with_made old dir.0.objects (tree_pair (put_entry (entry_of Dir name dir.0.root) opened.0)) made dir.2 in
    subst IsId (sym parts.1) (id_of_pair (tree_pair (put_entry (entry_of Dir name dir.0.root) opened.0)))

by_found : (id : List ℕ) (t : Option (List TreeEntry)) (entries : List TreeEntry) → AreEntries (listed t) → entries_or id t ≡ Ok entries → AreEntries entries
by_found id None entries formed e = cc
by_found id (Some found) entries formed e = let same : found ≡ entries = cc in subst AreEntries same formed

pub old_formed : (trees : Trees) → AreRead trees → (old : Option (List ℕ)) (entries : List TreeEntry) → old_entries trees old ≡ Ok entries → AreEntries entries
old_formed trees formed None entries e =
    let none : List TreeEntry = [] in
    let same : none ≡ entries = cc in subst AreEntries same (record { formed = record { named = tt; ordered = tt }; ids = tt })
old_formed trees formed (Some id) entries e = by_found id (trees id) entries (formed id) e

-- ---- the path

pub file_put : (trees : Trees) (blob : List ℕ) (names : List (List ℕ)) (old : Option (List ℕ)) → IsFilePut trees blob names old
file_put trees blob [] old = λ made after read id named some put keeps. absurd (some refl)
file_put trees blob (name ∷ []) old = λ made after read id named some put keeps.
    let opened = opened_at (old_entries trees old) (λ (entries : List TreeEntry). put_last old name blob entries (entry_named name entries)) made put in
    let last = last_made old name blob opened.0 (entry_named name opened.0) made opened.2 in
    let are = old_formed trees read old opened.0 opened.1 in
    let is = put_is (entry_of File name blob) opened.0 named.0 are.formed last.0 in
    new_value after opened.0 (entry_of File name blob) old [] made keeps (entries_with (entry_of File name blob) opened.0 named.0 id are is) is last.1
file_put trees blob (name ∷ next ∷ names) old = λ made after read id named some put keeps.
    let into : Option (List ℕ) → Putting = put_file trees blob (next ∷ names) in
    let opened = opened_at (old_entries trees old) (λ (entries : List TreeEntry). put_dir old name entries (put_below into (entry_named name entries))) made put in
    let dir = dir_made old name opened.0 (put_below into (entry_named name opened.0)) made opened.2 in
    let below = below_made into (entry_named name opened.0) dir.0 dir.1 in
    let parts = with_made old dir.0.objects (tree_pair (put_entry (entry_of Dir name dir.0.root) opened.0)) made dir.2 in
    let kept : Keeps after dir.0.objects =
    all_front (KeepsPair after) dir.0.objects (tree_pair (put_entry (entry_of Dir name dir.0.root) opened.0) ∷ []) (subst (AllByRecursion (KeepsPair after)) parts.0 keeps) in
    let are = old_formed trees read old opened.0 opened.1 in
    let is = put_is (entry_of Dir name dir.0.root) opened.0 named.0 are.formed below.0 in
    let root = root_is trees blob (next ∷ names) below.1 dir.0 (λ e. cc e) below.2 in
    let value = new_value after opened.0 (entry_of Dir name dir.0.root) old dir.0.objects made keeps (entries_with (entry_of Dir name dir.0.root) opened.0 named.0 root are is) is dir.2 in
    ap (option_and_then (from_dir (entry_at after (next ∷ names)))) value
    ∙ file_put trees blob (next ∷ names) below.1 dir.0 after read id named.1 (λ e. cc e) below.2 kept
