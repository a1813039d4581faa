-- Where a file is put, every other path keeps what it has.
use Rattle.std.proofs.Common.{◌≡◌, ◌≢◌, ℕ, Bool, List, [], ◌∷◌, Option, Some, None, refl, sym, ap, subst, ◌∙◌, inl, inr}
use Rattle.std.specs.Prelude.{Ok, option_and_then, if◌then◌else◌}
use Rattle.std.specs.List.{AllByRecursion}
use Rattle.std.specs.Option.{option_map}
use Rattle.git_object.specs.EntryParts.{entry_of}
use Rattle.git_object.specs.declared.modes.Mode.TheVariants.{Dir, File}
use Rattle.git_object.specs.declared.trees.TreeEntry.{TreeEntry}
use Rattle.git_object.proofs.Decisions.{is_text}
use Rattle.object_making.specs.Keeping.{Keeps, KeepsPair}
use Rattle.tree_paths.specs.Lookups.{entry_at, entry_named, entry_value, from_dir}
use Rattle.tree_paths.specs.Readings.{Trees}
use Rattle.tree_paths.specs.States.{PathValue}
use Rattle.tree_paths.specs.Walks.{is_dir, listed}
use Rattle.object_making.specs.Editing.{IsPut, put_entry}
use Rattle.approvals.specs.Files.{NewTrees, Putting, entries_or, old_entries, put_below, put_dir, put_file, put_last, tree_pair}
use Rattle.approvals.specs.Finding.{IsAllElseKept, no_dir, path_at, path_from}
use Rattle.object_making.specs.Named.{IsAlike}
use Rattle.object_making.proofs.InOrder.{put_is}
use Rattle.approvals.proofs.Found.{all_front, below_by, below_made, dir_made, entries_with, last_made, new_there, old_formed, opened_at, root_is, with_made}

-- the old trees are among those after
abbrev Remain : Trees → Trees → Type 0
Remain trees after = (id : List ℕ) (entries : List TreeEntry) → trees id ≡ Some entries → after id ≡ Some entries

-- what a value leads to by further names
abbrev step : Trees → List (List ℕ) → Option PathValue → Option PathValue
step after [] value = no_dir value
step after (m ∷ ms) value = no_dir (option_and_then (from_dir (entry_at after (m ∷ ms))) value)

abbrev value_in : List ℕ → List TreeEntry → Option PathValue
value_in n entries = option_map entry_value (entry_named n entries)

from_tree : (after : Trees) (n : List ℕ) (rest : List (List ℕ)) (root : List ℕ) (entries : List TreeEntry) → after root ≡ Some entries → path_at after (n ∷ rest) root ≡ step after rest (value_in n entries)
from_tree after n [] root entries is = ap (λ (t : Option (List TreeEntry)). no_dir (value_in n (listed t))) is
from_tree after n (m ∷ ms) root entries is = ap (λ (t : Option (List TreeEntry)). step after (m ∷ ms) (value_in n (listed t))) is

nothing_there : (after : Trees) (n : List ℕ) (rest : List (List ℕ)) (entries : List TreeEntry) → entries ≡ [] → None ≡ step after rest (value_in n entries)
nothing_there after n [] entries none = ap (λ (es : List TreeEntry). no_dir (value_in n es)) (sym none)
nothing_there after n (m ∷ ms) entries none = ap (λ (es : List TreeEntry). step after (m ∷ ms) (value_in n es)) (sym none)

by_old : (trees after : Trees) (n : List ℕ) (rest : List (List ℕ)) (id : List ℕ) (t : Option (List TreeEntry)) (entries : List TreeEntry) → trees id ≡ t → entries_or id t ≡ Ok entries → Remain trees after
    → path_at after (n ∷ rest) id ≡ step after rest (value_in n entries)
by_old trees after n rest id None entries is e keeps = cc
by_old trees after n rest id (Some found) entries is e keeps =
    let same : found ≡ entries = cc in
    from_tree after n rest id entries (keeps id entries (is ∙ ap Some same))

from_old : (trees after : Trees) (n : List ℕ) (rest : List (List ℕ)) (old : Option (List ℕ)) (entries : List TreeEntry) → old_entries trees old ≡ Ok entries → Remain trees after
    → path_from after (n ∷ rest) old ≡ step after rest (value_in n entries)
from_old trees after n rest None entries e keeps =
    let none : List TreeEntry = [] in
    let same : entries ≡ none = cc in nothing_there after n rest entries same
from_old trees after n rest (Some id) entries e keeps = by_old trees after n rest id (trees id) entries refl e keeps

-- under another name
at_other : (trees after : Trees) (n : List ℕ) (rest : List (List ℕ)) (old : Option (List ℕ)) (entries : List TreeEntry) (entry : TreeEntry) (root : List ℕ) → n ≢ entry.name
    → IsPut entries entry (put_entry entry entries) → after root ≡ Some (put_entry entry entries) → old_entries trees old ≡ Ok entries → Remain trees after
    → path_at after (n ∷ rest) root ≡ path_from after (n ∷ rest) old
at_other trees after n rest old entries entry root other put there is keeps =
    from_tree after n rest root (put_entry entry entries) there
    ∙ ap (λ (found : Option TreeEntry). step after rest (option_map entry_value found)) (put.others n other)
    ∙ sym (from_old trees after n rest old entries is keeps)

-- below a file
past_file : (after : Trees) (m : List ℕ) (ms : List (List ℕ)) (found : Option TreeEntry) → IsAlike File found → step after (m ∷ ms) (option_map entry_value found) ≡ None
past_file after m ms None alike = refl
past_file after m ms (Some found) alike = ap (λ (b : Bool). no_dir (if b then entry_at after (m ∷ ms) found.id else None)) alike

-- at a directory
at_dir : (found : Option TreeEntry) → IsAlike Dir found → no_dir (option_map entry_value found) ≡ None
at_dir None alike = refl
at_dir (Some found) alike = ap (λ (b : Bool). if b then None else Some (entry_value found)) alike

-- below a directory
in_dir : (after : Trees) (into : Option (List ℕ) → Putting) (m : List ℕ) (ms : List (List ℕ)) (found : Option TreeEntry) (below : NewTrees) → put_below into found ≡ Ok below
    → ((dir : Option (List ℕ)) → into dir ≡ Ok below → path_at after (m ∷ ms) below.root ≡ path_from after (m ∷ ms) dir)
    → path_at after (m ∷ ms) below.root ≡ step after (m ∷ ms) (option_map entry_value found)
in_dir after into m ms None below e kept = kept None e
in_dir after into m ms (Some found) below e kept =
    let parts = below_by (is_dir found.mode) found.id (into (Some found.id)) below e in
    kept (Some found.id) parts.1 ∙ ap (λ (b : Bool). no_dir (if b then entry_at after (m ∷ ms) found.id else None)) (sym parts.0)

-- where the name is the entry's
at_same : (trees after : Trees) (n : List ℕ) (rest : List (List ℕ)) (old : Option (List ℕ)) (entries : List TreeEntry) (entry : TreeEntry) (root : List ℕ) → n ≡ entry.name
    → IsPut entries entry (put_entry entry entries) → after root ≡ Some (put_entry entry entries) → old_entries trees old ≡ Ok entries → Remain trees after
    → step after rest (Some (entry_value entry)) ≡ step after rest (value_in entry.name entries)
    → path_at after (n ∷ rest) root ≡ path_from after (n ∷ rest) old
at_same trees after n rest old entries entry root same put there is keeps kept =
    from_tree after n rest root (put_entry entry entries) there
    ∙ ap (λ (name : List ℕ). step after rest (value_in name (put_entry entry entries))) same
    ∙ ap (λ (found : Option TreeEntry). step after rest (option_map entry_value found)) put.put
    ∙ kept ∙ ap (λ (name : List ℕ). step after rest (value_in name entries)) (sym same)
    ∙ sym (from_old trees after n rest old entries is keeps)

no_names : (after : Trees) (root : List ℕ) (old : Option (List ℕ)) → path_at after [] root ≡ path_from after [] old
no_names after root None = refl
no_names after root (Some id) = refl

-- below a file that is put there is nothing, and there was nothing
last_rest : (after : Trees) (name blob : List ℕ) (rest : List (List ℕ)) (entries : List TreeEntry) → (rest ≡ [] → ⊥) → IsAlike File (entry_named name entries)
    → step after rest (Some (entry_value (entry_of File name blob))) ≡ step after rest (value_in name entries)
last_rest after name blob [] entries some alike = absurd (some refl)
last_rest after name blob (m ∷ ms) entries some alike = sym (past_file after m ms (entry_named name entries) alike)

dir_rest : (after : Trees) (into : Option (List ℕ) → Putting) (name : List ℕ) (rest : List (List ℕ)) (entries : List TreeEntry) (below : NewTrees) → IsAlike Dir (entry_named name entries)
    → put_below into (entry_named name entries) ≡ Ok below
    → ((dir : Option (List ℕ)) → into dir ≡ Ok below → path_at after rest below.root ≡ path_from after rest dir)
    → step after rest (Some (entry_value (entry_of Dir name below.root))) ≡ step after rest (value_in name entries)
dir_rest after into name [] entries below alike e kept = sym (at_dir (entry_named name entries) alike)
dir_rest after into name (m ∷ ms) entries below alike e kept = in_dir after into m ms (entry_named name entries) below e kept

last_others : (trees after : Trees) (others : List (List ℕ)) (old : Option (List ℕ)) (entries : List TreeEntry) (name blob root : List ℕ)
    → IsPut entries (entry_of File name blob) (put_entry (entry_of File name blob) entries) → after root ≡ Some (put_entry (entry_of File name blob) entries) → old_entries trees old ≡ Ok entries
    → Remain trees after → IsAlike File (entry_named name entries) → others ≢ name ∷ [] → path_at after others root ≡ path_from after others old
last_others trees after [] old entries name blob root put there is keeps alike apart = no_names after root old
last_others trees after (n ∷ rest) old entries name blob root put there is keeps alike apart = elim (is_text n name) [
  | inl same ↦
      at_same trees after n rest old entries (entry_of File name blob) root same put there is keeps
      (last_rest after name blob rest entries (λ none. apart (λ i. same i ∷ none i)) alike)
  | inr other ↦ at_other trees after n rest old entries (entry_of File name blob) root other put there is keeps
]

dir_others : (trees after : Trees) (others : List (List ℕ)) (old : Option (List ℕ)) (entries : List TreeEntry) (name : List ℕ) (below : NewTrees) (into : Option (List ℕ) → Putting) (names : List (List ℕ)) (root : List ℕ)
    → IsPut entries (entry_of Dir name below.root) (put_entry (entry_of Dir name below.root) entries) → after root ≡ Some (put_entry (entry_of Dir name below.root) entries) → old_entries trees old ≡ Ok entries
    → Remain trees after → IsAlike Dir (entry_named name entries) → put_below into (entry_named name entries) ≡ Ok below → others ≢ name ∷ names
    → ((rest : List (List ℕ)) → rest ≢ names → (dir : Option (List ℕ)) → into dir ≡ Ok below → path_at after rest below.root ≡ path_from after rest dir)
    → path_at after others root ≡ path_from after others old
dir_others trees after [] old entries name below into names root put there is keeps alike e apart kept = no_names after root old
dir_others trees after (n ∷ rest) old entries name below into names root put there is keeps alike e apart kept = elim (is_text n name) [
  | inl same ↦
      at_same trees after n rest old entries (entry_of Dir name below.root) root same put there is keeps
      (dir_rest after into name rest entries below alike e (kept rest (λ is_rest. apart (λ i. same i ∷ is_rest i))))
  | inr other ↦ at_other trees after n rest old entries (entry_of Dir name below.root) root other put there is keeps
]

pub all_else_kept : (trees : Trees) (blob : List ℕ) (names : List (List ℕ)) (old : Option (List ℕ)) → IsAllElseKept trees blob names old
all_else_kept trees blob [] old = λ made after others read id named some put keeps remain apart. absurd (some refl)
all_else_kept trees blob (name ∷ []) old = λ made after others read id named some put keeps remain apart.
    let opened = opened_at (old_entries trees old) (λ (entries : List TreeEntry). put_last old name blob entries (entry_named name entries)) made put in
    let last = last_made old name blob opened.0 (entry_named name opened.0) made opened.2 in
    let are = old_formed trees read old opened.0 opened.1 in
    let is = put_is (entry_of File name blob) opened.0 named.0 are.formed last.0 in
    last_others trees after others old opened.0 name blob made.root is
    (new_there after opened.0 (entry_of File name blob) old [] made keeps (entries_with (entry_of File name blob) opened.0 named.0 id are is) last.1) opened.1 remain last.0 apart
all_else_kept trees blob (name ∷ next ∷ names) old = λ made after others read id named some put keeps remain apart.
    let into : Option (List ℕ) → Putting = put_file trees blob (next ∷ names) in
    let opened = opened_at (old_entries trees old) (λ (entries : List TreeEntry). put_dir old name entries (put_below into (entry_named name entries))) made put in
    let dir = dir_made old name opened.0 (put_below into (entry_named name opened.0)) made opened.2 in
    let below = below_made into (entry_named name opened.0) dir.0 dir.1 in
    let parts = with_made old dir.0.objects (tree_pair (put_entry (entry_of Dir name dir.0.root) opened.0)) made dir.2 in
    let kept : Keeps after dir.0.objects =
    all_front (KeepsPair after) dir.0.objects (tree_pair (put_entry (entry_of Dir name dir.0.root) opened.0) ∷ []) (subst (AllByRecursion (KeepsPair after)) parts.0 keeps) in
    let are = old_formed trees read old opened.0 opened.1 in
    let is = put_is (entry_of Dir name dir.0.root) opened.0 named.0 are.formed below.0 in
    let root = root_is trees blob (next ∷ names) below.1 dir.0 (λ e. cc e) below.2 in
    dir_others trees after others old opened.0 name dir.0 into (next ∷ names) made.root is
    (new_there after opened.0 (entry_of Dir name dir.0.root) old dir.0.objects made keeps (entries_with (entry_of Dir name dir.0.root) opened.0 named.0 root are is) dir.2) opened.1 remain below.0 dir.1 apart
    (λ rest other d e. all_else_kept trees blob (next ∷ names) d dir.0 after rest read id named.1 (λ none. cc none) e kept remain other)
