-- A file put at a path, by the path's first name.
use Rattle.std.proofs.Common.{◌≡◌, ◌≢◌, ℕ, ◌<◌, ◌≤◌, Bool, true, false, List, [], ◌∷◌, ◌++◌, length, Option, Some, refl, sym, ap, subst, ◌∙◌, append_assoc, arith}
use Rattle.std.specs.Prelude.{Result, Ok, Err, nat_le, if◌then◌else◌}
use Rattle.std.specs.List.{AllByRecursion}
use Rattle.std.proofs.lemmas.Bool.{leb-true, le-leb}
use Rattle.text_reader.specs.Line.{has_byte}
use Rattle.git_object.specs.EntryParts.{entry_of}
use Rattle.git_object.specs.Names.{components}
use Rattle.git_object.specs.Objects.{Pair, object_id, pair_id}
use Rattle.git_object.specs.Repository.{largest_body}
use Rattle.git_object.specs.Trees.{IsEntryName, IsTreeText, entries_text}
use Rattle.git_object.specs.declared.kinds.Kind.TheVariants as kind
use Rattle.git_object.specs.declared.modes.Mode.TheVariants.{Dir}
use Rattle.git_object.specs.declared.trees.TreeEntry.{TreeEntry}
use Rattle.tree_paths.specs.Lookups.{entry_named}
use Rattle.tree_paths.specs.Readings.{Trees}
use Rattle.tree_paths.proofs.PathNames.{cut_parts, plain_parts, some_parts}
use Rattle.object_making.specs.Editing.{put_entry}
use Rattle.approvals.specs.Files.{NewTrees, Putting, in_entries, old_entries, put_below, put_dir, put_file, put_last, tree_pair, with_tree}
use Rattle.approvals.specs.Placing.{IsMade, IsPlaced}
use Rattle.approvals.specs.declared.putting.Placed.{Placed}
use Rattle.approvals.specs.declared.putting.Placed.TheVariants.{InWay, Made}

put_next : (trees : Trees) (blob name : List ℕ) (names : List (List ℕ)) (old : Option (List ℕ)) → names ≢ []
    → put_file trees blob (name ∷ names) old ≡ in_entries (old_entries trees old) (λ entries. put_dir old name entries (put_below (put_file trees blob names) (entry_named name entries)))
put_next trees blob name [] old some = absurd (some refl)
put_next trees blob name (next ∷ names) old some = refl

put_first : (trees : Trees) (blob : List ℕ) (names : List (List ℕ)) (old : Option (List ℕ)) (id : List ℕ) → names ≢ [] → old_entries trees old ≡ Err id → put_file trees blob names old ≡ Err id
put_first trees blob [] old id some is = absurd (some refl)
put_first trees blob (name ∷ []) old id some is = ap (λ (o : Result (List TreeEntry) (List ℕ)). in_entries o (λ entries. put_last old name blob entries (entry_named name entries))) is
put_first trees blob (name ∷ next ∷ names) old id some is =
    ap (λ (o : Result (List TreeEntry) (List ℕ)). in_entries o (λ entries. put_dir old name entries (put_below (put_file trees blob (next ∷ names)) (entry_named name entries)))) is

module _ (trees : Trees) (blob path : List ℕ) (old : Option (List ℕ)) where
  pub old_refused : (id : List ℕ) → old_entries trees old ≡ Err id → put_file trees blob (components path) old ≡ Err id
  old_refused id is = put_first trees blob (components path) old id (some_parts path) is

  pub last_put : (entries : List TreeEntry) (put : Putting) → has_byte 47 path ≡ false → old_entries trees old ≡ Ok entries → put_last old path blob entries (entry_named path entries) ≡ put
      → put_file trees blob (components path) old ≡ put
  last_put entries put plain is last =
      ap (λ (names : List (List ℕ)). put_file trees blob names old) (plain_parts path plain)
      ∙ ap (λ (o : Result (List TreeEntry) (List ℕ)). in_entries o (λ entries. put_last old path blob entries (entry_named path entries))) is ∙ last

  module _ (name rest : List ℕ) (whole : path ≡ name ++ 47 ∷ rest) (plain : has_byte 47 name ≡ false) (entries : List TreeEntry) (is : old_entries trees old ≡ Ok entries) where
    pub split_put : put_file trees blob (components path) old ≡ put_dir old name entries (put_below (put_file trees blob (components rest)) (entry_named name entries))
    split_put =
        ap (λ (names : List (List ℕ)). put_file trees blob names old) (ap components whole ∙ cut_parts name rest plain)
        ∙ put_next trees blob name (components rest) old (some_parts rest)
        ∙ ap (λ (o : Result (List TreeEntry) (List ℕ)). in_entries o (λ entries. put_dir old name entries (put_below (put_file trees blob (components rest)) (entry_named name entries)))) is

    pub below_refused : (id : List ℕ) → put_below (put_file trees blob (components rest)) (entry_named name entries) ≡ Err id → put_file trees blob (components path) old ≡ Err id
    below_refused id refused = split_put ∙ ap (put_dir old name entries) refused

    pub below_put : (below : NewTrees) (put : Putting) → put_below (put_file trees blob (components rest)) (entry_named name entries) ≡ Ok below
        → with_tree old below.objects (tree_pair (put_entry (entry_of Dir name below.root) entries)) ≡ put → put_file trees blob (components path) old ≡ put
    below_put below put made tree = split_put ∙ ap (put_dir old name entries) made ∙ tree

-- ---- a body of more than 16 MiB

abbrev pub fits : Bool → List ℕ → List Pair → Pair → Putting
fits b old below pair = if b then Ok (record { objects = below ++ pair ∷ []; root = pair_id pair }) else Err old

not_within : (m n : ℕ) → n < m → nat_le m n ≡ false
not_within m n more = by_test (nat_le m n) refl
  where
    by_test : (b : Bool) → nat_le m n ≡ b → nat_le m n ≡ false
    by_test true is = let low : m ≤ n = leb-true m n is in absurd (omega arith)
    by_test false is = is

pub too_large : (old : List ℕ) (below : List Pair) (pair : Pair) → largest_body < length pair.body → with_tree (Some old) below pair ≡ Err old
too_large old below pair large = ap (λ (b : Bool). fits b old below pair) (not_within (length pair.body) largest_body large)

pub small_enough : (old : List ℕ) (below : List Pair) (pair : Pair) → length pair.body ≤ largest_body → with_tree (Some old) below pair ≡ Ok (record { objects = below ++ pair ∷ []; root = pair_id pair })
small_enough old below pair small = ap (λ (b : Bool). fits b old below pair) (le-leb (length pair.body) largest_body small)

-- ---- what is answered

pub in_way_at : (placed : Placed) (put : Putting) (before after : List Pair) (id : List ℕ) → placed ≡ InWay id → IsPlaced placed put before after → put ≡ Err id
in_way_at placed put before after id is h = subst (λ (p : Placed). IsPlaced p put before after) is h

pub made_at : (placed : Placed) (put : Putting) (before after : List Pair) (root : List ℕ) → placed ≡ Made root → IsPlaced placed put before after → IsMade put before after root
made_at placed put before after root is h = subst (λ (p : Placed). IsPlaced p put before after) is h

pub last_placed : (trees : Trees) (blob path : List ℕ) (old : Option (List ℕ)) (placed : Placed) (before after : List Pair) (entries : List TreeEntry) → has_byte 47 path ≡ false → old_entries trees old ≡ Ok entries
    → IsPlaced placed (put_last old path blob entries (entry_named path entries)) before after → IsPlaced placed (put_file trees blob (components path) old) before after
last_placed trees blob path old placed before after entries plain is h =
    subst (λ (put : Putting). IsPlaced placed put before after) (sym (last_put trees blob path old entries (put_last old path blob entries (entry_named path entries)) plain is refl)) h

pub below_placed : (trees : Trees) (blob path : List ℕ) (old : Option (List ℕ)) (name rest : List ℕ) (whole : path ≡ name ++ 47 ∷ rest) (plain : has_byte 47 name ≡ false)
    (entries : List TreeEntry) (is : old_entries trees old ≡ Ok entries) (dir : Option (List ℕ)) (id name' : List ℕ) (entries' : List TreeEntry) (placed : Placed) (before mid after : List Pair)
    → name' ≡ name → entries' ≡ entries → put_below (put_file trees blob (components rest)) (entry_named name entries) ≡ put_file trees blob (components rest) dir
    → (made : IsMade (put_file trees blob (components rest) dir) before mid id)
    → IsPlaced placed (with_tree old made.made (tree_pair (put_entry (entry_of Dir name' id) entries'))) before after
    → IsPlaced placed (put_file trees blob (components path) old) before after
below_placed trees blob path old name rest whole plain entries is dir id name' entries' placed before mid after same_name same_entries found made h =
    let Is : Putting → Type 0 = λ put. IsPlaced placed put before after in
    let all : put_file trees blob (components path) old ≡ with_tree old made.made (tree_pair (put_entry (entry_of Dir name id) entries)) =
    below_put trees blob path old name rest whole plain entries is (record { objects = made.made; root = id })
    (with_tree old made.made (tree_pair (put_entry (entry_of Dir name id) entries))) (found ∙ made.put_is) refl in
    subst Is (sym all) (subst Is (λ i. with_tree old made.made (tree_pair (put_entry (entry_of Dir (same_name i) id) (same_entries i)))) h)

-- ---- a tree that is made

pub tree_made : (old : Option (List ℕ)) (put list : List TreeEntry) (body root : List ℕ) (before below was now : List Pair) → list ≡ put → IsTreeText (record { entries = list }) body
    → ((below : List Pair) (pair : Pair) → pair.body ≡ body → with_tree old below pair ≡ Ok (record { objects = below ++ pair ∷ []; root = pair_id pair }))
    → root ≡ object_id kind.Tree body → now ≡ was ++ record { kind = kind.Tree; body = body } ∷ [] → was ≡ before ++ below
    → IsMade (with_tree old below (tree_pair put)) before now root
tree_made old put list body root before below was now same text fits_in id added whole =
    let bytes : entries_text put ≡ body = sym (text.text ∙ ap entries_text same) in
    let root_is : object_id kind.Tree (entries_text put) ≡ root = ap (object_id kind.Tree) bytes ∙ sym id in
    let last : (record { kind = kind.Tree; body = body }) ∷ [] ≡ tree_pair put ∷ [] = λ i. (record { kind = kind.Tree; body = sym bytes i }) ∷ [] in
    record {
      made = below ++ tree_pair put ∷ [];
      put_is = fits_in below (tree_pair put) bytes ∙ (λ i. Ok (record { objects = below ++ tree_pair put ∷ []; root = root_is i }));
      added = added ∙ (λ i. whole i ++ last i) ∙ append_assoc before below (tree_pair put ∷ []);
    }

-- ---- the names of a path

pub last_named : (path : List ℕ) → has_byte 47 path ≡ false → AllByRecursion IsEntryName (components path) → IsEntryName path
last_named path plain all = (subst (AllByRecursion IsEntryName) (plain_parts path plain) all).0

pub first_named : (path name rest : List ℕ) → path ≡ name ++ 47 ∷ rest → has_byte 47 name ≡ false → AllByRecursion IsEntryName (components path)
    → IsEntryName name × AllByRecursion IsEntryName (components rest)
first_named path name rest whole plain all = subst (AllByRecursion IsEntryName) (ap components whole ∙ cut_parts name rest plain) all
