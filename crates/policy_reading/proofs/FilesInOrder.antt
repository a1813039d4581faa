-- The files of a directory stand in their order.
use Rattle.std.proofs.Common.{◌≡◌, ◌≢◌, ℕ, Bool, true, false, cond, not, List, [], ◌∷◌, ◌++◌, Option, Some, None, refl, sym, ap, ◌∙◌, inl, inr, map}
use Rattle.std.specs.Prelude.{codes}
use Rattle.std.specs.BTreeMap.{insert_entry}
use Rattle.std.specs.List.{AllByRecursion, cons_option, find}
use Rattle.std.specs.List.Sorted.{IsStrictlySortedBy}
use Rattle.std.specs.Map.{keys_of}
use Rattle.std.specs.Option.{option_map}
use Rattle.std.specs.Ordering.{match_ordering, ordering_reverse}
use Rattle.std.specs.Str.{bytes_eq}
use Rattle.std.specs.declared.cmp.Ordering.{Ordering}
use Rattle.std.specs.declared.cmp.Ordering.TheVariants.{Less, Equal, Greater}
use Rattle.std.proofs.lemmas.Bool.{and_parts, true≢false}
use Rattle.std.proofs.lemmas.Cmp.{nat_list_cmp_total}
use Rattle.std.proofs.lemmas.Slice.Eq.{bytes_eq-Decides}
use Rattle.octets.specs.BytesMap.{by_bytes}
use Rattle.git_object.specs.declared.trees.TreeEntry.{TreeEntry}
use Rattle.policy_reading.specs.Metadata.{file_at, is_below_top, is_called, is_other, is_policy_file, put_file, put_files, rule_files, stem_of, top_at}
use Rattle.policy_reading.specs.Orders.{AreBelowTop, AreInOrder}
use Rattle.policy_reading.specs.declared.found_files.FileAt.{FileAt}

all_more : (P Q : List ℕ → Type 0) → ((name : List ℕ) → P name → Q name) → (names : List (List ℕ)) → AllByRecursion P names → AllByRecursion Q names
all_more P Q more [] all = tt
all_more P Q more (name ∷ names) all = (more name all.0, all_more P Q more names all.1)

-- what holds of each key holds of each after an entry is put
all_put : (P : List ℕ → Type 0) (es : List (List ℕ × List ℕ)) (k v : List ℕ) → AllByRecursion P (keys_of es) → P k → AllByRecursion P (keys_of (insert_entry by_bytes es k v))
all_put P [] k v all here = (here, tt)
all_put P (e ∷ es) k v all here = by_order (by_bytes k e.0) (all_put P es k v all.1 here) where
  by_order : (o : Ordering) → AllByRecursion P (keys_of (insert_entry by_bytes es k v)) → AllByRecursion P (keys_of (match_ordering o ((k, v) ∷ e ∷ es) ((e.0, v) ∷ es) (e ∷ insert_entry by_bytes es k v)))
  by_order Less more = (here, all)
  by_order Equal more = all
  by_order Greater more = (all.0, more)

sorted_put : (es : List (List ℕ × List ℕ)) (k v : List ℕ) → IsStrictlySortedBy by_bytes (keys_of es) → IsStrictlySortedBy by_bytes (keys_of (insert_entry by_bytes es k v))
unfolding IsStrictlySortedBy
sorted_put [] k v sorted = (tt, tt)
sorted_put (e ∷ es) k v sorted = by_order (by_bytes k e.0) refl (sorted_put es k v sorted.1) where
  by_order : (o : Ordering) → by_bytes k e.0 ≡ o → IsStrictlySortedBy by_bytes (keys_of (insert_entry by_bytes es k v))
      → IsStrictlySortedBy by_bytes (keys_of (match_ordering o ((k, v) ∷ e ∷ es) ((e.0, v) ∷ es) (e ∷ insert_entry by_bytes es k v)))
  by_order Less h more = ((h, all_more (λ y. by_bytes e.0 y ≡ Less) (λ y. by_bytes k y ≡ Less) (λ y less. nat_list_cmp_total.trans k e.0 y h less) (keys_of es) sorted.0), sorted)
  by_order Equal h more = sorted
  by_order Greater h more = (all_put (λ y. by_bytes e.0 y ≡ Less) es k v sorted.0 (nat_list_cmp_total.antisymm e.0 k ∙ ap ordering_reverse h), more)

-- ---- the files of a directory

not_top : (entry : TreeEntry) → is_below_top entry ≡ true → stem_of entry.name ≢ codes "targets"
not_top entry is same =
    let other = (and_parts (is_policy_file entry) (is_other (stem_of entry.name)) is).1 in
    let no = (and_parts (not (bytes_eq (stem_of entry.name) (codes "root"))) (not (bytes_eq (stem_of entry.name) (codes "targets"))) other).1 in
    true≢false (sym no ∙ ap not ((bytes_eq-Decides (stem_of entry.name) (codes "targets")).1 same))

below_put : (found : List (List ℕ × List ℕ)) (entry : TreeEntry) → AreBelowTop (keys_of found) → AreBelowTop (keys_of (put_file found entry))
below_put found entry below = by_test (is_below_top entry) refl where
  by_test : (b : Bool) → is_below_top entry ≡ b → AreBelowTop (keys_of (cond b (insert_entry by_bytes found (stem_of entry.name) entry.id) found))
  by_test true is = record {
    rising = sorted_put found (stem_of entry.name) entry.id below.rising;
    others = all_put (λ name. name ≢ codes "targets") found (stem_of entry.name) entry.id below.others (not_top entry is);
  }
  by_test false is = below

below_puts : (found : List (List ℕ × List ℕ)) (entries : List TreeEntry) → AreBelowTop (keys_of found) → AreBelowTop (keys_of (put_files found entries))
below_puts found [] below = below
below_puts found (entry ∷ entries) below = below_puts (put_file found entry) entries (below_put found entry below)

stems_at : (es : List (List ℕ × List ℕ)) → map (λ at. at.stem) (map file_at es) ≡ keys_of es
stems_at [] = refl
stems_at (e ∷ es) = ap (λ more. e.0 ∷ more) (stems_at es)

none_below : AreBelowTop []
unfolding IsStrictlySortedBy
none_below = record { rising = tt; others = tt }

pub files_in_order : (entries : List TreeEntry) → AreInOrder (map (λ at. at.stem) (rule_files entries))
unfolding rule_files
files_in_order entries = by_top (find (is_called (codes "targets")) entries) where
  by_top : (top : Option TreeEntry) → AreInOrder (map (λ (at : FileAt). at.stem) (cons_option (option_map top_at top) [] ++ map file_at (put_files [] entries)))
  by_top None = record { rest = keys_of (put_files [] entries); below = below_puts [] entries none_below; first = inl (stems_at (put_files [] entries)) }
  by_top (Some top) = record { rest = keys_of (put_files [] entries); below = below_puts [] entries none_below; first = inr (ap (λ more. codes "targets" ∷ more) (stems_at (put_files [] entries))) }
