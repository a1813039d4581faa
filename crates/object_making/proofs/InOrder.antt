-- A tree with one entry put in its place is in Git's order, and has what it had under every other name.
use Rattle.std.proofs.Common.{◌≡◌, ◌≢◌, ◌⊎◌, inl, inr, ℕ, ◌==◌, ◌||◌, Bool, true, false, List, [], ◌∷◌, ◌++◌, Option, Some, refl, sym, ap, subst, ◌∙◌}
use Rattle.std.specs.Prelude.{if◌then◌else◌}
use Rattle.std.specs.FinMap.{nat_cmp-IsAntisymmetric, slice_cmp-IsAntisymmetric}
use Rattle.std.specs.List.{AllByRecursion}
use Rattle.std.specs.Ordering.{ordering_reverse}
use Rattle.std.specs.Str.{bytes_eq}
use Rattle.std.specs.declared.cmp.Ordering.{Ordering}
use Rattle.std.specs.declared.cmp.Ordering.TheVariants.{Less, Equal, Greater}
use Rattle.std.proofs.lemmas.Bool.{false≢true, true≢false}
use Rattle.std.proofs.lemmas.Cmp.{nat_list_cmp_total}
use Rattle.std.proofs.lemmas.List.{append-nil}
use Rattle.std.proofs.lemmas.List.Folds.{list_any-append}
use Rattle.std.proofs.lemmas.Slice.Eq.{bytes_eq-Decides}
use Rattle.octets.specs.BytesMap.{by_bytes}
use Rattle.text_reader.specs.Line.{has_byte}
use Rattle.text_reader.proofs.Unique.{same_until}
use Rattle.git_object.specs.Modes.{key_end}
use Rattle.git_object.specs.Trees.{AreInOrder, AreWellFormed, IsEntryName, Precedes, sort_key}
use Rattle.git_object.specs.declared.modes.Mode.{Mode}
use Rattle.git_object.specs.declared.modes.Mode.TheVariants.{Dir, Exec, File, Link, Module}
use Rattle.git_object.specs.declared.trees.TreeEntry.{TreeEntry}
use Rattle.tree_paths.specs.Lookups.{entry_named}
use Rattle.tree_paths.specs.Walks.{is_dir}
use Rattle.object_making.specs.Editing.{IsPut, place, put_entry}
use Rattle.object_making.specs.Named.{IsAlike}

-- ---- the order of bytes

less_other : (a b : List ℕ) → by_bytes a b ≡ Less → a ≢ b
less_other a b less same =
    let self : by_bytes a a ≡ Less = subst (λ (x : List ℕ). by_bytes a x ≡ Less) (sym same) less in
    let clash : Less ≡ Greater = sym self ∙ nat_list_cmp_total.antisymm a a ∙ ap ordering_reverse self in cc

flip : (a b : List ℕ) → by_bytes a b ≡ Greater → by_bytes b a ≡ Less
flip a b greater = nat_list_cmp_total.antisymm b a ∙ ap ordering_reverse greater

same_bytes : (a b : List ℕ) → by_bytes a b ≡ Equal → a ≡ b
same_bytes a b e = slice_cmp-IsAntisymmetric nat_cmp-IsAntisymmetric a b e

-- ---- names and keys

ends_alike : (m n : Mode) → is_dir m ≡ is_dir n → key_end m ≡ key_end n
ends_alike Dir Dir e = refl
ends_alike Dir File e = absurd (true≢false e)
ends_alike Dir Exec e = absurd (true≢false e)
ends_alike Dir Link e = absurd (true≢false e)
ends_alike Dir Module e = absurd (true≢false e)
ends_alike File Dir e = absurd (false≢true e)
ends_alike File File e = refl
ends_alike File Exec e = refl
ends_alike File Link e = refl
ends_alike File Module e = refl
ends_alike Exec Dir e = absurd (false≢true e)
ends_alike Exec File e = refl
ends_alike Exec Exec e = refl
ends_alike Exec Link e = refl
ends_alike Exec Module e = refl
ends_alike Link Dir e = absurd (false≢true e)
ends_alike Link File e = refl
ends_alike Link Exec e = refl
ends_alike Link Link e = refl
ends_alike Link Module e = refl
ends_alike Module Dir e = absurd (false≢true e)
ends_alike Module File e = refl
ends_alike Module Exec e = refl
ends_alike Module Link e = refl
ends_alike Module Module e = refl

slash_inside : (a x : List ℕ) → has_byte 47 (a ++ 47 ∷ x) ≡ true
slash_inside a x = list_any-append (λ (b : ℕ). b == 47) a (47 ∷ x) ∙ or_true (has_byte 47 a)
  where
    or_true : (b : Bool) → (b || true) ≡ true
    or_true true = refl
    or_true false = refl

-- names without a slash that have one key are one
by_ends : (m n : Mode) (a b : List ℕ) → has_byte 47 a ≡ false → has_byte 47 b ≡ false → (k l : List ℕ) → (k ≡ []) ⊎ (k ≡ 47 ∷ []) → (l ≡ []) ⊎ (l ≡ 47 ∷ []) → a ++ k ≡ b ++ l → a ≡ b
by_ends m n a b p q k l ends others e = elim ends [
  | inl none ↦ elim others [
    | inl nothing ↦ sym (append-nil a) ∙ ap (λ (x : List ℕ). a ++ x) (sym none) ∙ e ∙ ap (λ (x : List ℕ). b ++ x) nothing ∙ append-nil b
    | inr slash ↦
        let is : a ≡ b ++ 47 ∷ [] = sym (append-nil a) ∙ ap (λ (x : List ℕ). a ++ x) (sym none) ∙ e ∙ ap (λ (x : List ℕ). b ++ x) slash in
        absurd (true≢false (sym (ap (has_byte 47) is ∙ slash_inside b []) ∙ p))
  ]
  | inr slash ↦ elim others [
    | inl nothing ↦
        let is : b ≡ a ++ 47 ∷ [] = sym (append-nil b) ∙ ap (λ (x : List ℕ). b ++ x) (sym nothing) ∙ sym e ∙ ap (λ (x : List ℕ). a ++ x) slash in
        absurd (true≢false (sym (ap (has_byte 47) is ∙ slash_inside a []) ∙ q))
    | inr too ↦ (same_until 47 a b [] [] p q (ap (λ (x : List ℕ). a ++ x) (sym slash) ∙ e ∙ ap (λ (x : List ℕ). b ++ x) too)).0
  ]
]

one_end : (m : Mode) → (key_end m ≡ []) ⊎ (key_end m ≡ 47 ∷ [])
one_end Dir = inr refl
one_end File = inl refl
one_end Exec = inl refl
one_end Link = inl refl
one_end Module = inl refl

same_name : (e f : TreeEntry) → IsEntryName e.name → IsEntryName f.name → sort_key e ≡ sort_key f → e.name ≡ f.name
same_name e f a b same = by_ends e.mode f.mode e.name f.name a.no_slash b.no_slash (key_end e.mode) (key_end f.mode) (one_end e.mode) (one_end f.mode) same

-- where an entry of the name has its kind
abbrev Alike : TreeEntry → TreeEntry → Type 0
Alike e x = x.name ≡ e.name → key_end x.mode ≡ key_end e.mode

alike_key : (e x : TreeEntry) → Alike e x → x.name ≡ e.name → sort_key x ≡ sort_key e
alike_key e x alike same = λ i. same i ++ alike same i

-- ---- what is found under a name

pub not_same : (a b : List ℕ) → a ≢ b → bytes_eq a b ≡ false
not_same a b other = by_test (bytes_eq a b) refl
  where
    by_test : (t : Bool) → bytes_eq a b ≡ t → bytes_eq a b ≡ false
    by_test true is = absurd (other ((bytes_eq-Decides a b).0 is))
    by_test false is = is

find_first : (name : List ℕ) (x : TreeEntry) (xs : List TreeEntry) → x.name ≡ name → entry_named name (x ∷ xs) ≡ Some x
find_first name x xs same = ap (λ (b : Bool). if b then Some x else entry_named name xs) ((bytes_eq-Decides x.name name).1 same)

find_later : (name : List ℕ) (x : TreeEntry) (xs : List TreeEntry) → x.name ≢ name → entry_named name (x ∷ xs) ≡ entry_named name xs
find_later name x xs other = ap (λ (b : Bool). if b then Some x else entry_named name xs) (not_same x.name name other)

-- ---- the place of an entry

module _ (e : TreeEntry) (named : IsEntryName e.name) where
  -- an entry of another key has another name
  apart : (x : TreeEntry) → Alike e x → by_bytes (sort_key e) (sort_key x) ≡ Less → e.name ≢ x.name
  apart x alike less same = less_other (sort_key e) (sort_key x) less (sym (alike_key e x alike (sym same)))

  apart_after : (x : TreeEntry) → Alike e x → by_bytes (sort_key x) (sort_key e) ≡ Less → x.name ≢ e.name
  apart_after x alike less same = less_other (sort_key x) (sort_key e) less (alike_key e x alike same)

  before_all : (xs : List TreeEntry) → AllByRecursion (Alike e) xs → AllByRecursion (λ x. by_bytes (sort_key e) (sort_key x) ≡ Less) xs → AllByRecursion (Precedes e) xs
  before_all [] alike less = tt
  before_all (x ∷ xs) alike less = (record { rising = less.0; other = apart x alike.0 less.0 }, before_all xs alike.1 less.1)

  less_all : (x : TreeEntry) (xs : List TreeEntry) → by_bytes (sort_key e) (sort_key x) ≡ Less → AllByRecursion (Precedes x) xs
      → AllByRecursion (λ y. by_bytes (sort_key e) (sort_key y) ≡ Less) xs
  less_all x [] less all = tt
  less_all x (y ∷ xs) less all = (nat_list_cmp_total.trans (sort_key e) (sort_key x) (sort_key y) less all.0.rising, less_all x xs less all.1)

  same_all : (x : TreeEntry) (xs : List TreeEntry) → by_bytes (sort_key e) (sort_key x) ≡ Equal → AllByRecursion (Precedes x) xs
      → AllByRecursion (λ y. by_bytes (sort_key e) (sort_key y) ≡ Less) xs
  same_all x [] same all = tt
  same_all x (y ∷ xs) same all =
      (nat_list_cmp_total.congr (sort_key e) (sort_key x) (sort_key y) same ∙ all.0.rising, same_all x xs same all.1)

  -- what holds of an entry and of all others holds of all with it among them
  pub put_all : (P : TreeEntry → Type 0) (xs : List TreeEntry) → P e → AllByRecursion P xs → AllByRecursion P (put_entry e xs)
  put_all P [] here all = (here, tt)
  put_all P (x ∷ xs) here all = by_order (by_bytes (sort_key e) (sort_key x)) (put_all P xs here all.1)
    where
      by_order : (o : Ordering) → AllByRecursion P (put_entry e xs) → AllByRecursion P (place o e x xs (put_entry e xs))
      by_order Less rest = (here, all)
      by_order Equal rest = (here, all.1)
      by_order Greater rest = (all.0, rest)

  put_ordered : (xs : List TreeEntry) → AllByRecursion (Alike e) xs → AreInOrder xs → AreInOrder (put_entry e xs)
  put_ordered [] alike ordered = (tt, tt)
  put_ordered (x ∷ xs) alike ordered = by_order (by_bytes (sort_key e) (sort_key x)) refl (put_ordered xs alike.1 ordered.1)
    where
      by_order : (o : Ordering) → by_bytes (sort_key e) (sort_key x) ≡ o → AreInOrder (put_entry e xs) → AreInOrder (place o e x xs (put_entry e xs))
      by_order Less is rest = (before_all (x ∷ xs) alike (is, less_all x xs is ordered.0), ordered)
      by_order Equal is rest = (before_all xs alike.1 (same_all x xs is ordered.0), ordered.1)
      by_order Greater is rest =
          let less = flip (sort_key e) (sort_key x) is in
          (put_all (Precedes x) xs (record { rising = less; other = apart_after x alike.0 less }) ordered.0, rest)

  put_found : (xs : List TreeEntry) → AllByRecursion (Alike e) xs → entry_named e.name (put_entry e xs) ≡ Some e
  put_found [] alike = find_first e.name e [] refl
  put_found (x ∷ xs) alike = by_order (by_bytes (sort_key e) (sort_key x)) refl (put_found xs alike.1)
    where
      by_order : (o : Ordering) → by_bytes (sort_key e) (sort_key x) ≡ o → entry_named e.name (put_entry e xs) ≡ Some e
          → entry_named e.name (place o e x xs (put_entry e xs)) ≡ Some e
      by_order Less is rest = find_first e.name e (x ∷ xs) refl
      by_order Equal is rest = find_first e.name e xs refl
      by_order Greater is rest = find_later e.name x (put_entry e xs) (apart_after x alike.0 (flip (sort_key e) (sort_key x) is)) ∙ rest

  put_others : (xs : List TreeEntry) → AllByRecursion (λ x. IsEntryName x.name) xs → (name : List ℕ) → name ≢ e.name → entry_named name (put_entry e xs) ≡ entry_named name xs
  put_others [] all name other = find_later name e [] (λ same. other (sym same))
  put_others (x ∷ xs) all name other = by_order (by_bytes (sort_key e) (sort_key x)) refl (put_others xs all.1 name other)
    where
      not_here : e.name ≢ name
      not_here same = other (sym same)

      by_order : (o : Ordering) → by_bytes (sort_key e) (sort_key x) ≡ o → entry_named name (put_entry e xs) ≡ entry_named name xs
          → entry_named name (place o e x xs (put_entry e xs)) ≡ entry_named name (x ∷ xs)
      by_order Less is rest = find_later name e (x ∷ xs) not_here
      by_order Equal is rest =
          let same = same_name e x named all.0 (same_bytes (sort_key e) (sort_key x) is) in
          find_later name e xs not_here ∙ sym (find_later name x xs (λ there. not_here (same ∙ there)))
      by_order Greater is rest = ap (λ (r : Option TreeEntry). if bytes_eq x.name name then Some x else r) rest

-- ---- entries that are alike

-- an entry of the name is the one that is found under it
alike_all : (e : TreeEntry) (mode : Mode) (xs : List TreeEntry) → e.mode ≡ mode → AreInOrder xs → IsAlike mode (entry_named e.name xs) → AllByRecursion (Alike e) xs
alike_all e mode [] is ordered found = tt
alike_all e mode (x ∷ xs) is ordered found = by_test (λ later. alike_all e mode xs is ordered.1 later) (bytes_eq x.name e.name) refl
  where
    others : (ys : List TreeEntry) → x.name ≡ e.name → AllByRecursion (Precedes x) ys → AllByRecursion (Alike e) ys
    others [] same all = tt
    others (y ∷ ys) same all = (λ there. absurd (all.0.other (same ∙ sym there)), others ys same all.1)

    by_test : (IsAlike mode (entry_named e.name xs) → AllByRecursion (Alike e) xs) → (b : Bool) → bytes_eq x.name e.name ≡ b → AllByRecursion (Alike e) (x ∷ xs)
    by_test next true is_name =
        let same = (bytes_eq-Decides x.name e.name).0 is_name in
        let here : is_dir x.mode ≡ is_dir mode = subst (IsAlike mode) (find_first e.name x xs same) found in
        ((λ _. ends_alike x.mode e.mode (here ∙ ap is_dir (sym is))), others xs same ordered.0)
    by_test next false other =
        let apart_here : x.name ≢ e.name = λ same. false≢true (sym other ∙ (bytes_eq-Decides x.name e.name).1 same) in
        ((λ same. absurd (apart_here same)), next (subst (IsAlike mode) (find_later e.name x xs apart_here) found))

-- an entry that is well named and has its kind, if the name stands there, is put in Git's order, and nothing else is changed
pub put_is : (e : TreeEntry) (xs : List TreeEntry) → IsEntryName e.name → AreWellFormed xs → IsAlike e.mode (entry_named e.name xs) → IsPut xs e (put_entry e xs)
put_is e xs named formed found =
    let alike = alike_all e e.mode xs refl formed.ordered found in
    record {
      formed = record { named = put_all e named (λ (x : TreeEntry). IsEntryName x.name) xs named formed.named; ordered = put_ordered e named xs alike formed.ordered };
      put = put_found e named xs alike;
      others = put_others e named xs formed.named;
    }
