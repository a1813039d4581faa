-- The trees of a demonstration are well formed.
use Rattle.std.proofs.Common.{◌≡◌, ◌≢◌, ◌+◌, ◌%◌, ◌<◌, ◌^◌, ◌==◌, ◌||◌, ℕ, suc, zero, Bool, true, false, cond, List, [], ◌∷◌, slice_index, Option, Some, None, refl, ap, arith}
use Rattle.std.specs.Prelude.{codes, decimal}
use Rattle.std.specs.List.{AllByRecursion}
use Rattle.std.specs.Str.{bytes_eq}
use Rattle.std.specs.declared.cmp.Ordering.TheVariants.{Less}
use Rattle.std.proofs.lemmas.Bool.{ne_eqb}
use Rattle.std.proofs.lemmas.Fmt.{decimal_by_steps}
use Rattle.octets.specs.BytesMap.{by_bytes}
use Rattle.text_reader.specs.Line.{has_byte}
use Rattle.text_reader.proofs.Unique.{no_byte}
use Rattle.git_object.specs.EntryParts.{entry_of}
use Rattle.git_object.specs.Trees.{AreWellFormed, IsEntryName, sort_key}
use Rattle.git_object.specs.declared.modes.Mode.{Mode}
use Rattle.git_object.specs.declared.modes.Mode.TheVariants.{Dir, File}
use Rattle.git_object.specs.declared.trees.TreeEntry.{TreeEntry}
use Rattle.tree_paths.specs.Lookups.{entry_named}
use Rattle.tree_paths.specs.Walks.{is_dir}
use Rattle.object_making.specs.Named.{IsAlike}
use Rattle.object_making.proofs.InOrder.{put_all, put_is}
use Rattle.demo.specs.Trees.{file_name, number_id, root_entries, src_after}

-- ---- names

-- no such byte stands in a decimal number
one_digit : (c d : ℕ) → c < 48 → has_byte c ((48 + d) ∷ []) ≡ false
one_digit c d small = let other : (48 + d == c) ≡ false = ne_eqb (48 + d) c (λ e. omega arith) in ap (λ (t : Bool). t || false) other

no_digit : (c n : ℕ) → c < 48 → n < 2 ^ 64 → has_byte c (decimal n) ≡ false
no_digit c n small fits =
    decimal_by_steps (λ m digits. has_byte c digits ≡ false) (λ m h. one_digit c m small)
    (λ m digits h before. no_byte c digits ((48 + m % 10) ∷ []) before (one_digit c (m % 10) small)) n fits

-- a name that begins with no dot
plain_name : (c : ℕ) (rest : List ℕ) → (c ≡ 46 → ⊥) → has_byte 47 (c ∷ rest) ≡ false → has_byte 0 (c ∷ rest) ≡ false → IsEntryName (c ∷ rest)
plain_name c rest other no_slash no_zero = record {
  some = λ e. not_empty e;
  no_slash = no_slash;
  no_zero = no_zero;
  no_dot = λ e. other (ap (λ (u : List ℕ). slice_index u 0) e);
  no_dots = λ e. other (ap (λ (u : List ℕ). slice_index u 0) e);
  no_git = λ e. other (ap (λ (u : List ℕ). slice_index u 0) e);
}
  where
    not_empty : (c ∷ rest) ≡ [] → ⊥
    not_empty e = cc

pub file_named : (j : ℕ) → IsEntryName (file_name j)
file_named j = plain_name 102 (decimal (j % 64)) (λ e. omega arith) (no_digit 47 (j % 64) (omega arith) (omega arith)) (no_digit 0 (j % 64) (omega arith) (omega arith))

-- ---- the directory src/

abbrev IsFile : TreeEntry → Type 0
IsFile entry = entry.mode ≡ File

alike : (name : List ℕ) (entries : List TreeEntry) → AllByRecursion IsFile entries → IsAlike File (entry_named name entries)
alike name [] all = tt
alike name (first ∷ rest) all = by (bytes_eq first.name name) (alike name rest all.1)
  where
    by : (b : Bool) → IsAlike File (entry_named name rest) → IsAlike File (cond b (Some first) (entry_named name rest))
    by true later = ap is_dir all.0
    by false later = later

src_made : (j : ℕ) → AreWellFormed (src_after j) × AllByRecursion IsFile (src_after j)
unfolding src_after
src_made zero = (record { named = tt; ordered = tt }, tt)
src_made (suc j) =
    let entry : TreeEntry = entry_of File (file_name (suc j)) (number_id (suc j)) in
    let before = src_made j in (
      (put_is entry (src_after j) (file_named (suc j)) before.0 (alike (file_name (suc j)) (src_after j) before.1)).formed,
      put_all entry (file_named (suc j)) IsFile (src_after j) refl before.1,
    )

pub src_formed : (j : ℕ) → AreWellFormed (src_after j)
src_formed j = (src_made j).0

-- ---- the others

formed_one : (mode : Mode) (name id : List ℕ) → IsEntryName name → AreWellFormed (entry_of mode name id ∷ [])
formed_one mode name id named = record { named = (named, tt); ordered = (tt, tt) }

formed_two : (a b : TreeEntry) → IsEntryName a.name → IsEntryName b.name → by_bytes (sort_key a) (sort_key b) ≡ Less → a.name ≢ b.name → AreWellFormed (a ∷ b ∷ [])
formed_two a b first second rising other = record { named = (first, (second, tt)); ordered = ((record { rising = rising; other = other }, tt), (tt, tt)) }

keys_named : IsEntryName (codes "keys")
keys_named = plain_name 107 (codes "eys") (λ e. omega arith) refl refl

src_named : IsEntryName (codes "src")
src_named = plain_name 115 (codes "rc") (λ e. omega arith) refl refl

apart : (c d : ℕ) (a b : List ℕ) → (c ≡ d → ⊥) → (c ∷ a) ≢ (d ∷ b)
apart c d a b other e = other (ap (λ (u : List ℕ). slice_index u 0) e)

pub root_formed : (keys : Option (List ℕ)) (src : List ℕ) → AreWellFormed (root_entries keys src)
root_formed None src = formed_one Dir (codes "src") src src_named
root_formed (Some keys) src =
    formed_two (entry_of Dir (codes "keys") keys) (entry_of Dir (codes "src") src) keys_named src_named refl (apart 107 115 (codes "eys") (codes "rc") (λ e. omega arith))

pub key_formed : (id : List ℕ) → AreWellFormed (entry_of File (codes "k") id ∷ [])
key_formed id = formed_one File (codes "k") id (plain_name 107 [] (λ e. omega arith) refl refl)

pub policy_formed : (id : List ℕ) → AreWellFormed (entry_of Dir (codes "metadata") id ∷ [])
policy_formed id = formed_one Dir (codes "metadata") id (plain_name 109 (codes "etadata") (λ e. omega arith) refl refl)

pub metadata_formed : (root top : List ℕ) → AreWellFormed (entry_of File (codes "root.json") root ∷ entry_of File (codes "targets.json") top ∷ [])
metadata_formed root top =
    formed_two (entry_of File (codes "root.json") root) (entry_of File (codes "targets.json") top)
    (plain_name 114 (codes "oot.json") (λ e. omega arith) refl refl) (plain_name 116 (codes "argets.json") (λ e. omega arith) refl refl)
    refl (apart 114 116 (codes "oot.json") (codes "argets.json") (λ e. omega arith))
