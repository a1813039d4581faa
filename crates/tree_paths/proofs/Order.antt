-- The order of bytes along a walk: what an entry leads to stands before what a later entry leads to, also one of
-- another tree.
use Rattle.std.proofs.Common.{◌≡◌, ℕ, suc, zero, ◌==◌, ◌||◌, Bool, true, false, List, [], ◌∷◌, ◌++◌, refl, sym, ap, subst, ◌∙◌, append_assoc}
use Rattle.std.specs.Cmp.{nat_cmp_total, tied_itself}
use Rattle.std.specs.FinMap.{nat_cmp-IsAntisymmetric}
use Rattle.std.specs.List.{AllByRecursion}
use Rattle.std.specs.Ordering.{nat_cmp, ordering_reverse, ordering_then}
use Rattle.std.specs.declared.cmp.Ordering.{Ordering}
use Rattle.std.specs.declared.cmp.Ordering.TheVariants.{Less, Equal, Greater}
use Rattle.std.proofs.lemmas.Bool.{false≢true, true≢false}
use Rattle.std.proofs.lemmas.Cmp.{nat_list_cmp_total}
use Rattle.std.proofs.lemmas.List.{append-nil}
use Rattle.std.proofs.lemmas.List.Folds.{list_any-append}
use Rattle.octets.specs.BytesMap.{by_bytes}
use Rattle.text_reader.specs.Line.{has_byte}
use Rattle.text_reader.proofs.Unique.{same_until}
use Rattle.git_object.specs.Modes.{key_end}
use Rattle.git_object.specs.Trees.{AreWellFormed, IsEntryName, Precedes, sort_key}
use Rattle.git_object.specs.declared.modes.Mode.{Mode}
use Rattle.git_object.specs.declared.modes.Mode.TheVariants.{Dir, Exec, File, Link, Module}
use Rattle.git_object.specs.declared.trees.TreeEntry.{TreeEntry}
use Rattle.tree_paths.specs.Readings.{Trees}
use Rattle.tree_paths.specs.Walks.{Step, below, entry_steps, is_dir, listed, place_of, steps}
use Rattle.tree_paths.specs.Pairings.{place}
use Rattle.tree_paths.specs.Places.{Before}
use Rattle.tree_paths.proofs.Judging.{piece_of, steps_zero, steps_suc}
use Rattle.tree_paths.proofs.Merging.{Ahead}

-- ---- lists

pub all_append : {X : Type 0} (P : X → Type 0) (xs ys : List X) → AllByRecursion P xs → AllByRecursion P ys → AllByRecursion P (xs ++ ys)
all_append P [] ys a b = b
all_append P (x ∷ xs) ys a b = (a.0, all_append P xs ys a.1 b)

pub all_map : {X : Type 0} (P Q : X → Type 0) → ((x : X) → P x → Q x) → (xs : List X) → AllByRecursion P xs → AllByRecursion Q xs
all_map P Q f [] a = tt
all_map P Q f (x ∷ xs) a = (f x a.0, all_map P Q f xs a.1)

-- ---- bytes

-- an equal front decides nothing
pub front_cmp : (front x y : List ℕ) → by_bytes (front ++ x) (front ++ y) ≡ by_bytes x y
front_cmp [] x y = refl
front_cmp (c ∷ front) x y =
    ap (λ (o : Ordering). ordering_then o (by_bytes (front ++ x) (front ++ y))) (tied_itself nat_cmp_total c) ∙ front_cmp front x y

same_byte : (c d : ℕ) → nat_cmp c d ≡ Equal → c ≡ d
same_byte c d e = nat_cmp-IsAntisymmetric c d e

-- what follows two texts changes nothing, where the first is no front of the second
ext_less : (a b x y : List ℕ) → by_bytes a b ≡ Less → ((z : List ℕ) → b ≡ a ++ z → ⊥) → by_bytes (a ++ x) (b ++ y) ≡ Less
ext_less [] b x y less apart = absurd (apart b refl)
ext_less (c ∷ a) [] x y less apart = cc
ext_less (c ∷ a) (d ∷ b) x y less apart =
    by_first (nat_cmp c d) refl less (λ rest same. ext_less a b x y rest (λ z e. apart z (λ i. sym (same_byte c d same) i ∷ e i)))
  where
    by_first : (o : Ordering) → nat_cmp c d ≡ o → ordering_then o (by_bytes a b) ≡ Less → (by_bytes a b ≡ Less → nat_cmp c d ≡ Equal → by_bytes (a ++ x) (b ++ y) ≡ Less)
        → ordering_then (nat_cmp c d) (by_bytes (a ++ x) (b ++ y)) ≡ Less
    by_first Less is e next = ap (λ (o : Ordering). ordering_then o (by_bytes (a ++ x) (b ++ y))) is
    by_first Equal is e next = ap (λ (o : Ordering). ordering_then o (by_bytes (a ++ x) (b ++ y))) is ∙ next e is
    by_first Greater is e next = cc

-- nor does what follows the greater
more_less : (a b y : List ℕ) → by_bytes a b ≡ Less → by_bytes a (b ++ y) ≡ Less
more_less [] [] y less = cc
more_less [] (d ∷ b) y less = refl
more_less (c ∷ a) [] y less = cc
more_less (c ∷ a) (d ∷ b) y less = by_first (nat_cmp c d) less (more_less a b y)
  where
    by_first : (o : Ordering) → ordering_then o (by_bytes a b) ≡ Less → (by_bytes a b ≡ Less → by_bytes a (b ++ y) ≡ Less) → ordering_then o (by_bytes a (b ++ y)) ≡ Less
    by_first Less e next = refl
    by_first Equal e next = next e
    by_first Greater e next = cc

-- ---- entries

pub plain_end : (m : Mode) → is_dir m ≡ false → key_end m ≡ []
plain_end Dir e = absurd (true≢false e)
plain_end File e = refl
plain_end Exec e = refl
plain_end Link e = refl
plain_end Module e = refl

pub dir_end : (m : Mode) → is_dir m ≡ true → key_end m ≡ 47 ∷ []
dir_end Dir e = refl
dir_end File e = absurd (false≢true e)
dir_end Exec e = absurd (false≢true e)
dir_end Link e = absurd (false≢true e)
dir_end Module e = absurd (false≢true e)

slash_inside : (a x : List ℕ) → has_byte 47 (a ++ 47 ∷ x) ≡ true
slash_inside a x = list_any-append (λ (b : ℕ). b == 47) a (47 ∷ x) ∙ or_true (has_byte 47 a)
  where
    or_true : (b : Bool) → (b || true) ≡ true
    or_true true = refl
    or_true false = refl

not_less : (a : List ℕ) → by_bytes a a ≡ Less → ⊥
not_less a e = let same = tied_itself nat_list_cmp_total a in let clash : Less ≡ Equal = sym e ∙ same in cc

-- a directory's key is no front of the key of an entry after it
key_apart : (e f : TreeEntry) → Before e f → is_dir e.mode ≡ true → (z : List ℕ) → sort_key f ≡ sort_key e ++ z → ⊥
key_apart e f before dir z is = by_kind (is_dir f.mode) refl
  where
    there : f.name ++ key_end f.mode ≡ e.name ++ 47 ∷ z
    there = is ∙ append_assoc e.name (key_end e.mode) z ∙ ap (λ (k : List ℕ). e.name ++ (k ++ z)) (dir_end e.mode dir)

    by_kind : (b : Bool) → is_dir f.mode ≡ b → ⊥
    by_kind true is_f =
        let same = same_until 47 f.name e.name [] z before.plain_next before.plain (ap (λ (k : List ℕ). f.name ++ k) (sym (dir_end f.mode is_f)) ∙ there) in
        let key : sort_key f ≡ sort_key e = (λ i. same.0 i ++ (dir_end f.mode is_f ∙ sym (dir_end e.mode dir)) i) in
        not_less (sort_key e) (subst (λ (k : List ℕ). by_bytes (sort_key e) k ≡ Less) key before.less)
    by_kind false is_f =
        let name : f.name ≡ e.name ++ 47 ∷ z = sym (append-nil f.name) ∙ ap (λ (k : List ℕ). f.name ++ k) (sym (plain_end f.mode is_f)) ∙ there in
        true≢false (sym (ap (has_byte 47) name ∙ slash_inside e.name z) ∙ before.plain_next)

-- a step that an entry leads to: its place follows that of the entry, and is that of the entry where this is a path
pub record From (front : List ℕ) (e : TreeEntry) (s : Step) : Type 0 where
  pub rest : List ℕ
  pub at : place s ≡ place_of front e ++ rest
  pub alone : is_dir e.mode ≡ false → rest ≡ []

pub from_less : (front : List ℕ) (e f : TreeEntry) (x y : Step) → Before e f → From front e x → From front f y → by_bytes (place x) (place y) ≡ Less
from_less front e f x y before a b =
    (λ i. by_bytes ((a.at ∙ append_assoc front (sort_key e) a.rest) i) ((b.at ∙ append_assoc front (sort_key f) b.rest) i))
    ∙ front_cmp front (sort_key e ++ a.rest) (sort_key f ++ b.rest) ∙ by_kind (is_dir e.mode) refl
  where
    by_kind : (k : Bool) → is_dir e.mode ≡ k → by_bytes (sort_key e ++ a.rest) (sort_key f ++ b.rest) ≡ Less
    by_kind true is = ext_less (sort_key e) (sort_key f) a.rest b.rest before.less (key_apart e f before is)
    by_kind false is =
        ap (λ (k : List ℕ). by_bytes k (sort_key f ++ b.rest)) (ap (λ (r : List ℕ). sort_key e ++ r) (a.alone is) ∙ append-nil (sort_key e))
        ∙ more_less (sort_key e) (sort_key f) b.rest before.less

-- ---- what entries lead to

-- a step below a front
abbrev pub Under : List ℕ → Step → Type 0
Under front s = (x : List ℕ) × (place s ≡ front ++ x)

abbrev pub GoesUnder : (List ℕ → List ℕ → List Step) → Type 0
GoesUnder into = (front id : List ℕ) → AllByRecursion (Under front) (into front id)

pub from_piece : (into : List ℕ → List ℕ → List Step) → GoesUnder into → (holder front : List ℕ) (e : TreeEntry) → AllByRecursion (From front e) (piece_of into holder front e)
from_piece into under holder front e = by_kind (is_dir e.mode) refl
  where
    by_kind : (b : Bool) → is_dir e.mode ≡ b → AllByRecursion (From front e) (entry_steps into holder front e b)
    by_kind true is =
        all_map (Under (place_of front e)) (From front e) (λ s u. record { rest = u.0; at = u.1; alone = λ plain. absurd (false≢true (sym plain ∙ is)) })
        (into (place_of front e) e.id) (under (place_of front e) e.id)
    by_kind false is = (record { rest = []; at = sym (append-nil (place_of front e)); alone = λ plain. refl }, tt)

under_below : (into : List ℕ → List ℕ → List Step) → GoesUnder into → (holder front : List ℕ) (es : List TreeEntry) → AllByRecursion (Under front) (below into holder front es)
under_below into under holder front [] = tt
under_below into under holder front (e ∷ es) =
    all_append (Under front) (piece_of into holder front e) (below into holder front es)
    (all_map (From front e) (Under front) (λ s from. (sort_key e ++ from.rest, from.at ∙ append_assoc front (sort_key e) from.rest)) (piece_of into holder front e) (from_piece into under holder front e))
    (under_below into under holder front es)

pub steps_under : (trees : Trees) (n : ℕ) → GoesUnder (steps trees n)
steps_under trees zero front id =
    subst (AllByRecursion (Under front)) (sym (steps_zero trees front id)) (([], sym (append-nil front)), tt)
steps_under trees (suc n) front id =
    subst (AllByRecursion (Under front)) (sym (steps_suc trees n front id)) (([], sym (append-nil front)), under_below (steps trees n) (steps_under trees n) id front (listed (trees id)))

ahead_of : (front : List ℕ) (e f : TreeEntry) (xs ys : List Step) → Before e f → AllByRecursion (From front e) xs → AllByRecursion (From front f) ys → Ahead xs ys
ahead_of front e f xs ys before a b =
    all_map (From front e) (λ x. AllByRecursion (λ y. by_bytes (place x) (place y) ≡ Less) ys)
    (λ x from. all_map (From front f) (λ y. by_bytes (place x) (place y) ≡ Less) (λ y to. from_less front e f x y before from to) ys b) xs a

ahead_append : (xs ys zs : List Step) → Ahead xs ys → Ahead xs zs → Ahead xs (ys ++ zs)
ahead_append [] ys zs a b = tt
ahead_append (x ∷ xs) ys zs a b = (all_append (λ y. by_bytes (place x) (place y) ≡ Less) ys zs a.0 b.0, ahead_append xs ys zs a.1 b.1)

ahead_nothing : (xs : List Step) → Ahead xs []
ahead_nothing [] = tt
ahead_nothing (x ∷ xs) = (tt, ahead_nothing xs)

-- what an entry leads to stands before what all later entries lead to, also those of another tree
pub piece_ahead : (into : List ℕ → List ℕ → List Step) → GoesUnder into → (holder other front : List ℕ) (e : TreeEntry) (fs : List TreeEntry) → AllByRecursion (Before e) fs
    → Ahead (piece_of into holder front e) (below into other front fs)
piece_ahead into under holder other front e [] all = ahead_nothing (piece_of into holder front e)
piece_ahead into under holder other front e (f ∷ fs) all =
    ahead_append (piece_of into holder front e) (piece_of into other front f) (below into other front fs)
    (ahead_of front e f (piece_of into holder front e) (piece_of into other front f) all.0 (from_piece into under holder front e) (from_piece into under other front f))
    (piece_ahead into under holder other front e fs all.1)

-- ---- order within a tree and between two

pub formed_tail : (e : TreeEntry) (es : List TreeEntry) → AreWellFormed (e ∷ es) → AreWellFormed es
formed_tail e es formed = record { named = formed.named.1; ordered = formed.ordered.1 }

-- an entry whose key is not greater than that of the first of some entries is before all that follow these
before_later : (e f : TreeEntry) (fs : List TreeEntry) → IsEntryName e.name → AllByRecursion (Precedes f) fs → AllByRecursion (λ (g : TreeEntry). IsEntryName g.name) fs
    → ((k : List ℕ) → by_bytes (sort_key f) k ≡ Less → by_bytes (sort_key e) k ≡ Less) → AllByRecursion (Before e) fs
before_later e f [] named all names less = tt
before_later e f (g ∷ fs) named all names less =
    (record { less = less (sort_key g) all.0.rising; plain = named.no_slash; plain_next = names.0.no_slash }, before_later e f fs named all.1 names.1 less)

-- an entry of a tree is before all after it
pub before_tail : (e : TreeEntry) (es : List TreeEntry) → AreWellFormed (e ∷ es) → AllByRecursion (Before e) es
before_tail e es formed = before_later e e es formed.named.0 formed.ordered.0 formed.named.1 (λ k less. less)

-- an entry with a lesser key than the first of a tree is before all of it
pub before_tree : (e f : TreeEntry) (es fs : List TreeEntry) → AreWellFormed (e ∷ es) → AreWellFormed (f ∷ fs) → by_bytes (sort_key e) (sort_key f) ≡ Less → AllByRecursion (Before e) (f ∷ fs)
before_tree e f es fs formed other less = (
  record { less = less; plain = formed.named.0.no_slash; plain_next = other.named.0.no_slash },
  before_later e f fs formed.named.0 other.ordered.0 other.named.1 (λ k more. nat_list_cmp_total.trans (sort_key e) (sort_key f) k less more),
)

-- an entry with the key of the first of a tree is before all that follow
pub before_rest : (e f : TreeEntry) (es fs : List TreeEntry) → AreWellFormed (e ∷ es) → AreWellFormed (f ∷ fs) → sort_key e ≡ sort_key f → AllByRecursion (Before e) fs
before_rest e f es fs formed other same =
    before_later e f fs formed.named.0 other.ordered.0 other.named.1 (λ k more. ap (λ (key : List ℕ). by_bytes key k) same ∙ more)

-- entries of one key are both directories or neither
pub same_kind : (e f : TreeEntry) → has_byte 47 e.name ≡ false → has_byte 47 f.name ≡ false → sort_key e ≡ sort_key f → is_dir e.mode ≡ is_dir f.mode
same_kind e f plain other same = by_kinds (is_dir e.mode) (is_dir f.mode) refl refl
  where
    slash : (g h : TreeEntry) → has_byte 47 h.name ≡ false → is_dir g.mode ≡ true → is_dir h.mode ≡ false → sort_key g ≡ sort_key h → ⊥
    slash g h none dir no_dir is =
        let name : h.name ≡ g.name ++ 47 ∷ [] = sym (append-nil h.name) ∙ ap (λ (k : List ℕ). h.name ++ k) (sym (plain_end h.mode no_dir)) ∙ sym is ∙ ap (λ (k : List ℕ). g.name ++ k) (dir_end g.mode dir) in
        true≢false (sym (ap (has_byte 47) name ∙ slash_inside g.name []) ∙ none)

    by_kinds : (a b : Bool) → is_dir e.mode ≡ a → is_dir f.mode ≡ b → is_dir e.mode ≡ is_dir f.mode
    by_kinds true true x y = x ∙ sym y
    by_kinds true false x y = absurd (slash e f other x y same)
    by_kinds false true x y = absurd (slash f e plain y x (sym same))
    by_kinds false false x y = x ∙ sym y

pub turned_back : (a b : List ℕ) → by_bytes a b ≡ Greater → by_bytes b a ≡ Less
turned_back a b more = nat_list_cmp_total.antisymm b a ∙ ap ordering_reverse more
