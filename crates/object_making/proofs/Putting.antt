-- What entries add to the paths of a tree that is made.
use Rattle.std.proofs.Common.{◌≡◌, ℕ, ◌-◌, ◌≤◌, Bool, false, List, [], ◌∷◌, ◌++◌, length, Option, Some, refl, sym, ap, subst, ◌∙◌, append_assoc, arith, length-append}
use Rattle.std.specs.List.{AllByRecursion}
use Rattle.std.proofs.lemmas.List.{append-nil}
use Rattle.text_reader.proofs.Unique.{same_fronts}
use Rattle.git_object.specs.Objects.{Pair}
use Rattle.git_object.specs.declared.modes.Mode.TheVariants.{Dir}
use Rattle.git_object.specs.declared.trees.TreeEntry.{TreeEntry}
use Rattle.tree_paths.specs.Readings.{Trees}
use Rattle.tree_paths.specs.States.{PathValue, path_values}
use Rattle.tree_paths.specs.Walks.{Leaf, Step, Visit, below, entry_steps, is_dir, listed, steps}
use Rattle.tree_paths.proofs.Judging.{piece_of, steps_at}
use Rattle.tree_paths.proofs.Order.{plain_end}
use Rattle.object_making.specs.Keeping.{Adds, IsTreeObject, Keeps, KeepsPair}
use Rattle.object_making.specs.Listings.{entry_of, values}
use Rattle.object_making.specs.declared.listed.Listed.{Listed}

-- ---- objects

all_front : {X : Type 0} (P : X → Type 0) (xs ys : List X) → AllByRecursion P (xs ++ ys) → AllByRecursion P xs
all_front P [] ys all = tt
all_front P (x ∷ xs) ys all = (all.0, all_front P xs ys all.1)

pub all_both : {X : Type 0} (P : X → Type 0) (xs ys : List X) → AllByRecursion P xs → AllByRecursion P ys → AllByRecursion P (xs ++ ys)
all_both P [] ys a b = b
all_both P (x ∷ xs) ys a b = (a.0, all_both P xs ys a.1 b)

pub keeps_before : (trees : Trees) (before after : List Pair) → Adds before after → Keeps trees after → Keeps trees before
keeps_before trees before after adds keeps = all_front (KeepsPair trees) before adds.more (subst (Keeps trees) adds.is keeps)

pub adds_nothing : (pairs : List Pair) → Adds pairs pairs
adds_nothing pairs = record { more = []; is = sym (append-nil pairs); trees = tt }

pub adds_one : (before after : List Pair) (pair : Pair) → after ≡ before ++ pair ∷ [] → IsTreeObject pair → Adds before after
adds_one before after pair is tree = record { more = pair ∷ []; is = is; trees = (tree, tt) }

pub adds_twice : (a b c : List Pair) → Adds a b → Adds b c → Adds a c
adds_twice a b c first second = record {
  more = first.more ++ second.more;
  is = second.is ∙ ap (λ (pairs : List Pair). pairs ++ second.more) first.is ∙ append_assoc a first.more second.more;
  trees = all_both IsTreeObject first.more second.more first.trees second.trees;
}

-- ---- values

pub values_append : (xs ys : List Listed) → values (xs ++ ys) ≡ values xs ++ values ys
values_append [] ys = refl
values_append (x ∷ xs) ys = ap (λ (rest : List (List ℕ × PathValue)). (x.path, (x.mode, x.id)) ∷ rest) (values_append xs ys)

pub path_values_append : (xs ys : List Step) → path_values (xs ++ ys) ≡ path_values xs ++ path_values ys
path_values_append [] ys = refl
path_values_append (Visit left place id ∷ xs) ys = path_values_append xs ys
path_values_append (Leaf holder path mode id ∷ xs) ys = ap (λ (rest : List (List ℕ × PathValue)). (path, (mode, id)) ∷ rest) (path_values_append xs ys)

below_last : (into : List ℕ → List ℕ → List Step) (holder front : List ℕ) (es : List TreeEntry) (e : TreeEntry)
    → path_values (below into holder front (es ++ e ∷ [])) ≡ path_values (below into holder front es) ++ path_values (piece_of into holder front e)
below_last into holder front [] e = ap path_values (append-nil (piece_of into holder front e))
below_last into holder front (f ∷ es) e =
    path_values_append (piece_of into holder front f) (below into holder front (es ++ e ∷ []))
    ∙ ap (λ (rest : List (List ℕ × PathValue)). path_values (piece_of into holder front f) ++ rest) (below_last into holder front es e)
    ∙ sym (append_assoc (path_values (piece_of into holder front f)) (path_values (below into holder front es)) (path_values (piece_of into holder front e)))
    ∙ ap (λ (rest : List (List ℕ × PathValue)). rest ++ path_values (piece_of into holder front e)) (sym (path_values_append (piece_of into holder front f) (below into holder front es)))

-- an entry that leads to the first of what is listed
pub put_entry : (into : List ℕ → List ℕ → List Step) (holder front : List ℕ) (es fs : List TreeEntry) (e : TreeEntry) (run after all : List Listed)
    → fs ≡ es ++ e ∷ [] → all ≡ run ++ after → path_values (piece_of into holder front e) ≡ values run
    → path_values (below into holder front fs) ++ values after ≡ path_values (below into holder front es) ++ values all
put_entry into holder front es fs e run after all added whole is =
    ap (λ (entries : List TreeEntry). path_values (below into holder front entries) ++ values after) added
    ∙ ap (λ (start : List (List ℕ × PathValue)). start ++ values after) (below_last into holder front es e)
    ∙ append_assoc (path_values (below into holder front es)) (path_values (piece_of into holder front e)) (values after)
    ∙ ap (λ (rest : List (List ℕ × PathValue)). path_values (below into holder front es) ++ rest)
    (ap (λ (rest : List (List ℕ × PathValue)). rest ++ values after) is ∙ sym (values_append run after) ∙ ap values (sym whole))

-- the path of an entry that is no directory's
pub listed_piece : (into : List ℕ → List ℕ → List Step) (holder front name : List ℕ) (listed : Listed) → is_dir listed.mode ≡ false → listed.path ≡ front ++ name
    → path_values (piece_of into holder front (entry_of listed.mode name listed.id)) ≡ values (listed ∷ [])
listed_piece into holder front name listed plain at =
    ap (λ (b : Bool). path_values (entry_steps into holder front (entry_of listed.mode name listed.id) b)) plain
    ∙ ap (λ (path : List ℕ). (path, (listed.mode, listed.id)) ∷ [])
    (ap (λ (end : List ℕ). front ++ (name ++ end)) (plain_end listed.mode plain) ∙ ap (λ (rest : List ℕ). front ++ rest) (append-nil name) ∙ sym at)

-- the paths of a directory's entry
pub directory_piece : (into : List ℕ → List ℕ → List Step) (holder front place name id : List ℕ) (run : List Listed) → place ≡ front ++ (name ++ 47 ∷ [])
    → path_values (into place id) ≡ values run → path_values (piece_of into holder front (entry_of Dir name id)) ≡ values run
directory_piece into holder front place name id run at is = ap (λ (at_place : List ℕ). path_values (into at_place id)) (sym at) ∙ is

-- the paths of a tree
pub tree_values : (trees : Trees) (left : ℕ) (front id : List ℕ) (es : List TreeEntry) → 1 ≤ left → trees id ≡ Some es
    → path_values (steps trees left front id) ≡ path_values (below (steps trees (left - 1)) id front es)
tree_values trees left front id es some there =
    ap path_values (steps_at trees left front id some)
    ∙ ap (λ (t : Option (List TreeEntry)). path_values (below (steps trees (left - 1)) id front (listed t))) there

-- a path up to the end of a directory's name
pub place_there : (path front tail name rest place more : List ℕ) → path ≡ front ++ tail → tail ≡ name ++ 47 ∷ rest → path ≡ place ++ more → length place ≡ length path - length rest
    → place ≡ front ++ (name ++ 47 ∷ [])
place_there path front tail name rest place more at parts cut long =
    (same_fronts place (front ++ (name ++ 47 ∷ [])) more rest
    (omega (arith, ap length whole, length-append (front ++ (name ++ 47 ∷ [])) rest, long))
    (sym cut ∙ whole)).0
  where
    whole : path ≡ (front ++ (name ++ 47 ∷ [])) ++ rest
    whole = at ∙ ap (λ (end : List ℕ). front ++ end) (parts ∙ sym (append_assoc name (47 ∷ []) rest)) ∙ sym (append_assoc front (name ++ 47 ∷ []) rest)

pub no_more : (start : List (List ℕ × PathValue)) (rest : List Listed) → length rest ≡ 0 → start ≡ start ++ values rest
no_more start [] none = sym (append-nil start)
no_more start (x ∷ rest) none = absurd (omega arith)
