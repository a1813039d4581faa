-- Which paths stand below a place, and that a run of them ends where those of a directory end.
use Rattle.std.proofs.Common.{◌≡◌, ◌≢◌, ℕ, Bool, true, false, List, [], ◌∷◌, ◌++◌, refl, sym, ap, subst, ◌∙◌, append_assoc}
use Rattle.std.specs.List.{AllByRecursion}
use Rattle.std.proofs.lemmas.Bool.{true≢false}
use Rattle.std.proofs.lemmas.List.{append-nil}
use Rattle.text_reader.specs.Line.{Begins, has_byte}
use Rattle.text_reader.proofs.Unique.{has_byte_here, same_front, same_until}
use Rattle.git_object.specs.Modes.{key_end}
use Rattle.git_object.specs.Trees.{IsEntryName, sort_key}
use Rattle.git_object.specs.declared.trees.TreeEntry.{TreeEntry}
use Rattle.tree_paths.specs.Pairings.{place}
use Rattle.tree_paths.specs.States.{PathValue, path_values}
use Rattle.tree_paths.specs.Walks.{Leaf, Step, Visit, below, is_dir, place_of}
use Rattle.tree_paths.proofs.Judging.{piece_of}
use Rattle.tree_paths.proofs.Order.{From, GoesUnder, dir_end, from_piece, plain_end}
use Rattle.object_making.specs.Listings.{StopsAt, values}
use Rattle.object_making.specs.declared.listed.Listed.{Listed}
use Rattle.object_making.proofs.Putting.{all_both, path_values_append}

abbrev pub Value : Type 0
Value = List ℕ × PathValue

-- what holds of the places of steps holds of paths
pub at_paths : (P : List ℕ → Type 0) (ss : List Step) → AllByRecursion (λ s. P (place s)) ss → AllByRecursion (λ (v : Value). P v.0) (path_values ss)
at_paths P [] all = tt
at_paths P (Visit left front id ∷ ss) all = at_paths P ss all.1
at_paths P (Leaf holder path mode id ∷ ss) all = (all.0, at_paths P ss all.1)

pub all_steps : (P Q : Step → Type 0) → ((s : Step) → P s → Q s) → (ss : List Step) → AllByRecursion P ss → AllByRecursion Q ss
all_steps P Q f [] all = tt
all_steps P Q f (s ∷ ss) all = (f s all.0, all_steps P Q f ss all.1)

-- the path of an entry that is no directory's, or one below a directory
pub record Reaches (front : List ℕ) (e : TreeEntry) (path : List ℕ) : Type 0 where
  pub rest : List ℕ
  pub at : path ≡ front ++ (sort_key e ++ rest)
  pub alone : is_dir e.mode ≡ false → rest ≡ []

pub reached : (into : List ℕ → List ℕ → List Step) → GoesUnder into → (holder front : List ℕ) (e : TreeEntry) → AllByRecursion (λ (v : Value). Reaches front e v.0) (path_values (piece_of into holder front e))
reached into under holder front e =
    at_paths (Reaches front e) (piece_of into holder front e)
    (all_steps (From front e) (λ s. Reaches front e (place s)) (λ s from. record { rest = from.rest; at = from.at ∙ append_assoc front (sort_key e) from.rest; alone = from.alone })
    (piece_of into holder front e) (from_piece into under holder front e))

-- what an entry's key is, by its kind
pub directory_key : (e : TreeEntry) (rest : List ℕ) → is_dir e.mode ≡ true → sort_key e ++ rest ≡ e.name ++ 47 ∷ rest
directory_key e rest dir = append_assoc e.name (key_end e.mode) rest ∙ ap (λ (end : List ℕ). e.name ++ (end ++ rest)) (dir_end e.mode dir)

pub plain_key : (e : TreeEntry) (rest : List ℕ) → is_dir e.mode ≡ false → rest ≡ [] → sort_key e ++ rest ≡ e.name
plain_key e rest plain none =
    ap (λ (end : List ℕ). sort_key e ++ end) none ∙ append-nil (sort_key e) ∙ ap (λ (end : List ℕ). e.name ++ end) (plain_end e.mode plain) ∙ append-nil e.name

slash_in : (name text rest : List ℕ) → has_byte 47 text ≡ false → text ≡ name ++ 47 ∷ rest → ⊥
slash_in name text rest plain is = true≢false (sym (ap (has_byte 47) is ∙ has_byte_here 47 name rest) ∙ plain)

-- a path to which an entry leads, after the front
pub record Kinds (e : TreeEntry) (tail : List ℕ) : Type 0 where
  pub slash : (name rest : List ℕ) → has_byte 47 name ≡ false → tail ≡ name ++ 47 ∷ rest → (is_dir e.mode ≡ true) × (e.name ≡ name)
  pub none : has_byte 47 tail ≡ false → (is_dir e.mode ≡ false) × (e.name ≡ tail)

pub kinds : (front path tail : List ℕ) (e : TreeEntry) → IsEntryName e.name → Reaches front e path → path ≡ front ++ tail → Kinds e tail
kinds front path tail e named there at = by_kind (is_dir e.mode) refl
  where
    same : tail ≡ sort_key e ++ there.rest
    same = same_front front tail (sort_key e ++ there.rest) (sym at ∙ there.at)

    by_kind : (b : Bool) → is_dir e.mode ≡ b → Kinds e tail
    by_kind true dir = record {
      slash = λ name rest plain is. (dir, (same_until 47 e.name name there.rest rest named.no_slash plain (sym (directory_key e there.rest dir) ∙ sym same ∙ is)).0);
      none = λ plain. absurd (slash_in e.name tail there.rest plain (same ∙ directory_key e there.rest dir));
    }
    by_kind false no_dir = record {
      slash = λ name rest plain is. absurd (slash_in name e.name rest named.no_slash (sym (plain_key e there.rest no_dir (there.alone no_dir)) ∙ sym same ∙ is));
      none = λ plain. (no_dir, sym (plain_key e there.rest no_dir (there.alone no_dir)) ∙ sym same);
    }

-- no path to which an entry leads begins with the place of a directory of another name
outside_one : (front path name : List ℕ) (f : TreeEntry) → has_byte 47 name ≡ false → IsEntryName f.name → name ≢ f.name → Reaches front f path → Begins (front ++ (name ++ 47 ∷ [])) path → ⊥
outside_one front path name f plain named other there begins =
    let whole : path ≡ front ++ (name ++ 47 ∷ begins.0) =
    begins.1 ∙ append_assoc front (name ++ 47 ∷ []) begins.0 ∙ ap (λ (end : List ℕ). front ++ end) (append_assoc name (47 ∷ []) begins.0) in
    let at = kinds front path (name ++ 47 ∷ begins.0) f named there whole in
    other (sym (at.slash name begins.0 plain refl).1)

pub all_values : (P Q : Value → Type 0) → ((v : Value) → P v → Q v) → (vs : List Value) → AllByRecursion P vs → AllByRecursion Q vs
all_values P Q f [] all = tt
all_values P Q f (v ∷ vs) all = (f v all.0, all_values P Q f vs all.1)

-- no path below a tree's entries begins with the place of a directory of a name that none of them has
pub outside : (into : List ℕ → List ℕ → List Step) → GoesUnder into → (holder front name : List ℕ) (es : List TreeEntry) → has_byte 47 name ≡ false
    → AllByRecursion (λ (f : TreeEntry). name ≢ f.name) es → AllByRecursion (λ (f : TreeEntry). IsEntryName f.name) es
    → AllByRecursion (λ (v : Value). Begins (front ++ (name ++ 47 ∷ [])) v.0 → ⊥) (path_values (below into holder front es))
outside into under holder front name [] plain others named = tt
outside into under holder front name (f ∷ es) plain others named =
    subst (AllByRecursion (λ (v : Value). Begins (front ++ (name ++ 47 ∷ [])) v.0 → ⊥)) (sym (path_values_append (piece_of into holder front f) (below into holder front es)))
    (all_both (λ (v : Value). Begins (front ++ (name ++ 47 ∷ [])) v.0 → ⊥) (path_values (piece_of into holder front f)) (path_values (below into holder front es))
    (all_values (λ (v : Value). Reaches front f v.0) (λ (v : Value). Begins (front ++ (name ++ 47 ∷ [])) v.0 → ⊥) (λ v there. outside_one front v.0 name f plain named.0 others.0 there)
    (path_values (piece_of into holder front f)) (reached into under holder front f))
    (outside into under holder front name es plain others.1 named.1))

-- each path to which an entry leads begins with its place
pub inside : (into : List ℕ → List ℕ → List Step) → GoesUnder into → (holder front : List ℕ) (e : TreeEntry) → AllByRecursion (λ (v : Value). Begins (place_of front e) v.0) (path_values (piece_of into holder front e))
inside into under holder front e =
    all_values (λ (v : Value). Reaches front e v.0) (λ (v : Value). Begins (place_of front e) v.0) (λ v there. (there.rest, there.at ∙ sym (append_assoc front (sort_key e) there.rest)))
    (path_values (piece_of into holder front e)) (reached into under holder front e)

-- a run of paths that begin with a place ends where those of a directory end
pub one_run : (place : List ℕ) (vs ws : List Value) (run after : List Listed) → AllByRecursion (λ (v : Value). Begins place v.0) vs → AllByRecursion (λ (v : Value). Begins place v.0 → ⊥) ws
    → AllByRecursion (λ (l : Listed). Begins place l.path) run → StopsAt place after → vs ++ ws ≡ values run ++ values after → (vs ≡ values run) × (ws ≡ values after)
one_run place [] ws [] after inner outer all stop e = (refl, e)
one_run place [] [] (r ∷ run) after inner outer all stop e = cc
one_run place [] (w ∷ ws) (r ∷ run) after inner outer all stop e =
    let first : w ≡ (r.path, (r.mode, r.id)) = cc in
    absurd (outer.0 (subst (λ (v : Value). Begins place v.0) (sym first) all.0))
one_run place (v ∷ vs) ws [] [] inner outer all stop e = cc
one_run place (v ∷ vs) ws [] (a ∷ after) inner outer all stop e =
    let first : v ≡ (a.path, (a.mode, a.id)) = cc in
    absurd (stop (subst (λ (u : Value). Begins place u.0) first inner.0))
one_run place (v ∷ vs) ws (r ∷ run) after inner outer all stop e =
    let first : v ≡ (r.path, (r.mode, r.id)) = cc in
    let rest : vs ++ ws ≡ values run ++ values after = cc in
    let both = one_run place vs ws run after inner.1 outer all.1 stop rest in
    ((λ i. first i ∷ both.0 i), both.1)
