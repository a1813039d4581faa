-- What steps add, put together.
use Rattle.std.proofs.Common.{◌≡◌, ℕ, ◌≤◌, ◌+◌, ◌-◌, ◌==◌, min, Bool, true, false, cond, List, [], ◌∷◌, length, Some, sym, ap, ◌∙◌, arith}
use Rattle.std.proofs.lemmas.Bool.Decides.{nat_tests}
use Rattle.git_object.specs.declared.trees.TreeEntry.{TreeEntry}
use Rattle.tree_paths.specs.Adding.{Adds, AddsBefore, IsSum, plus}
use Rattle.tree_paths.specs.Readings.{Trees}
use Rattle.tree_paths.specs.Walks.{Step, below, entry_steps, goes_on, has_room, is_dir, judge, no_counts, one_dir, one_path, opened, place_of, steps}
use Rattle.tree_paths.specs.declared.counts.Counts.{Counts}
use Rattle.tree_paths.specs.declared.counts.Walked.{Walked}
use Rattle.tree_paths.specs.declared.counts.Walked.TheVariants.{Broken, Counted}
use Rattle.tree_paths.proofs.Judging.{judge_append, judge_open, piece_of}

same_counts : (c d : Counts) → c.paths ≡ d.paths → c.dirs ≡ d.dirs → c.bytes ≡ d.bytes → c ≡ d
same_counts c d paths dirs bytes = λ i. record { paths = paths i; dirs = dirs i; bytes = bytes i }

plus_twice : (a b c : Counts) → plus (plus a b) c ≡ plus a (plus b c)
plus_twice a b c = same_counts (plus (plus a b) c) (plus a (plus b c)) (omega arith) (omega arith) (omega arith)

plus_dir : (c : Counts) → one_dir c ≡ plus c (one_dir no_counts)
plus_dir c = same_counts (one_dir c) (plus c (one_dir no_counts)) (omega arith) (omega arith) (omega arith)

-- a tree that may be visited, before its entries
pub adds_start : (trees : Trees) (left : ℕ) (front id : List ℕ) (root : Bool) (es rest : List TreeEntry) (done : Counts) → 1 ≤ left → root ≡ (length front == 0) → Some es ≡ opened left root (trees id)
    → rest ≡ es → done ≡ one_dir no_counts → AddsBefore trees (steps trees left front id) done (below (steps trees (left - 1)) id front rest)
adds_start trees left front id root es rest done some is opens at counted = λ c paths bytes.
    judge_open trees left front id root es c some is opens
    ∙ (λ i. judge trees (below (steps trees (left - 1)) id front (sym at i)) ((plus_dir c ∙ ap (plus c) (sym counted)) i))

module _ (trees : Trees) (all : List Step) (into : List ℕ → List ℕ → List Step) (holder front : List ℕ) where
  -- an entry more
  pub adds_next : (rest es : List TreeEntry) (e : TreeEntry) (done next sum : Counts) → AddsBefore trees all done (below into holder front rest) → rest ≡ e ∷ es
      → Adds trees (piece_of into holder front e) next → IsSum done next sum → AddsBefore trees all sum (below into holder front es)
  adds_next rest es e done next sum before at adds is = λ c paths bytes.
      let paths_are : sum.paths ≡ done.paths + next.paths = ap (λ (x : Counts). x.paths) is.is in
      let bytes_are : sum.bytes ≡ done.bytes + next.bytes = ap (λ (x : Counts). x.bytes) is.is in
      before c (omega (arith, paths, paths_are)) (omega (arith, bytes, bytes_are))
      ∙ ap (λ (fs : List TreeEntry). judge trees (below into holder front fs) (plus c done)) at
      ∙ judge_append trees (piece_of into holder front e) (below into holder front es) (plus c done)
      ∙ ap (λ (w : Walked). goes_on w (judge trees (below into holder front es))) (adds (plus c done) (omega (arith, paths, paths_are)) (omega (arith, bytes, bytes_are)))
      ∙ ap (judge trees (below into holder front es)) (plus_twice c done next ∙ ap (plus c) (sym is.is))

  -- the last one
  pub adds_done : (rest : List TreeEntry) (done : Counts) → AddsBefore trees all done (below into holder front rest) → length rest ≡ 0 → Adds trees all done
  adds_done [] done before none = before
  adds_done (e ∷ es) done before none = absurd (omega (arith, none))

fits : (c : Counts) (n : ℕ) → c.paths + 1 ≤ 262144 → n ≤ 4096 → c.bytes + n ≤ 67108864 → has_room c n ≡ true
fits c n paths short bytes = grind (arith, nat_tests)

-- one path
pub adds_path : (trees : Trees) (into : List ℕ → List ℕ → List Step) (holder front : List ℕ) (e : TreeEntry) (long : ℕ) (adds : Counts) → is_dir e.mode ≡ false → long ≡ min (length (place_of front e)) 8192
    → long ≤ 4096 → adds.paths ≡ 1 → adds.dirs ≡ 0 → adds.bytes ≡ long → Adds trees (piece_of into holder front e) adds
adds_path trees into holder front e long adds plain is short paths dirs bytes = λ c few small.
    let whole : length (place_of front e) ≡ long = omega (arith, is, short) in
    ap (λ (b : Bool). judge trees (entry_steps into holder front e b) c) plain
    ∙ ap (λ (b : Bool). goes_on (cond b (Counted (one_path c (length (place_of front e)))) (Broken holder)) Counted)
    (fits c (length (place_of front e)) (omega (arith, few, paths)) (omega (arith, whole, short)) (omega (arith, small, bytes, whole)))
    ∙ ap Counted (same_counts (one_path c (length (place_of front e))) (plus c adds) (omega (arith, paths)) (omega (arith, dirs)) (omega (arith, bytes, whole)))

-- what is added after some counts, within the limits
pub counted_sum : (trees : Trees) (ss : List Step) (adds c sum : Counts) → Adds trees ss adds → IsSum c adds sum → judge trees ss c ≡ Counted sum
counted_sum trees ss adds c sum are is = are c is.paths is.bytes ∙ ap Counted (sym is.is)

-- a directory
pub adds_dir : (trees : Trees) (into : List ℕ → List ℕ → List Step) (holder front : List ℕ) (e : TreeEntry) (adds : Counts) → is_dir e.mode ≡ true → Adds trees (into (place_of front e) e.id) adds
    → Adds trees (piece_of into holder front e) adds
adds_dir trees into holder front e adds dir are = λ c few small. ap (λ (b : Bool). judge trees (entry_steps into holder front e b) c) dir ∙ are c few small
