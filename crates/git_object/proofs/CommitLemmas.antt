-- A body begins in one way with the lines of a tree and of parents.
use Rattle.std.proofs.Common.{◌≡◌, ◌≢◌, ℕ, ◌-◌, List, [], ◌∷◌, ◌++◌, length, sym, ap, ◌∙◌, append_assoc, arith, length-append, inl, inr}
use Rattle.std.specs.Prelude.{codes}
use Rattle.std.specs.List.{AllByRecursion, flat_map}
use Rattle.hex.specs.Hex.{encode_lower}
use Rattle.text_reader.specs.Line.{Begins}
use Rattle.git_object.specs.Ids.{IsId}
use Rattle.git_object.specs.Commits.{HasBadParent, HasNoTree, HasParents, IsCommit, IsCommitFault, IsCommitFront, IsCommitText, commit_lines, parent_line, tree_line}
use Rattle.git_object.specs.declared.commits.Commit.{Commit}
use Rattle.git_object.proofs.LineLemmas.{id_line_then, same_id_line}
use Rattle.git_object.proofs.Runs.{all_front, all_last, all_push, flat_push, one_run}

same_parent : (xs : List (List ℕ)) (e f x y : List ℕ) → AllByRecursion IsId (xs ++ e ∷ []) → AllByRecursion IsId (xs ++ f ∷ [])
    → parent_line e ++ x ≡ parent_line f ++ y → (e ≡ f) × (x ≡ y)
same_parent xs e f x y pe pf same = same_id_line (codes "parent ") e f x y (all_last IsId xs e pe) (all_last IsId xs f pf) same

-- no line of a parent stands here
abbrev pub EndsParents : List ℕ → Type 0
EndsParents rest = (id more : List ℕ) → IsId id → rest ≢ parent_line id ++ more

-- where no line begins with `parent `, no line of a parent stands
pub no_parent_here : (rest : List ℕ) → ((more : List ℕ) → rest ≢ codes "parent " ++ more) → EndsParents rest
no_parent_here rest none id more is same = none (encode_lower id ++ 10 ∷ more) (same ∙ id_line_then (codes "parent ") id more)

-- what two readings of the lines have in common
pub record SameLines (t u : List ℕ) (ps qs : List (List ℕ)) (rest tail : List ℕ) : Type 0 where
  pub tree : t ≡ u
  pub parents : ps ≡ qs
  pub after : rest ≡ tail

pub same_lines : (t u : List ℕ) (ps qs : List (List ℕ)) (body rest tail : List ℕ) → IsCommitFront t ps body rest → IsCommitFront u qs body tail
    → EndsParents rest → EndsParents tail → SameLines t u ps qs rest tail
same_lines t u ps qs body rest tail f g ends end =
    let first = same_id_line (codes "tree ") t u (flat_map parent_line ps ++ rest) (flat_map parent_line qs ++ tail) f.tree_is g.tree_is
    (sym (append_assoc (tree_line t) (flat_map parent_line ps) rest) ∙ sym f.front ∙ g.front ∙ append_assoc (tree_line u) (flat_map parent_line qs) tail) in
    let run = one_run parent_line (AllByRecursion IsId) (all_front IsId) same_parent [] ps qs rest tail f.parents_are g.parents_are
    (λ e more p. ends e more (all_last IsId ps e p)) (λ e more p. end e more (all_last IsId qs e p)) first.1 in
    record { tree = first.0; parents = run.0; after = run.1 }

pub one_text : (v : Commit) (a b : List ℕ) → IsCommitText v a → IsCommitText v b → a ≡ b
one_text v a b ia ib = ia.lines.front ∙ sym ib.lines.front

pub one_value : (v w : Commit) (text : List ℕ) → IsCommitText v text → IsCommitText w text → v ≡ w
one_value v w text iv iw =
    let same = same_lines v.tree w.tree v.parents w.parents text v.rest w.rest iv.lines iw.lines (no_parent_here v.rest iv.no_parent) (no_parent_here w.rest iw.no_parent) in
    λ i. record { tree = same.tree i; parents = same.parents i; rest = same.after i }

-- a body with a tree's line has one
tree_there : (t : List ℕ) (ps : List (List ℕ)) (body rest : List ℕ) (at : ℕ) → IsCommitFront t ps body rest → HasNoTree body at → ⊥
tree_there t ps body rest at f none =
    none.no_tree t (flat_map parent_line ps ++ rest) f.tree_is (f.front ∙ append_assoc (tree_line t) (flat_map parent_line ps) rest)

pub apart : (v : Commit) (text : List ℕ) (at : ℕ) → IsCommitText v text → IsCommitFault text at → ⊥
apart v text at iv fault = elim fault [
  | inl none ↦ tree_there v.tree v.parents text v.rest at iv.lines none
  | inr bad ↦
      let same = same_lines v.tree bad.tree v.parents bad.parents text v.rest bad.rest iv.lines bad.lines (no_parent_here v.rest iv.no_parent) bad.no_parent in
      iv.no_parent bad.begins.0 (same.after ∙ bad.begins.1)
]

same_bad : (text : List ℕ) (m n : ℕ) → HasBadParent text m → HasBadParent text n → m ≡ n
same_bad text m n b d =
    let same = same_lines b.tree d.tree b.parents d.parents text b.rest d.rest b.lines d.lines b.no_parent d.no_parent in
    b.place ∙ (λ i. length (commit_lines (same.tree i) (same.parents i))) ∙ sym d.place

pub one_place : (text : List ℕ) (m n : ℕ) → IsCommitFault text m → IsCommitFault text n → m ≡ n
one_place text m n f g = elim f [
  | inl a ↦ elim g [ inl b ↦ a.place ∙ sym b.place | inr d ↦ absurd (tree_there d.tree d.parents text d.rest m d.lines a) ]
  | inr b ↦ elim g [ inl a ↦ absurd (tree_there b.tree b.parents text b.rest n b.lines a) | inr d ↦ same_bad text m n b d ]
]

-- ---- parents in front of a text

pub parents_push : (text rest id more : List ℕ) → HasParents text rest → IsId id → rest ≡ parent_line id ++ more → HasParents text more
parents_push text rest id more had is next = record {
  parents = had.parents ++ id ∷ [];
  parents_are = all_push IsId had.parents id had.parents_are is;
  front = had.front ∙ ap (λ (r : List ℕ). flat_map parent_line had.parents ++ r) next ∙ sym (append_assoc (flat_map parent_line had.parents) (parent_line id) more)
      ∙ ap (λ (r : List ℕ). r ++ more) (sym (flat_push parent_line had.parents id));
}

-- the line of a tree before them
pub front_of : (tree body text rest : List ℕ) → IsId tree → body ≡ tree_line tree ++ text → (had : HasParents text rest) → IsCommitFront tree had.parents body rest
front_of tree body text rest is first had = record {
  tree_is = is;
  parents_are = had.parents_are;
  front = first ∙ ap (λ (r : List ℕ). tree_line tree ++ r) had.front ∙ sym (append_assoc (tree_line tree) (flat_map parent_line had.parents) rest);
}

-- where no `parent ` follows them, the body is that of a commit
pub commit_there : (tree body text end : List ℕ) → IsId tree → body ≡ tree_line tree ++ text → HasParents text end → ((more : List ℕ) → end ≢ codes "parent " ++ more) → IsCommit body
commit_there tree body text end is first had none = record {
  commit = record { tree = tree; parents = had.parents; rest = end };
  text = record { lines = front_of tree body text end is first had; no_parent = none };
}

-- and what was read a second time is that commit
pub commit_read : (tree : List ℕ) (parents : List (List ℕ)) (body text rest end : List ℕ) → IsId tree → body ≡ tree_line tree ++ text → HasParents text end
    → ((more : List ℕ) → end ≢ codes "parent " ++ more) → IsCommitFront tree parents body rest → EndsParents rest
    → IsCommitText (record { tree = tree; parents = parents; rest = rest }) body
commit_read tree parents body text rest end is first had none lines ends =
    let same = same_lines tree tree parents had.parents body rest end lines (front_of tree body text end is first had) ends (no_parent_here end none) in
    record { lines = lines; no_parent = λ more begins. none more (sym same.after ∙ begins) }

-- where `parent ` follows them, the body is refused there
pub bad_parent_there : (tree body text end : List ℕ) → IsId tree → body ≡ tree_line tree ++ text → HasParents text end → Begins (codes "parent ") end → EndsParents end
    → HasBadParent body (length body - length end)
bad_parent_there tree body text end is first had begins ends =
    let lines = front_of tree body text end is first had in
    record {
      tree = tree;
      parents = had.parents;
      rest = end;
      lines = lines;
      place = omega (arith, ap length lines.front, length-append (commit_lines tree had.parents) end);
      begins = begins;
      no_parent = ends;
    }
