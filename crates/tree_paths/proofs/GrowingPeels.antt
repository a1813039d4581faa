-- A target that is peeled to a tree, or is none, is peeled to the same where there are more commits and tags.
use Rattle.std.proofs.Common.{◌≡◌, ℕ, suc, zero, Bool, true, false, cond, List, [], Option, Some, None, refl, sym, ap, ◌∙◌}
use Rattle.std.specs.Str.{bytes_eq}
use Rattle.std.proofs.lemmas.Bool.{false≢true}
use Rattle.git_object.specs.Ids.{zeros}
use Rattle.git_object.specs.declared.kinds.Kind.{Kind}
use Rattle.tree_paths.specs.Readings.{Heads, Readings}
use Rattle.tree_paths.specs.States.{ended, ended_by, is_sound, may_be_tag, peel_step, peeled, root_of, walk_of}
use Rattle.tree_paths.specs.Walks.{judge, no_counts, steps}
use Rattle.tree_paths.specs.declared.counts.Walked.{Walked}
use Rattle.tree_paths.specs.declared.counts.Walked.TheVariants as walked
use Rattle.tree_paths.specs.declared.heads.TargetHead.{TargetHead}
use Rattle.tree_paths.specs.declared.heads.TargetHead.TheVariants.{Next, Other, Root}
use Rattle.tree_paths.specs.declared.heads.Peeled.{Peeled}
use Rattle.tree_paths.specs.declared.heads.Peeled.TheVariants.{At, Bad, Nothing}
use Rattle.tree_paths.specs.Growing.{MoreHeads, MoreReadings}
use Rattle.tree_paths.proofs.GrowingWalks.{steps_same}

abbrev pub is_good : Peeled → Bool
is_good Nothing = true
is_good (Bad id) = false
is_good (At id tree) = true

not_bad : (id : List ℕ) (p : Peeled) (P : Type 0) → Bad id ≡ p → is_good p ≡ true → P
not_bad id p P e good = absurd (false≢true (ap is_good e ∙ good))

module _ (few more : Heads) (grown : MoreHeads few more) where
  step_same : (next after : List ℕ → Kind → Peeled) (p : Peeled) → is_good p ≡ true → ((object : List ℕ) (names : Kind) → next object names ≡ p → after object names ≡ p)
      → (id : List ℕ) (wanted : Option Kind) → peel_step next id wanted (few id) ≡ p → peel_step after id wanted (more id) ≡ p
  step_same next after p good all id wanted e = by_head (few id) refl e where
    by_test : (b : Bool) (object : List ℕ) (names : Kind) → cond b (next object names) (Bad id) ≡ p → cond b (after object names) (Bad id) ≡ p
    by_test true object names e = all object names e
    by_test false object names e = not_bad id p (Bad id ≡ p) e good

    by_head : (h : TargetHead) → few id ≡ h → peel_step next id wanted h ≡ p → peel_step after id wanted (more id) ≡ p
    by_head Other is e = not_bad id p (peel_step after id wanted (more id) ≡ p) e good
    by_head (Root tree) is e = ap (peel_step after id wanted) (grown.roots id tree is) ∙ e
    by_head (Next object names) is e = ap (peel_step after id wanted) (grown.nexts id object names is) ∙ by_test (may_be_tag wanted) object names e

  pub peeled_same : (n : ℕ) (wanted : Option Kind) (id : List ℕ) (p : Peeled) → is_good p ≡ true → peeled few n wanted id ≡ p → peeled more n wanted id ≡ p
  unfolding peeled
  peeled_same zero wanted id p good e = step_same (λ object names. Bad id) (λ object names. Bad id) p good (λ object names e. e) id wanted e
  peeled_same (suc n) wanted id p good e =
      step_same (λ object names. peeled few n (Some names) object) (λ object names. peeled more n (Some names) object) p good
      (λ object names. peeled_same n (Some names) object p good) id wanted e

  pub root_same : (target : List ℕ) (p : Peeled) → is_good p ≡ true → root_of few target ≡ p → root_of more target ≡ p
  root_same target p good e = by_test (bytes_eq target zeros) e where
    by_test : (b : Bool) → cond b Nothing (peeled few 8 None target) ≡ p → cond b Nothing (peeled more 8 None target) ≡ p
    by_test true e = e
    by_test false e = peeled_same 8 None target p good e

module _ (few more : Readings) (grown : MoreReadings few more) where
  pub tree_same : (tree : List ℕ) → is_sound (ended_by tree (steps few.trees 32 [] tree) (judge few.trees (steps few.trees 32 [] tree) no_counts)) ≡ true
      → ended_by tree (steps more.trees 32 [] tree) (judge more.trees (steps more.trees 32 [] tree) no_counts)
      ≡ ended_by tree (steps few.trees 32 [] tree) (judge few.trees (steps few.trees 32 [] tree) no_counts)
  tree_same tree sound = by_walk (judge few.trees (steps few.trees 32 [] tree) no_counts) refl sound where
    by_walk : (w : Walked) → judge few.trees (steps few.trees 32 [] tree) no_counts ≡ w → is_sound (ended_by tree (steps few.trees 32 [] tree) w) ≡ true
        → ended_by tree (steps more.trees 32 [] tree) (judge more.trees (steps more.trees 32 [] tree) no_counts)
        ≡ ended_by tree (steps few.trees 32 [] tree) (judge few.trees (steps few.trees 32 [] tree) no_counts)
    by_walk (walked.Broken id) is sound = absurd (false≢true sound)
    by_walk (walked.Counted c) is sound =
        let same = steps_same few.trees more.trees grown.trees 32 [] tree no_counts c is in
        ap (λ ss. ended_by tree ss (judge more.trees ss no_counts)) same.steps_are
        ∙ ap (ended_by tree (steps few.trees 32 [] tree)) (same.counts ∙ sym is)

  pub walk_same : (target : List ℕ) → is_sound (walk_of few target) ≡ true → walk_of more target ≡ walk_of few target
  walk_same target sound = by_root (root_of few.heads target) refl sound where
    by_root : (p : Peeled) → root_of few.heads target ≡ p → is_sound (ended few.trees p) ≡ true → walk_of more target ≡ walk_of few target
    by_root Nothing is sound = ap (ended more.trees) (root_same few.heads more.heads grown.heads target Nothing refl is) ∙ sym (ap (ended few.trees) is)
    by_root (Bad id) is sound = absurd (false≢true sound)
    by_root (At id tree) is sound =
        ap (ended more.trees) (root_same few.heads more.heads grown.heads target (At id tree) refl is) ∙ tree_same tree sound ∙ sym (ap (ended few.trees) is)
