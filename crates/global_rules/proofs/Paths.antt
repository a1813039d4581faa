-- What a comparison says of the paths that changed.
use Rattle.std.proofs.Common.{◌≡◌, ◌&&◌, ℕ, Bool, true, false, List, [], sym, ap, subst, ◌∙◌, inl, inr}
use Rattle.std.proofs.lemmas.Bool.{true≢false}
use Rattle.tree_paths.specs.Changes.{IsChange, IsComparison}
use Rattle.tree_paths.specs.States.{Ended, is_sound}
use Rattle.tree_paths.specs.declared.states.Comparison.{Comparison}
use Rattle.tree_paths.specs.declared.states.Comparison.TheVariants as comparison
use Rattle.global_rules.specs.Whys.{AreChangedPaths}

not_both : (s t : Ended) (id : List ℕ) → IsComparison s t (comparison.Broken id) → (is_sound s && is_sound t) ≡ false
not_both s t id is = elim is [
  | inl from ↦ ap (λ (e : Ended). is_sound e && is_sound t) from
  | inr to ↦ ap (λ b. b && is_sound t) to.0 ∙ ap is_sound to.1
]

pub none_changed : (s t : Ended) (found : Comparison) (id : List ℕ) (paths : List (List ℕ)) → found ≡ comparison.Broken id → IsComparison s t found → paths ≡ [] → AreChangedPaths s t paths
none_changed s t found id paths broken is none =
    let not : (is_sound s && is_sound t) ≡ false = not_both s t id (subst (IsComparison s t) broken is) in
    record {
      sound = λ both. absurd (true≢false (sym both ∙ not));
      broken = λ _. none;
    }

pub some_changed : (s t : Ended) (found : Comparison) (from to : List ℕ) (paths : List (List ℕ)) → found ≡ comparison.Changed from to paths → IsComparison s t found → AreChangedPaths s t paths
some_changed s t found from to paths changed is =
    let change : IsChange s t from to paths = subst (IsComparison s t) changed is in
    let both : (is_sound s && is_sound t) ≡ true = ap (λ (b : Bool). b && is_sound t) change.from_sound ∙ change.to_sound in
    record {
      sound = λ _. change.changed;
      broken = λ not. absurd (true≢false (sym both ∙ not));
    }
