-- What is told of one path more.
use Rattle.std.proofs.Common.{◌≡◌, ◌<◌, ◌+◌, ◌++◌, ℕ, List, [], ◌∷◌, Option, Some, None, length, take, get_or, refl, ap, sym, ◌∙◌, append_assoc}
use Rattle.std.proofs.lemmas.List.{append-nil, take_more}
use Rattle.rule_files.specs.declared.rules.RuleFile.{RuleFile}
use Rattle.entry_rules.specs.declared.faults.Fault.{Fault}
use Rattle.would_be.specs.Would.{one, path_told, paths_told}

pub nothing_more : (xs : List Fault) → xs ≡ xs ++ one None
nothing_more xs = sym (append-nil xs)

module _ (files : List RuleFile) (signers : List (List ℕ)) where
  told_push : (paths : List (List ℕ)) (path : List ℕ) → paths_told files signers (paths ++ path ∷ []) ≡ paths_told files signers paths ++ one (path_told files signers path)
  told_push [] path = append-nil (one (path_told files signers path))
  told_push (x ∷ xs) path =
      ap (λ (fs : List Fault). one (path_told files signers x) ++ fs) (told_push xs path)
      ∙ sym (append_assoc (one (path_told files signers x)) (paths_told files signers xs) (one (path_told files signers path)))

  pub told_more : (first was now : List Fault) (paths : List (List ℕ)) (i : ℕ) (path : List ℕ) → i < length paths → path ≡ get_or paths i path
      → was ≡ first ++ paths_told files signers (take i paths) → now ≡ was ++ one (path_told files signers path) → now ≡ first ++ paths_told files signers (take (i + 1) paths)
  told_more first was now paths i path within is before pushed =
      pushed ∙ ap (λ (fs : List Fault). fs ++ one (path_told files signers path)) before
      ∙ append_assoc first (paths_told files signers (take i paths)) (one (path_told files signers path))
      ∙ ap (λ (fs : List Fault). first ++ fs) (sym (told_push (take i paths) path)
      ∙ ap (λ p. paths_told files signers (take i paths ++ p ∷ [])) is ∙ ap (paths_told files signers) (sym (take_more paths i path within)))
