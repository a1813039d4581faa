-- What is known of a pair of trees is so of it in the other order.
use Rattle.std.proofs.Common.{◌≡◌, ℕ, true, List, Option, inl, inr, sym, subst}
use Rattle.octets.specs.BytesMap.{BytesMap}
use Rattle.rule_files.specs.declared.rules.RuleFile.{RuleFile}
use Rattle.tree_paths.specs.Changes.{AreChanged}
use Rattle.tree_paths.specs.Readings.{Trees}
use Rattle.tree_paths.specs.Roots.{root_ended}
use Rattle.tree_paths.specs.States.{PathValue, is_sound, map_at}
use Rattle.entry_rules.specs.Learning.{AreWhole, IsFirst, IsPair}
use Rattle.entry_rules.specs.declared.roots.Roots.{Roots}

-- two maps differ where the second differs from the first
turned : (from to : BytesMap PathValue) (paths : List (List ℕ)) → AreChanged from to paths → AreChanged to from paths
turned from to paths are = record {
  rising = are.rising;
  changed = λ path. (λ has same. (are.changed path).0 has (sym same), λ differ. (are.changed path).1 (λ same. differ (sym same)));
}

module _ (trees : Trees) (row roots : Roots) (pair : IsPair row roots) where
  sound : (o p : Option (List ℕ)) → o ≡ p → is_sound (root_ended trees o) ≡ true → is_sound (root_ended trees p) ≡ true
  sound o p same is = subst (λ (x : Option (List ℕ)). is_sound (root_ended trees x) ≡ true) same is

  pub whole_pair : AreWhole trees row → AreWhole trees roots
  whole_pair whole = elim pair [
    | inl same ↦ record { from_whole = sound row.from roots.from same.0 whole.from_whole; to_whole = sound row.to roots.to same.1 whole.to_whole }
    | inr other ↦ record { from_whole = sound row.to roots.from other.1 whole.to_whole; to_whole = sound row.from roots.to other.0 whole.from_whole }
  ]

  abbrev Changed : Option (List ℕ) → Option (List ℕ) → List (List ℕ) → Type 0
  Changed from to paths = AreChanged (map_at (root_ended trees from)) (map_at (root_ended trees to)) paths

  moved : (a b c d : Option (List ℕ)) (paths : List (List ℕ)) → a ≡ c → b ≡ d → Changed a b paths → Changed c d paths
  moved a b c d paths first second are =
      subst (λ (x : Option (List ℕ)). Changed c x paths) second (subst (λ (x : Option (List ℕ)). Changed x b paths) first are)

  pub changed_pair : (paths : List (List ℕ)) → Changed row.from row.to paths → Changed roots.from roots.to paths
  changed_pair paths are = elim pair [
    | inl same ↦ moved row.from row.to roots.from roots.to paths same.0 same.1 are
    | inr other ↦ moved row.to row.from roots.from roots.to paths other.1 other.0 (turned (map_at (root_ended trees row.from)) (map_at (root_ended trees row.to)) paths are)
  ]

  pub first_pair : (files : List RuleFile) (signers : List (List ℕ)) (first : Option (List ℕ)) → IsFirst trees files signers row first → IsFirst trees files signers roots first
  first_pair files signers first is = record {
    whole = whole_pair is.whole;
    paths = is.paths;
    changed = changed_pair is.paths is.changed;
    is = is.is;
  }
