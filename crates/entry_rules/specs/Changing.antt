-- What changed between two states, and the least of the changed paths that is not met.
use Rattle.std.specs.Prelude.{◌++◌, [], ◌∷◌, ℕ, Bool, List, Option, Some, None, map, not, if◌then◌else◌}
use Rattle.std.specs.FinMap.{get}
use Rattle.std.specs.List.{filter}
use Rattle.std.specs.Ordering.{is_gt}
use Rattle.octets.specs.BytesMap.{by_bytes}
use Rattle.rule_files.specs.declared.rules.RuleFile.{RuleFile}
use Rattle.tree_paths.specs.Pairings.{alike}
use Rattle.tree_paths.specs.States.{Ended, map_at, path_values, steps_in}
use Rattle.entry_rules.specs.Meeting.{file_name, meets}

-- the paths of a state
abbrev pub paths_of : Ended → List (List ℕ)
paths_of e = map (λ v. v.0) (path_values (steps_in e))

-- two states differ at a path: another mode or id, or only one has it
abbrev pub differs : Ended → Ended → List ℕ → Bool
differs s t path = not (alike (get (map_at s) path) (get (map_at t) path))

-- the paths at which they differ, one that both have twice
abbrev pub changed : Ended → Ended → List (List ℕ)
changed s t = filter (differs s t) (paths_of s ++ paths_of t)

-- the least text of a list, in the order of bytes
abbrev pub lesser : List ℕ → Option (List ℕ) → List ℕ
lesser x None = x
lesser x (Some y) = if is_gt (by_bytes x y) then y else x

abbrev pub least_of : List (List ℕ) → Option (List ℕ)
least_of [] = None
least_of (x ∷ xs) = Some (lesser x (least_of xs))

-- a path that is not met by the signers
abbrev pub is_unmet : List RuleFile → List (List ℕ) → List ℕ → Bool
is_unmet files signers path = not (meets files (file_name path) signers)

-- the least changed path that is not met
abbrev pub least_unmet : List RuleFile → List (List ℕ) → Ended → Ended → Option (List ℕ)
least_unmet files signers s t = least_of (filter (is_unmet files signers) (changed s t))
