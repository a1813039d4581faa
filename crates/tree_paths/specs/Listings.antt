-- The paths of a walk, and how many trees it visits.
use Rattle.std.specs.Prelude.{◌+◌, ◌∷◌, [], ℕ, List}
use Rattle.tree_paths.specs.Pairings.{visits_in}
use Rattle.tree_paths.specs.Readings.{Readings, Trees}
use Rattle.tree_paths.specs.States.{root_of}
use Rattle.tree_paths.specs.Walks.{Leaf, Step, Visit, steps}
use Rattle.tree_paths.specs.declared.heads.Peeled.{Peeled}
use Rattle.tree_paths.specs.declared.heads.Peeled.TheVariants.{At, Bad, Nothing}

abbrev pub leaves : List Step → List (List ℕ)
leaves [] = []
leaves (Visit left place id ∷ ss) = leaves ss
leaves (Leaf holder path mode id ∷ ss) = path ∷ leaves ss

abbrev pub visits : List Step → ℕ
visits [] = 0
visits (x ∷ xs) = visits_in x + visits xs

-- how many trees the whole walk of a target visits, whether it is broken or not
abbrev pub visits_below : Trees → Peeled → ℕ
visits_below trees Nothing = 0
visits_below trees (Bad id) = 0
visits_below trees (At commit tree) = visits (steps trees 32 [] tree)

abbrev pub walk_visits : Readings → List ℕ → ℕ
walk_visits readings target = visits_below readings.trees (root_of readings.heads target)
