-- What is learned of the states of a repository: its trees, which pairs of them are whole, and which of the paths at
-- which two differ is the first that signers do not meet.
use Rattle.std.specs.Prelude.{◌≡◌, ◌⊎◌, ℕ, true, List, Option, Some, IfSome}
use Rattle.std.specs.List.{AllByRecursion, find}
use Rattle.git_object.specs.Repository.{Repository}
use Rattle.keeper_api.specs.declared.keepers.Keeper as keeper
use Rattle.rule_files.specs.declared.rules.RuleFile.{RuleFile}
use Rattle.tree_paths.specs.Changes.{AreChanged}
use Rattle.tree_paths.specs.Known as trees_
use Rattle.tree_paths.specs.Readings.{Readings, Trees}
use Rattle.tree_paths.specs.Repositories.{readings_of}
use Rattle.tree_paths.specs.Roots.{root_ended}
use Rattle.tree_paths.specs.States.{is_sound, map_at, walk_of}
use Rattle.entry_rules.specs.Changing.{is_unmet}
use Rattle.entry_rules.specs.declared.known_changes.KnownChange.{KnownChange}
use Rattle.entry_rules.specs.declared.known_changes.KnownChanges.{KnownChanges}
use Rattle.entry_rules.specs.declared.known_changes.Lesson.{Lesson}
use Rattle.entry_rules.specs.declared.known_changes.Taught.{Taught}
use Rattle.entry_rules.specs.declared.learned.Learned.{Learned}
use Rattle.entry_rules.specs.declared.roots.Roots.{Roots}

-- the walks of two targets are those of these trees
pub record AreRoots (readings : Readings) (from to : List ℕ) (roots : Roots) : Type 0 where
  pub from_is : walk_of readings from ≡ root_ended readings.trees roots.from
  pub to_is : walk_of readings to ≡ root_ended readings.trees roots.to

-- a pair of trees is another, in either order
abbrev pub IsPair : Roots → Roots → Type 0
IsPair row roots = ((row.from ≡ roots.from) × (row.to ≡ roots.to)) ⊎ ((row.from ≡ roots.to) × (row.to ≡ roots.from))

-- neither state is broken
pub record AreWhole (trees : Trees) (roots : Roots) : Type 0 where
  pub from_whole : is_sound (root_ended trees roots.from) ≡ true
  pub to_whole : is_sound (root_ended trees roots.to) ≡ true

-- neither is, and this is the first of the paths at which they differ that the signers do not meet
pub record IsFirst (trees : Trees) (files : List RuleFile) (signers : List (List ℕ)) (roots : Roots)
    (first : Option (List ℕ)) : Type 0 where
  pub whole : AreWhole trees roots
  pub paths : List (List ℕ)
  pub changed : AreChanged (map_at (root_ended trees roots.from)) (map_at (root_ended trees roots.to)) paths
  pub is : first ≡ find (is_unmet files signers) paths

-- a row of what is known
pub record IsRow (trees : Trees) (files : List RuleFile) (row : KnownChange) : Type 0 where
  pub whole : AreWhole trees row.roots
  pub found : IfSome row.found (λ found. IsFirst trees files found.signers row.roots found.first)

-- what is known of changes is so
abbrev pub Hold : Trees → KnownChanges → Type 0
Hold trees changes = AllByRecursion (IsRow trees changes.files) changes.rows

-- what an entry taught is so
abbrev pub IsTaught : Trees → Taught → Type 0
IsTaught trees taught = IsRow trees taught.files taught.row

abbrev pub IsLesson : Trees → Lesson → Type 0
IsLesson trees lesson = IfSome lesson.taught (IsTaught trees)

-- what was learned is so in this repository
pub record AreKnownIn (r : Repository) (learned : Learned) : Type 0 where
  pub trees : trees_.AreKnownIn r learned.trees
  pub changes : Hold (readings_of r).trees learned.changes

-- a store and a lesson that are lent are the same ones, it came by calls that make no commit, and what the first was taught
-- is so, or more
pub record Leads {R : Type 0} (k : keeper.Ghosts R) (lent lent_now taught taught_now : ℕ) (old new : R)
    (was now : Lesson) : Type 0 where
  pub same : lent_now ≡ lent
  pub same_lesson : taught_now ≡ taught
  pub comes : (first : R) → k.comes first old → k.comes first new
  pub lesson : (r : Repository) → k.content new ≡ Some r → IsLesson (readings_of r).trees was
      → IsLesson (readings_of r).trees now
