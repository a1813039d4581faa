-- What is made of the listing that the source gives.
use Rattle.std.specs.Prelude.{◌≡◌, ◌≤◌, ◌++◌, [], All, ℕ, Bool, true, false, List, map, length, Option, Result, Ok, Err}
use Rattle.std.specs.List.{AllByRecursion}
use Rattle.octets.specs.Content.{with_front}
use Rattle.edge_io.specs.Read.{HasMore, HasRead, IsAtEnd}
use Rattle.git_object.specs.Repository.{largest_body}
use Rattle.git_object.specs.Objects.{Pair, pair_id}
use Rattle.tree_paths.specs.Readings.{Trees}
use Rattle.tree_paths.specs.States.{path_values}
use Rattle.tree_paths.specs.Walks.{steps}
use Rattle.object_making.specs.Keeping.{IsTreeObject, Keeps}
use Rattle.object_making.specs.Listings.{values}
use Rattle.object_making.specs.Made.{AreOpen, tree_ids}
use Rattle.object_making.specs.Matching.{IsNoTree}
use Rattle.object_making.specs.Rows.{IsListingText, Row}
use Rattle.object_making.specs.Reading.{IsNoListing, blob_of, listed_of}
use Rattle.commands_snapshot.specs.declared.making.InputFault.{InputFault}
use Rattle.commands_snapshot.specs.declared.making.InputFault.TheVariants.{TooLong, NoListing, NoTree, LargeTree}
use Rattle.commands_snapshot.specs.declared.making.InputFault.TheVariants.{SourceFailed, Memory}
use Rattle.commands_snapshot.specs.declared.making.Made.{Made}

-- the objects are a blob for each row and then trees, and whatever trees keep these objects, a walk of the root meets
-- exactly the paths of the rows with their modes and blobs, in their order, visits just the trees that were made, and
-- may visit each
pub record IsMade (rows : List Row) (made : Made) : Type 0 where
  pub new_trees : List Pair
  pub objects_are : made.objects ≡ map blob_of rows ++ new_trees
  pub are_trees : AllByRecursion IsTreeObject new_trees
  pub leads : (trees : Trees) → Keeps trees made.objects → path_values (steps trees 32 [] made.root)
      ≡ values (map listed_of rows)
  pub only : (trees : Trees) → Keeps trees made.objects → map pair_id new_trees ≡ tree_ids trees 32 made.root
  pub visited : (trees : Trees) → Keeps trees made.objects → AreOpen trees (steps trees 32 [] made.root)

-- at most 16 MiB
abbrev pub IsSmall : Pair → Type 0
IsSmall pair = length pair.body ≤ largest_body

-- made of the rows of a text, each object within the limit
pub record MadeOf (text : List ℕ) (made : Made) : Type 0 where
  pub rows : List Row
  pub has : IsListingText rows text
  pub is : IsMade rows made
  pub small : All IsSmall made.objects

-- no trees have the paths of these rows
pub record HasNoTree (text : List ℕ) : Type 0 where
  pub rows : List Row
  pub has : IsListingText rows text
  pub none : IsNoTree 32 [] (map listed_of rows)

-- a tree of these rows is too large
pub record HasLargeTree (text : List ℕ) : Type 0 where
  pub rows : List Row
  pub made : Made
  pub has : IsListingText rows text
  pub is : IsMade rows made
  pub large : All IsSmall made.objects → ⊥

-- why nothing is made of a text
abbrev pub WhyUnmade : List ℕ → InputFault → Type 0
WhyUnmade text TooLong = ⊥
WhyUnmade text NoListing = IsNoListing text
WhyUnmade text NoTree = HasNoTree text
WhyUnmade text LargeTree = HasLargeTree text
WhyUnmade text SourceFailed = ⊥
WhyUnmade text Memory = Unit {0}

-- the fault that the source counts
abbrev pub source_failed : InputFault → Bool
source_failed TooLong = false
source_failed NoListing = false
source_failed NoTree = false
source_failed LargeTree = false
source_failed SourceFailed = true
source_failed Memory = false

-- the source was read to its end, and gave at most 1 GiB
pub record Gives (left left_now : Option (List ℕ)) (text : List ℕ) : Type 0 where
  pub read : left ≡ with_front text left_now
  pub end : IsAtEnd left_now
  pub short : length text ≤ 1073741824

module _ (left left_now : Option (List ℕ)) where
  pub record Takes (made : Made) : Type 0 where
    pub text : List ℕ
    pub gives : Gives left left_now text
    pub made_of : MadeOf text made

  pub record TakesNone (fault : InputFault) : Type 0 where
    pub text : List ℕ
    pub gives : Gives left left_now text
    pub why : WhyUnmade text fault

  -- why nothing was made, and how much of the source is gone
  abbrev pub RefusesInput : InputFault → Type 0
  RefusesInput TooLong = HasMore 1073741824 left left_now
  RefusesInput NoListing = TakesNone NoListing
  RefusesInput NoTree = TakesNone NoTree
  RefusesInput LargeTree = TakesNone LargeTree
  RefusesInput SourceFailed = HasRead 1073741824 left left_now
  RefusesInput Memory = HasRead 1073741824 left left_now

  abbrev pub InputEnds : Result Made InputFault → Type 0
  InputEnds (Ok made) = Takes made
  InputEnds (Err fault) = RefusesInput fault
