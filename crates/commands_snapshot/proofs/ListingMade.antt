-- The objects that are made of a listing.
use Rattle.std.proofs.Common.{◌≡◌, ◌∙◌, ◌++◌, ℕ, List, [], Option, Some, ap, map, subst, sym}
use Rattle.std.specs.Prelude.{IfSome}
use Rattle.std.proofs.lemmas.List.{append_cancel_left, map-append}
use Rattle.git_object.specs.Objects.{Pair, pair_id}
use Rattle.tree_paths.specs.Readings.{Trees}
use Rattle.tree_paths.specs.States.{path_values}
use Rattle.tree_paths.specs.Walks.{steps}
use Rattle.object_making.specs.Keeping.{Adds, Keeps}
use Rattle.object_making.specs.Listings.{values}
use Rattle.object_making.specs.Made.{AreOpen, tree_ids}
use Rattle.object_making.specs.declared.listed.Listed.{Listed}
use Rattle.object_making.specs.Rows.{Row}
use Rattle.object_making.specs.Reading.{Lists}
use Rattle.object_making.specs.declared.listings.Listing.{Listing}
use Rattle.commands_snapshot.specs.Making.{IsMade}

-- what was answered with the root of the trees, by whatever option holds it
pub is_made : (rows : List Row) (listing : Listing) (listed : List Listed) (objects : List Pair) (root : List ℕ) (made : Option (List ℕ)) → Lists rows listing → listed ≡ listing.listed → Adds listing.blobs objects → made ≡ Some root
    → IfSome made (λ id. (trees : Trees) → Keeps trees objects → path_values (steps trees 32 [] id) ≡ values listed)
    → IfSome made (λ id. (trees : Trees) → Keeps trees objects → map pair_id objects ≡ map pair_id listing.blobs ++ tree_ids trees 32 id)
    → IfSome made (λ id. (trees : Trees) → Keeps trees objects → AreOpen trees (steps trees 32 [] id)) → IsMade rows (record { objects = objects; root = root })
is_made rows listing listed objects root made lists same adds is leads ids visited = record {
  new_trees = adds.more;
  objects_are = adds.is ∙ ap (λ (l : List Pair). l ++ adds.more) lists.blobs;
  are_trees = adds.trees;
  leads = λ trees keeps. here (λ id. (trees : Trees) → Keeps trees objects → path_values (steps trees 32 [] id) ≡ values listed) leads trees keeps ∙ ap values (same ∙ lists.listed);
  only = λ trees keeps.
      append_cancel_left (map pair_id listing.blobs) (map pair_id adds.more) (tree_ids trees 32 root)
      (sym (ap (map pair_id) adds.is ∙ map-append pair_id listing.blobs adds.more)
      ∙ here (λ id. (trees : Trees) → Keeps trees objects → map pair_id objects ≡ map pair_id listing.blobs ++ tree_ids trees 32 id) ids trees keeps);
  visited = here (λ id. (trees : Trees) → Keeps trees objects → AreOpen trees (steps trees 32 [] id)) visited;
}
  where
    here : (P : List ℕ → Type 0) → IfSome made P → P root
    here P told = subst (λ (o : Option (List ℕ)). IfSome o P) is told
