-- What is read of a listing: its paths in its order, and a blob for each.
use Rattle.std.specs.Prelude.{◌≡◌, ℕ, List, map}
use Rattle.git_object.specs.Objects.{Pair, object_id}
use Rattle.git_object.specs.declared.kinds.Kind.TheVariants.{Blob}
use Rattle.git_object.specs.declared.modes.Mode.{Mode}
use Rattle.object_making.specs.declared.listed.Listed.{Listed}
use Rattle.object_making.specs.Rows.{IsListingText, Row}
use Rattle.object_making.specs.declared.listings.Listing.{Listing}

abbrev pub row_of : Mode → List ℕ → List ℕ → Row
row_of mode path body = record { mode = mode; path = path; body = body }

-- a row's bytes as an object
abbrev pub blob_of : Row → Pair
blob_of row = record { kind = Blob; body = row.body }

-- a row's path, with the id of that
abbrev pub listed_of : Row → Listed
listed_of row = record { path = row.path; mode = row.mode; id = object_id Blob row.body }

-- the paths and the blobs of these rows
pub record Lists (rows : List Row) (listing : Listing) : Type 0 where
  pub listed : listing.listed ≡ map listed_of rows
  pub blobs : listing.blobs ≡ map blob_of rows

-- of the rows that the text has
pub record IsRead (text : List ℕ) (listing : Listing) : Type 0 where
  pub rows : List Row
  pub has : IsListingText rows text
  pub lists : Lists rows listing

-- the text is no listing's
abbrev pub IsNoListing : List ℕ → Type 0
IsNoListing text = (rows : List Row) → IsListingText rows text → ⊥
