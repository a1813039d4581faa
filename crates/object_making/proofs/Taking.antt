-- What was read of a listing, and what its text can be.
use Rattle.std.proofs.Common.{◌≡◌, ◌≤◌, ◌<◌, ◌+◌, ◌⊎◌, ℕ, List, [], ◌∷◌, ◌++◌, length, inl, inr, refl, sym, ap, ◌∙◌, arith}
use Rattle.std.specs.List.{AllByRecursion}
use Rattle.std.proofs.lemmas.List.{length-append, length-map, map-append}
use Rattle.git_object.proofs.Runs.{all_push}
use Rattle.git_object.specs.Modes.{mode_text}
use Rattle.git_object.specs.declared.modes.Mode.{Mode}
use Rattle.git_object.specs.declared.modes.Mode.TheVariants.{Dir, File, Exec, Link, Module}
use Rattle.object_making.proofs.Fronts.{same_row}
use Rattle.object_making.specs.Rows.{AreRows, IsListingText, IsRow, Row, path_bytes, row_then, rows_then}
use Rattle.object_making.specs.Reading.{IsNoListing, IsRead, Lists, blob_of, listed_of}
use Rattle.object_making.specs.declared.listings.Listing.{Listing}

-- these rows stand in front of the text, and so much is left for the paths of the rest
pub record HasTaken (text rest : List ℕ) (listing : Listing) (room : ℕ) : Type 0 where
  pub rows : List Row
  pub text_is : text ≡ rows_then rows rest
  pub are : AreRows rows
  pub lists : Lists rows listing
  pub room_is : room + path_bytes rows ≡ 67108864

then_more : (rows : List Row) (row : Row) (rest : List ℕ) → rows_then (rows ++ row ∷ []) rest ≡ rows_then rows (row_then row rest)
then_more [] row rest = refl
then_more (first ∷ rows) row rest = ap (row_then first) (then_more rows row rest)

path_bytes-append : (rows more : List Row) → path_bytes (rows ++ more) ≡ path_bytes rows + path_bytes more
path_bytes-append [] more = omega arith
path_bytes-append (row ∷ rows) more = omega (arith, path_bytes-append rows more)

-- a row begins with a digit
mode_then : (mode : Mode) (rest : List ℕ) → mode_text mode ++ rest ≡ [] → ⊥
mode_then Dir rest same = cc
mode_then File rest same = cc
mode_then Exec rest same = cc
mode_then Link rest same = cc
mode_then Module rest same = cc

not_empty : (row : Row) (rest : List ℕ) → row_then row rest ≡ [] → ⊥
not_empty row rest same = mode_then row.mode _ same

-- the rows of a text are those in front of it and then others
pub record GoesOn (rows all : List Row) (rest : List ℕ) : Type 0 where
  pub more : List Row
  pub all_is : all ≡ rows ++ more
  pub rest_is : rest ≡ rows_then more []
  pub each : AllByRecursion IsRow more

goes_on : (rows all : List Row) (rest : List ℕ) → AllByRecursion IsRow rows → AllByRecursion IsRow all → rows_then rows rest ≡ rows_then all [] → GoesOn rows all rest
goes_on [] all rest is are same = record { more = all; all_is = refl; rest_is = same; each = are }
goes_on (row ∷ rows) [] rest is are same = absurd (not_empty row (rows_then rows rest) same)
goes_on (row ∷ rows) (first ∷ all) rest is are same =
    let one = same_row row first (rows_then rows rest) (rows_then all []) is.0 are.0 same in
    let next = goes_on rows all rest is.1 are.1 one.1 in
    record {
      more = next.more;
      all_is = (λ i. sym one.0 i ∷ all) ∙ ap (λ (l : List Row). row ∷ l) next.all_is;
      rest_is = next.rest_is;
      each = next.each;
    }

module _ (text rest : List ℕ) (listing : Listing) (room : ℕ) (taken : HasTaken text rest listing room) where
  others : (all : List Row) → IsListingText all text → GoesOn taken.rows all rest
  others all is = goes_on taken.rows all rest taken.are.each is.are.each (sym taken.text_is ∙ is.text_is)

  no_others : (all more : List Row) → IsListingText all text → all ≡ taken.rows ++ more → rest ≡ rows_then more [] → AllByRecursion IsRow more → (rest ≡ [] → ⊥)
      → ((row : Row) (after : List ℕ) → IsRow row → rest ≡ row_then row after → ⊥) → ⊥
  no_others all [] is all_is rest_is each some none = some rest_is
  no_others all (row ∷ more) is all_is rest_is each some none = none row (rows_then more []) each.0 rest_is

  -- something stands there, and no row
  pub no_row : (rest ≡ [] → ⊥) → ((row : Row) (after : List ℕ) → IsRow row → rest ≡ row_then row after → ⊥) → IsNoListing text
  no_row some none all is = (let next = others all is in no_others all next.more is next.all_is next.rest_is next.each some none)

  past : (all more : List Row) (row : Row) (after : List ℕ) → IsListingText all text → all ≡ taken.rows ++ more → rest ≡ rows_then more [] → AllByRecursion IsRow more → IsRow row → rest ≡ row_then row after
      → (262144 ≤ length listing.listed) ⊎ (room < length row.path) → ⊥
  past all [] row after is all_is rest_is each one found limit = not_empty row after (sym found ∙ rest_is)
  past all (other ∷ more) row after is all_is rest_is each one found limit =
      let same = (same_row other row (rows_then more []) after each.0 one (sym rest_is ∙ found)).0 in
      let count : length all ≡ length taken.rows + (length more + 1) = omega (arith, ap (λ (l : List Row). length l) all_is, length-append taken.rows (other ∷ more)) in
      let so_far : length listing.listed ≡ length taken.rows = ap (λ (l : List _). length l) taken.lists.listed ∙ length-map taken.rows listed_of in
      let bytes : path_bytes all ≡ path_bytes taken.rows + (length row.path + path_bytes more) =
      ap path_bytes all_is ∙ path_bytes-append taken.rows (other ∷ more) ∙ ap (λ (r : Row). path_bytes taken.rows + (length r.path + path_bytes more)) same in
      elim limit [
        | inl many ↦ omega (arith, many, count, so_far, is.are.few)
        | inr long ↦ omega (arith, long, bytes, taken.room_is, is.are.short)
      ]

  -- the row that stands there passes a limit
  pub passes : (row : Row) (after : List ℕ) → IsRow row → rest ≡ row_then row after → (262144 ≤ length listing.listed) ⊎ (room < length row.path) → IsNoListing text
  passes row after one found limit all is = (let next = others all is in past all next.more row after is next.all_is next.rest_is next.each one found limit)

  -- one row more
  pub one_more : (row : Row) (after : List ℕ) (next : Listing) (left : ℕ) → IsRow row → rest ≡ row_then row after → length listing.listed < 262144 → left + length row.path ≡ room
      → next.listed ≡ listing.listed ++ listed_of row ∷ [] → next.blobs ≡ listing.blobs ++ blob_of row ∷ [] → HasTaken text after next left
  one_more row after next left one found few left_is listed blobs = record {
    rows = taken.rows ++ row ∷ [];
    text_is = taken.text_is ∙ ap (rows_then taken.rows) found ∙ sym (then_more taken.rows row after);
    are = record {
      each = all_push IsRow taken.rows row taken.are.each one;
      few = omega (arith, few, length-append taken.rows (row ∷ []), so_far);
      short = omega (arith, bytes, taken.room_is, left_is);
    };
    lists = record {
      listed = listed ∙ ap (λ (l : List _). l ++ listed_of row ∷ []) taken.lists.listed ∙ sym (map-append listed_of taken.rows (row ∷ []));
      blobs = blobs ∙ ap (λ (l : List _). l ++ blob_of row ∷ []) taken.lists.blobs ∙ sym (map-append blob_of taken.rows (row ∷ []));
    };
    room_is = omega (arith, bytes, taken.room_is, left_is);
  }
    where
      so_far : length listing.listed ≡ length taken.rows
      so_far = ap (λ (l : List _). length l) taken.lists.listed ∙ length-map taken.rows listed_of

      bytes : path_bytes (taken.rows ++ row ∷ []) ≡ path_bytes taken.rows + (length row.path + 0)
      bytes = path_bytes-append taken.rows (row ∷ [])

-- all was read
pub whole : (text : List ℕ) (listing : Listing) (room : ℕ) → HasTaken text [] listing room → IsRead text listing
whole text listing room taken = record { rows = taken.rows; has = record { are = taken.are; text_is = taken.text_is }; lists = taken.lists }

pub none_yet : (text : List ℕ) (listing : Listing) → listing.listed ≡ [] → listing.blobs ≡ [] → HasTaken text text listing 67108864
none_yet text listing listed blobs = record {
  rows = [];
  text_is = refl;
  are = record { each = tt; few = omega arith; short = omega arith };
  lists = record { listed = listed; blobs = blobs };
  room_is = refl;
}
