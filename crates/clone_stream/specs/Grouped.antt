-- Object records that stand whole in what is buffered, each under the id that its line says, and what reading is after
-- some of them were taken.
use Rattle.std.specs.Prelude.{◌≡◌, ◌≤◌, ◌<◌, ◌++◌, [], ◌∷◌, ℕ, List, Option, length}
use Rattle.std.specs.Bool.{⊤}
use Rattle.buffered_reader.specs.Ahead.{Reading, ahead, past}
use Rattle.git_object.specs.Ids.{IsId}
use Rattle.git_object.specs.Objects.{Pair}
use Rattle.git_object.specs.Repository.{largest_body}
use Rattle.keeper_api.specs.declared.changes.RefChange.{RefChange}
use Rattle.object_lanes.specs.declared.heads.Unnamed.{Unnamed}
use Rattle.clone_stream.specs.Fronts.{ReadSoFar}
use Rattle.clone_stream.specs.Streams.{object_record}
use Rattle.clone_stream.specs.declared.whole_records.Claim.{Claim}

-- the object without its id
abbrev pub pair_of : Unnamed → Pair
pair_of object = record { kind = object.kind; body = object.body }

-- the record of an object under the id that its line says
abbrev pub claimed_record : Claim → Unnamed → List ℕ
claimed_record claim object = object_record (claim.id, pair_of object)

-- the records, in order
abbrev pub claimed_text : List Claim → List Unnamed → List ℕ
claimed_text [] objects = []
claimed_text (claim ∷ claims) [] = []
claimed_text (claim ∷ claims) (object ∷ objects) = claimed_record claim object ++ claimed_text claims objects

-- an id, a body within the limit, and how many bytes the record has
pub record IsClaim (claim : Claim) (object : Unnamed) : Type 0 where
  pub is_id : IsId claim.id
  pub small : length object.body ≤ largest_body
  pub long : claim.len ≡ length (claimed_record claim object)

-- each object has its claim
abbrev pub AreClaims : List Claim → List Unnamed → Type 0
AreClaims [] [] = ⊤
AreClaims [] (object ∷ objects) = ⊥
AreClaims (claim ∷ claims) [] = ⊥
AreClaims (claim ∷ claims) (object ∷ objects) = IsClaim claim object × AreClaims claims objects

-- these records stand in front of a text
pub record Stand (claims : List Claim) (objects : List Unnamed) (text : List ℕ) : Type 0 where
  pub rest : List ℕ
  pub whole : text ≡ claimed_text claims objects ++ rest
  pub are : AreClaims claims objects

-- the record of this object stands in front of a text
pub record StandsFirst (claim : Claim) (object : Unnamed) (text : List ℕ) : Type 0 where
  pub rest : List ℕ
  pub whole : text ≡ claimed_record claim object ++ rest
  pub is : IsClaim claim object

-- what was read so far, whatever it was, goes on to these objects; the source was not asked
pub record GoesOn (objects now : List Pair) (refs : List RefChange) (was is : Reading) : Type 0 where
  pub read : (first left : Option (List ℕ)) (start : ℕ) → ReadSoFar objects refs first (ahead was left) start was.taken
      → ReadSoFar now refs first (ahead is left) start is.taken
  pub past : (left : Option (List ℕ)) → past is left ≡ past was left
  pub limit : is.limit ≡ was.limit
  pub later : was.taken ≤ is.taken
  pub limited : was.taken < is.taken → is.taken ≤ is.limit
