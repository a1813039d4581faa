-- What a dossier shows: two entries of one number, and a leaf that signed twice.
use Rattle.std.specs.Prelude.{◌≡◌, ◌≢◌, ◌↔◌, ◌==◌, ◌&&◌, ◌++◌, ◌∷◌, ℕ, Bool, false, not, List, Option, Some, None}
use Rattle.std.specs.Prelude.{Result, Ok, Err, if◌then◌else◌}
use Rattle.std.specs.List.{AllByRecursion}
use Rattle.std.specs.Str.{bytes_eq}
use Rattle.sha2.specs.Sha256.{sha256}
use Rattle.lms_keys.specs.Deciding.{is_good}
use Rattle.lms_keys.specs.SigOk.{SigOk}
use Rattle.rsl_chain.specs.Reading.{entry_of}
use Rattle.rsl_chain.specs.declared.entries.Entry.{Entry}
use Rattle.evidence.specs.Uses.{Use, reuse_of, uses}
use Rattle.evidence.specs.declared.dossiers.Dossier.{Dossier}
use Rattle.evidence.specs.declared.findings.Finding.{Finding}

-- ---- the sides
abbrev pub is_named : Option (List ℕ) → List ℕ → Bool
is_named None public = false
is_named (Some id) public = bytes_eq id (sha256 public)

-- the entry names the key as its signer's, and its signature is good by it
abbrev pub is_signed_by : List ℕ → Entry → Bool
is_signed_by public entry = is_named entry.signer public && is_good public entry.signed entry.signature

abbrev pub where_signed : List ℕ → Result Entry ℕ → Option Entry
where_signed public (Ok entry) = if is_signed_by public entry then Some entry else None
where_signed public (Err line) = None

-- the entry that a body reads as, where the key signed it
abbrev pub signed_in : List ℕ → List ℕ → Option Entry
signed_in public body = where_signed public (entry_of body)

-- ---- the finding
-- one number and two ids
abbrev pub fork_of : Entry → Entry → Option ℕ
fork_of left right = if left.number == right.number && not (bytes_eq left.id right.id) then Some left.number else None

abbrev pub finding_of_both : List ℕ → Entry → Entry → Finding
finding_of_both public left right = record {
  fork = fork_of left right;
  reuse = reuse_of (uses public left.signed left.signature) (uses public right.signed right.signature);
}

abbrev pub nothing_found : Finding
nothing_found = record { fork = None; reuse = None }

abbrev pub finding_by : List ℕ → Option Entry → Option Entry → Finding
finding_by public None right = nothing_found
finding_by public (Some left) None = nothing_found
finding_by public (Some left) (Some right) = finding_of_both public left right

-- nothing where a side is not signed
abbrev pub finding_of : Dossier → Finding
finding_of dossier =
    finding_by dossier.public (signed_in dossier.public dossier.left) (signed_in dossier.public dossier.right)

-- ---- it in a reader's words
-- the body reads as this entry, which names the key as its signer's and is well signed by it
pub record IsSigned (public body : List ℕ) (entry : Entry) : Type 0 where
  pub read : entry_of body ≡ Ok entry
  pub named : entry.signer ≡ Some (sha256 public)
  pub good : SigOk public entry.signed entry.signature

-- the key signed both sides
pub record AreSigned (dossier : Dossier) (left right : Entry) : Type 0 where
  pub is_left : IsSigned dossier.public dossier.left left
  pub is_right : IsSigned dossier.public dossier.right right

-- both sides are entries of this number, and not one entry
pub record IsFork (dossier : Dossier) (number : ℕ) : Type 0 where
  pub left : Entry
  pub right : Entry
  pub signed : AreSigned dossier left right
  pub left_number : left.number ≡ number
  pub right_number : right.number ≡ number
  pub differ : left.id ≢ right.id

-- one of the uses is of the same leaf of the same key, and of another message
pub record IsUsedAgain (used : Use) (others : List Use) : Type 0 where
  pub front : List Use
  pub other : Use
  pub more : List Use
  pub is_among : others ≡ front ++ other ∷ more
  pub key : used.key ≡ other.key
  pub leaf : used.leaf ≡ other.leaf
  pub differs : used.message ≢ other.message

-- the first of these uses that is used again is of this leaf
pub record IsFirstReuse (lefts rights : List Use) (leaf : ℕ) : Type 0 where
  pub front : List Use
  pub used : Use
  pub more : List Use
  pub is_among : lefts ≡ front ++ used ∷ more
  pub is_leaf : used.leaf ≡ leaf
  pub again : IsUsedAgain used rights
  pub first : AllByRecursion (λ earlier. IsUsedAgain earlier rights → ⊥) front

-- the key signed both sides, and this is the first leaf of the left signature that the right one uses again
pub record IsReuse (dossier : Dossier) (leaf : ℕ) : Type 0 where
  pub left : Entry
  pub right : Entry
  pub signed : AreSigned dossier left right
  pub first : IsFirstReuse (uses dossier.public left.signed left.signature)
      (uses dossier.public right.signed right.signature) leaf

-- what is found is what the dossier shows
pub record Findings : Type 0 where
  pub fork : (dossier : Dossier) (number : ℕ)
      → ((finding_of dossier).fork ≡ Some number) ↔ IsFork dossier number
  pub reuse : (dossier : Dossier) (leaf : ℕ) → ((finding_of dossier).reuse ≡ Some leaf) ↔ IsReuse dossier leaf
