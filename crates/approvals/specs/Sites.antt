-- Where an approval is put among the attestations of a target.
use Rattle.std.specs.Prelude.{◌≡◌, ℕ, List, Err}
use Rattle.git_object.specs.Names.{components}
use Rattle.git_object.specs.Objects.{pair_id}
use Rattle.git_object.specs.Repository.{Repository}
use Rattle.tree_paths.specs.Readings.{Trees}
use Rattle.tree_paths.specs.declared.heads.Peeled.{Peeled}
use Rattle.dsse_envelope.specs.declared.envelope.Envelope.{Envelope}
use Rattle.approvals.specs.Attesting.{approval_pair, attested, attested_after, attested_with}
use Rattle.approvals.specs.Files.{Putting}
use Rattle.approvals.specs.Levels.{IsFit, put_levels}
use Rattle.approvals.specs.declared.sites.Site.{Site}

-- an approval can be put there
abbrev pub IsFitSite : Site → Type 0
IsFitSite site = IsFit site.path site.levels

-- the new trees with a blob
abbrev pub put_at : Site → List ℕ → Putting
put_at site blob = put_levels blob (components site.path) site.levels

-- whatever approval is put, and whoever writes the commit, the change is the one by what was read
abbrev pub GivesAfter : Trees → List (List ℕ) → Peeled → Site → Type 0
GivesAfter trees names root site =
    (envelope : Envelope) (author : List ℕ) → attested_after trees (approval_pair envelope) author names root
    ≡ attested_with (approval_pair envelope) author site.parent (put_at site (pair_id (approval_pair envelope)))

abbrev pub RefusesAfter : Trees → List (List ℕ) → Peeled → List ℕ → Type 0
RefusesAfter trees names root id = (envelope : Envelope) (author : List ℕ)
    → attested_after trees (approval_pair envelope) author names root ≡ Err id

-- the same of the attestations of a target
pub record IsSiteOf (r : Repository) (target name from tree : List ℕ) (site : Site) : Type 0 where
  pub gives : (envelope : Envelope) (author : List ℕ) → attested r target name from tree envelope author
      ≡ attested_with (approval_pair envelope) author site.parent (put_at site (pair_id (approval_pair envelope)))

-- an object is in the way of each
pub record IsInWayOf (r : Repository) (target name from tree id : List ℕ) : Type 0 where
  pub refuses : (envelope : Envelope) (author : List ℕ) → attested r target name from tree envelope author ≡ Err id
