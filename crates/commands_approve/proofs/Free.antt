-- Nothing is in the way of a site that was found.
use Rattle.std.proofs.Common.{◌≡◌, ◌∙◌, ℕ, List, [], Option, refl, sym}
use Rattle.std.specs.Prelude.{Ok, Err}
use Rattle.git_object.specs.Objects.{Pair, pair_id}
use Rattle.git_object.specs.Repository.{Repository, value_of}
use Rattle.dsse_envelope.specs.declared.envelope.Envelope.{Envelope}
use Rattle.approvals.proofs.Alike.{never_in_way}
use Rattle.approvals.proofs.Found.{id_of_pair}
use Rattle.approvals.specs.Attesting.{approval_pair, attested_with}
use Rattle.git_object.specs.References.{attestations_name}
use Rattle.approvals.specs.Files.{Putting}
use Rattle.approvals.specs.Sites.{IsFitSite, IsSiteOf, put_at}
use Rattle.approvals.specs.declared.sites.Site.{Site}
use Rattle.commands_approve.specs.Wanted.{IsFree}
use Rattle.commands_approve.specs.declared.ends.Ends.{Ends}

refused_with : (blob : Pair) (author : List ℕ) (parent : Option (List ℕ)) (put : Putting) (id : List ℕ) → attested_with blob author parent put ≡ Err id → put ≡ Err id
refused_with blob author parent (Ok made) id is = cc
refused_with blob author parent (Err other) id is = cc

abbrev blank : Envelope
blank = record { payload_type = []; payload = []; signatures = [] }

pub free_at : (r : Repository) (name : List ℕ) (ends : Ends) (site : Site) → IsFitSite site → IsSiteOf r (value_of r attestations_name) name ends.from ends.tree site → IsFree r name ends
free_at r name ends site fit is = record {
  free = λ id in_way.
      let put : put_at site (pair_id (approval_pair blank)) ≡ Err id = refused_with (approval_pair blank) [] site.parent _ id (sym (is.gives blank []) ∙ in_way.refuses blank []) in
      never_in_way site.path site.levels fit (pair_id (approval_pair blank)) (id_of_pair (approval_pair blank)) site.path refl site.levels refl id put;
}
