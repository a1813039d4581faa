-- The place of an approval among the attestations of a target.
use Rattle.std.proofs.Common.{◌≡◌, ℕ, List, [], ◌∷◌, ◌++◌, length, Option, Some, None, sym, ap, subst, ◌∙◌}
use Rattle.std.specs.Prelude.{IfErr, IfNone, IfOk, IfSome, Result, Ok, Err}
use Rattle.git_object.specs.Ids.{zeros}
use Rattle.git_object.specs.Names.{components}
use Rattle.git_object.specs.Objects.{Pair, pair_id}
use Rattle.git_object.specs.Repository.{Repository}
use Rattle.tree_paths.proofs.ObjectsRead.{kept_told}
use Rattle.tree_paths.specs.Readings.{Readings, Told}
use Rattle.tree_paths.specs.Repositories.{readings_of}
use Rattle.tree_paths.specs.States.{root_of}
use Rattle.tree_paths.specs.declared.heads.Peeled.{Peeled}
use Rattle.tree_paths.specs.declared.heads.Peeled.TheVariants.{At, Nothing}
use Rattle.dsse_envelope.specs.declared.envelope.Envelope.{Envelope}
use Rattle.approvals.proofs.Finding.{told_by}
use Rattle.approvals.specs.Approvals.{approval_path}
use Rattle.keeper_api.specs.declared.changes.RefChange.{RefChange}
use Rattle.object_making.specs.Keeping.{Adds}
use Rattle.approvals.specs.Attesting.{HasChange, approval_pair, attested, attested_after, attested_with, commit_pair, parents_of}
use Rattle.git_object.specs.References.{attestations_name}
use Rattle.approvals.specs.Faults.{IfUnreadable}
use Rattle.approvals.specs.Files.{put_file}
use Rattle.approvals.specs.Levels.{HasLevels, put_levels}
use Rattle.approvals.specs.Sites.{GivesAfter, IsInWayOf, IsSiteOf, RefusesAfter}
use Rattle.approvals.specs.declared.attest_faults.AttestFault.{AttestFault}
use Rattle.approvals.specs.declared.attest_faults.AttestFault.TheVariants.{Failed, Memory, Unreadable}
use Rattle.approvals.specs.declared.sites.Site.{Site}
use Rattle.approvals.specs.declared.surveys.Level.{Level}
use Rattle.approvals.proofs.Alike.{in_way_too}
use Rattle.approvals.proofs.Found.{id_of_pair}

-- what is in the way of the trial is in the way of each id in the old trees
refused_by : (content : Option Repository) (path : List ℕ) (old : Option (List ℕ)) (levels : List Level) (id : List ℕ) → HasLevels content (components path) old [] levels → put_levels zeros (components path) levels ≡ Err id
    → (readings : Readings) → Told content readings → (blob : List ℕ) → length blob ≡ 32 → put_file readings.trees blob (components path) old ≡ Err id
refused_by content path old levels id has refused readings told blob long =
    has.same readings told blob ∙ ap (put_levels blob (components path)) (sym has.added) ∙ in_way_too (components path) levels id blob refused long

pub refused_each : (content : Option Repository) (path read again : List ℕ) (old none some : Option (List ℕ)) (before after levels : List Level) (id : List ℕ) → before ≡ [] → read ≡ path → again ≡ path → levels ≡ after
    → none ≡ None → IfNone none (HasLevels content (components read) old before after) → some ≡ Some id → IfSome some (λ id. put_levels zeros (components again) levels ≡ Err id)
    → (readings : Readings) → Told content readings → (blob : List ℕ) → length blob ≡ 32 → put_file readings.trees blob (components path) old ≡ Err id
refused_each content path read again old none some before after levels id empty first second same is has found refused =
    refused_by content path old after id
    (subst (λ (p : List ℕ). HasLevels content (components p) old [] after) first (subst (λ (b : List Level). HasLevels content (components read) old b after) empty (subst (λ (o : Option (List ℕ)). IfNone o (HasLevels content (components read) old before after)) is has)))
    ((λ i. put_levels zeros (components (sym second i)) (sym same i)) ∙ subst (λ (o : Option (List ℕ)). IfSome o (λ id. put_levels zeros (components again) levels ≡ Err id)) found refused)

module _ (before now : Option Repository) (stays : (r : Repository) → now ≡ Some r → before ≡ Some r) (target path : List ℕ) (end : Peeled) (root : (readings : Readings) → Told before readings → end ≡ root_of readings.heads target) where
  pub refused_after : (parent old : Option (List ℕ)) → ((readings : Readings) (envelope : Envelope) (author : List ℕ) → attested_after readings.trees (approval_pair envelope) author (components path) end ≡ attested_with (approval_pair envelope) author parent (put_file readings.trees (pair_id (approval_pair envelope)) (components path) old))
      → (found : Result Site (List ℕ)) → IfErr found (λ id. (readings : Readings) → Told now readings → (blob : List ℕ) → length blob ≡ 32 → put_file readings.trees blob (components path) old ≡ Err id)
      → IfErr found (λ id. (readings : Readings) → Told now readings → RefusesAfter readings.trees (components path) (root_of readings.heads target) id)
  refused_after parent old is (Ok site) below = tt
  refused_after parent old is (Err id) below = λ readings told envelope author.
      ap (attested_after readings.trees (approval_pair envelope) author (components path)) (sym (root readings (kept_told readings stays told)))
      ∙ is readings envelope author
      ∙ ap (attested_with (approval_pair envelope) author parent) (below readings told (pair_id (approval_pair envelope)) (id_of_pair (approval_pair envelope)).length)

  pub nothing_refused : end ≡ Nothing → (found : Result Site (List ℕ)) → IfErr found (λ id. (readings : Readings) → Told now readings → (blob : List ℕ) → length blob ≡ 32 → put_file readings.trees blob (components path) None ≡ Err id)
      → IfErr found (λ id. (readings : Readings) → Told now readings → RefusesAfter readings.trees (components path) (root_of readings.heads target) id)
  nothing_refused is = refused_after None None (λ readings envelope author. ap (attested_after readings.trees (approval_pair envelope) author (components path)) is)

  pub tree_refused : (commit tree : List ℕ) → end ≡ At commit tree → (found : Result Site (List ℕ)) → IfErr found (λ id. (readings : Readings) → Told now readings → (blob : List ℕ) → length blob ≡ 32 → put_file readings.trees blob (components path) (Some tree) ≡ Err id)
      → IfErr found (λ id. (readings : Readings) → Told now readings → RefusesAfter readings.trees (components path) (root_of readings.heads target) id)
  tree_refused commit tree is = refused_after (Some commit) (Some tree) (λ readings envelope author. ap (attested_after readings.trees (approval_pair envelope) author (components path)) is)

module _ (content : Option Repository) (path target name from tree : List ℕ) (is : path ≡ approval_path name from tree) where
  pub site_given : (found : Result Site (List ℕ)) → IfOk found (λ site. (readings : Readings) → Told content readings → GivesAfter readings.trees (components path) (root_of readings.heads target) site)
      → IfOk found (λ site. (r : Repository) → content ≡ Some r → IsSiteOf r target name from tree site)
  unfolding attested
  site_given (Ok site) gives = λ r told. record {
    gives = λ envelope author.
        (λ i. attested_after (readings_of r).trees (approval_pair envelope) author (components (sym is i)) (root_of (readings_of r).heads target)) ∙ gives (readings_of r) (told_by r told) envelope author;
  }
  site_given (Err id) gives = tt

  pub site_refused : (found : Result Site (List ℕ)) → IfErr found (λ id. (readings : Readings) → Told content readings → RefusesAfter readings.trees (components path) (root_of readings.heads target) id)
      → IfErr found (λ id. (r : Repository) → content ≡ Some r → IsInWayOf r target name from tree id)
  unfolding attested
  site_refused (Ok site) refuses = tt
  site_refused (Err id) refuses = λ r told. record {
    refuses = λ envelope author.
        (λ i. attested_after (readings_of r).trees (approval_pair envelope) author (components (sym is i)) (root_of (readings_of r).heads target)) ∙ refuses (readings_of r) (told_by r told) envelope author;
  }

-- what is in the way of each approval is in the way of one
pub unreadable_each : (content : Option Repository) (target name from tree : List ℕ) (envelope : Envelope) (author : List ℕ) (fault : AttestFault)
    → IfUnreadable fault (λ id. (r : Repository) → content ≡ Some r → IsInWayOf r target name from tree id) → IfUnreadable fault (λ id. (r : Repository) → content ≡ Some r → attested r target name from tree envelope author ≡ Err id)
unreadable_each content target name from tree envelope author Failed is = tt
unreadable_each content target name from tree envelope author (Unreadable id) is = λ r told. (is r told).refuses envelope author
unreadable_each content target name from tree envelope author Memory is = tt

-- the objects of a change, one after the other
pub has_change : (blob made commit : Pair) (author : List ℕ) (parent : Option (List ℕ)) (root id : List ℕ) (empty first mid last : List Pair) (refs : List RefChange) → made ≡ blob → commit ≡ commit_pair root (parents_of parent) author → empty ≡ []
    → first ≡ empty ++ made ∷ [] → Adds first mid → last ≡ mid ++ commit ∷ [] → id ≡ pair_id commit → refs ≡ record { name = attestations_name; to = Some id } ∷ []
    → HasChange blob author parent (record { change = record { objects = last; refs = refs }; commit = id })
has_change blob made commit author parent root id empty first mid last refs is also none pushed adds more id_is named =
    let commit_is : id ≡ pair_id (commit_pair root (parents_of parent) author) = id_is ∙ ap pair_id also in
    let front : first ≡ blob ∷ [] = pushed ∙ (λ i. none i ++ is i ∷ []) in
    let objects_are : last ≡ blob ∷ (adds.more ++ commit_pair root (parents_of parent) author ∷ []) =
    more ∙ (λ i. (adds.is ∙ ap (λ (l : List Pair). l ++ adds.more) front) i ++ also i ∷ []) in
    let refs_are : refs ≡ record { name = attestations_name; to = Some (pair_id (commit_pair root (parents_of parent) author)) } ∷ [] =
    named ∙ (λ i. record { name = attestations_name; to = Some (commit_is i) } ∷ []) in
    record {
      trees = adds.more;
      are_trees = adds.trees;
      root = root;
      change_is = λ i. record { objects = objects_are i; refs = refs_are i };
      commit_is = commit_is;
    }
