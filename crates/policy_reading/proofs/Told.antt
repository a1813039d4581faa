-- The readings of a repository are one, and a keeper that tells its content tells them.
use Rattle.std.proofs.Common.{◌≡◌, ℕ, List, Option, Some, refl, sym, ap, ◌∙◌}
use Rattle.git_object.specs.Repository.{Repository}
use Rattle.tree_paths.specs.Readings.{AreReadings, IsHeadAt, Readings, Told}
use Rattle.tree_paths.specs.declared.heads.TargetHead.{TargetHead}
use Rattle.tree_paths.specs.declared.heads.TargetHead.TheVariants.{Next, Other, Root}
use Rattle.tree_paths.proofs.Existence.{one_reading}
use Rattle.tree_paths.proofs.ObjectsRead.{commit_there, tag_there}
use Rattle.tree_paths.specs.Repositories.{readings_of}
use Rattle.tree_paths.proofs.Existence.{are_readings}

pub told_readings : (r : Repository) (content : Option Repository) → content ≡ Some r → Told content (readings_of r)
told_readings r content told = record { repository = r; told = told; are = are_readings r }

one_head : (r : Repository) (id : List ℕ) (x y : TargetHead) → IsHeadAt r id x → IsHeadAt r id y → x ≡ y
one_head r id Other Other p q = refl
one_head r id Other (Root tree) p q = absurd (p.no_commit tree q)
one_head r id Other (Next object names) p q = absurd (p.no_tag object names q)
one_head r id (Root tree) y p q = ap Root (sym p.tree_is) ∙ commit_there r id p.pair p.commit y p.kept p.kind_is p.text q
one_head r id (Next object names) y p q =
    (λ i. Next (sym p.object_is i) (sym p.names_is i)) ∙ tag_there r id p.pair p.tag y p.kept p.kind_is p.text q

pub one_readings : (r : Repository) (readings : Readings) → AreReadings r readings → readings ≡ readings_of r
one_readings r readings are = λ i. record {
  trees = λ id. one_reading r readings (readings_of r) are (are_readings r) id i;
  heads = λ id. one_head r id (readings.heads id) ((readings_of r).heads id) (are.heads id) ((are_readings r).heads id) i;
}
