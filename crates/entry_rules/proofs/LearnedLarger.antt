-- What was learned of a repository is so in a larger one.
use Rattle.std.proofs.Common.{◌≡◌, ℕ, true, List, [], ◌∷◌, Option, Some, None, refl, sym, ap, subst, ◌∙◌}
use Rattle.std.specs.Prelude.{IfSome}
use Rattle.std.specs.List.{AllByRecursion}
use Rattle.git_object.specs.Repository.{Repository}
use Rattle.keeper_api.specs.Growing.{Larger}
use Rattle.rule_files.specs.declared.rules.RuleFile.{RuleFile}
use Rattle.tree_paths.specs.Changes.{AreChanged}
use Rattle.tree_paths.specs.Growing.{MoreReadings}
use Rattle.tree_paths.specs.Readings.{Readings}
use Rattle.tree_paths.specs.Repositories.{readings_of}
use Rattle.tree_paths.specs.Roots.{root_ended}
use Rattle.tree_paths.specs.States.{Ended, is_sound, map_at}
use Rattle.tree_paths.proofs.GrowingPeels.{tree_same}
use Rattle.tree_paths.proofs.GrowingReadings.{known_same, more_read}
use Rattle.entry_rules.specs.Learning.{AreKnownIn, AreWhole, IsFirst, IsRow}
use Rattle.entry_rules.specs.declared.known_changes.FirstUnmet.{FirstUnmet}
use Rattle.entry_rules.specs.declared.known_changes.KnownChange.{KnownChange}
use Rattle.entry_rules.specs.declared.learned.Learned.{Learned}
use Rattle.entry_rules.specs.declared.roots.Roots.{Roots}

module _ (few more : Readings) (grown : MoreReadings few more) where
  root_same : (root : Option (List ℕ)) → is_sound (root_ended few.trees root) ≡ true → root_ended more.trees root ≡ root_ended few.trees root
  root_same None sound = refl
  root_same (Some tree) sound = tree_same few more grown tree sound

  whole_same : (roots : Roots) → AreWhole few.trees roots → AreWhole more.trees roots
  whole_same roots whole = record {
    from_whole = ap is_sound (root_same roots.from whole.from_whole) ∙ whole.from_whole;
    to_whole = ap is_sound (root_same roots.to whole.to_whole) ∙ whole.to_whole;
  }

  first_same : (files : List RuleFile) (signers : List (List ℕ)) (roots : Roots) (first : Option (List ℕ)) → IsFirst few.trees files signers roots first → IsFirst more.trees files signers roots first
  first_same files signers roots first is = record {
    whole = whole_same roots is.whole;
    paths = is.paths;
    changed =
        subst (λ (e : Ended). AreChanged (map_at e) (map_at (root_ended more.trees roots.to)) is.paths) (sym (root_same roots.from is.whole.from_whole))
        (subst (λ (e : Ended). AreChanged (map_at (root_ended few.trees roots.from)) (map_at e) is.paths) (sym (root_same roots.to is.whole.to_whole)) is.changed);
    is = is.is;
  }

  found_same : (files : List RuleFile) (roots : Roots) (found : Option FirstUnmet) → IfSome found (λ f. IsFirst few.trees files f.signers roots f.first) → IfSome found (λ f. IsFirst more.trees files f.signers roots f.first)
  found_same files roots None is = tt
  found_same files roots (Some f) is = first_same files f.signers roots f.first is

  hold_same : (files : List RuleFile) (rows : List KnownChange) → AllByRecursion (IsRow few.trees files) rows → AllByRecursion (IsRow more.trees files) rows
  hold_same files [] all = tt
  hold_same files (row ∷ rows) all = (record { whole = whole_same row.roots all.0.whole; found = found_same files row.roots row.found all.0.found }, hold_same files rows all.1)

pub learned_same : (small large : Repository) (learned : Learned) → Larger small large → AreKnownIn small learned → AreKnownIn large learned
learned_same small large learned grown all = record {
  trees = known_same small large learned.trees grown all.trees;
  changes = hold_same (readings_of small) (readings_of large) (more_read small large grown) learned.changes.files learned.changes.rows all.changes;
}
