use Rattle.std.proofs.Common.{◌≡◌, ◌∙◌, ◌++◌, ◌∷◌, [], ap, refl}
use Rattle.git_object.specs.Objects.{pair_id}
use Rattle.demo.specs.Histories.{main_after, objects_after, policy_entry, tip_after}
use Rattle.demo.specs.Trees.{key_change, keys_after, src_after}
use Rattle.demo.proofs.histories.start.Goals as goal

pub returns-clause-at : goal.returns-clause-at
unfolding objects_after main_after tip_after src_after keys_after key_change
returns-clause-at c =
    let entry : c.in_ok-entry.entry ≡ policy_entry = c.in_ok-entry.ensures.entry c.in_ok-policy.ensures.id in
    record {
      objects = c.in_ok-tip.ensures.kept ∙ (λ j. (c.in_ok-policy.ensures.objects j) ++ entry j ∷ []);
      keys = c.in_ok-entry.ensures.keys;
      src = c.new.ensures;
      key_files = refl;
      main = refl;
      tip = c.in_ok-tip.ensures.id ∙ ap pair_id entry;
    }
