use Rattle.std.proofs.Common.{◌∙◌, ap, subst}
use Rattle.git_object.specs.Objects.{Pair, pair_id}
use Rattle.keeper_api.specs.Committing.{Gains}
use Rattle.commands_snapshot.specs.Storing.{snapshot_change}
use Rattle.commands_snapshot.proofs.storing.commit_made.Goals as goal

pub returns-in-Ok-commit_change-clause-ends : goal.returns-in-Ok-commit_change-clause-ends
returns-in-Ok-commit_change-clause-ends g c = (
  c.id-id.ensures ∙ ap pair_id c.in-Ok.ensures,
  subst (Gains g.R.Keeper c.args.keeper.now c.commit_change.new.keeper)
      (c.in-Ok-change_of.ensures ∙ ap (λ (commit : Pair). snapshot_change c.args.name.now c.args.made.objects commit) c.in-Ok.ensures) c.in-Ok-commit_change.ensures.ends,
)
