use Rattle.std.proofs.Common.{◌∙◌, ap}
use Rattle.git_object.specs.Objects.{object_id}
use Rattle.git_object.specs.declared.kinds.Kind.TheVariants.{Commit}
use Rattle.log_appending.proofs.Committed.{gains, may_gain}
use Rattle.log_appending.proofs.committing.commit_text.Goals as goal

pub returns-in-Ok-commit-clause-ends : goal.returns-in-Ok-commit-clause-ends
returns-in-Ok-commit-clause-ends g c = (
  c.id_of-id.ensures ∙ ap (object_id Commit) c.as_slice.ensures,
  gains g.R.Keeper c.args.text c.in-Ok.change c.args.keeper.now c.commit.new.self c.in-Ok.ensures c.in-Ok-commit.ensures.content c.in-Ok-commit.ensures.left,
)

pub returns-in-Err-Failed-clause-ends : goal.returns-in-Err-Failed-clause-ends
returns-in-Err-Failed-clause-ends g c =
    may_gain g.R.Keeper c.args.text c.in-Ok.change c.args.keeper.now c.commit.new.self c.in-Err-Failed.field-0 c.in-Err-Failed.field-0-is c.in-Ok.ensures c.in-Err-Failed.ensures.content c.in-Err-Failed.ensures.left
