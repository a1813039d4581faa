use Rattle.commands_mirror.proofs.EvidenceEnded.{both_kept, first_missing, second_missing}
use Rattle.commands_mirror.proofs.making_evidence.both_objects.Goals as goal

pub returns-in-Err-clause-ends : goal.returns-in-Err-clause-ends
returns-in-Err-clause-ends g c =
    first_missing (g.R.Keeper.content c.kept_object.new.keeper) (g.R.Keeper.content c.kept_object.new.keeper) c.args.left.now c.args.right.now c.in-Err.fault
    (λ r told. told) c.in-Err.ensures.ends

pub returns-in-Err-kept_object-clause-ends : goal.returns-in-Err-kept_object-clause-ends
returns-in-Err-kept_object-clause-ends g c =
    second_missing (g.R.Keeper.content c.kept_object.new.keeper) (g.R.Keeper.content c.kept_object-2.new.keeper) c.args.left.now c.args.right.now c.in-Ok.object c.in-Err-kept_object.fault
    c.kept_object-2.ensures.same.content c.in-Ok.ensures.ends c.in-Err-kept_object.ensures.ends

pub returns-in-Ok-kept_object-clause-ends : goal.returns-in-Ok-kept_object-clause-ends
returns-in-Ok-kept_object-clause-ends g c =
    both_kept (g.R.Keeper.content c.kept_object.new.keeper) (g.R.Keeper.content c.kept_object-2.new.keeper) c.args.left.now c.args.right.now c.in-Ok.object c.in-Ok-kept_object.second
    c.kept_object-2.ensures.same.content c.in-Ok.ensures.ends c.in-Ok-kept_object.ensures.ends
