use Rattle.git_object.specs.Objects.{pair_id}
use Rattle.clone_stream.proofs.Lasts.{comes_after}
use Rattle.clone_stream.proofs.records.follows_object.Goals as goal

pub returns-in-Some : goal.returns-in-Some
returns-in-Some c = comes_after pair_id c.args.objects.now c.in-Some.last.now c.args.id.now c.is_less_id.result c.in-Some.ensures.value (search (c.is_less_id.ensures, c.id.ensures))
