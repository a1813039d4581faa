use Rattle.keeper_api.specs.declared.changes.RefChange.{RefChange}
use Rattle.clone_stream.proofs.Lasts.{comes_after}
use Rattle.clone_stream.proofs.records.follows_ref.Goals as goal

pub returns-in-Some : goal.returns-in-Some
returns-in-Some c = comes_after (λ (change : RefChange). change.name) c.args.refs.now c.in-Some.last.now c.args.name.now c.is_less_name.result c.in-Some.ensures.value c.is_less_name.ensures
