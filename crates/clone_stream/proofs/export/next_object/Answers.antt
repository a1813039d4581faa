use Rattle.clone_stream.proofs.Entries.{object_damaged, object_next}
use Rattle.clone_stream.proofs.export.next_object.Goals as goal

pub returns-in-Some-2-clause-looks : goal.returns-in-Some-2-clause-looks
returns-in-Some-2-clause-looks g c =
    let h = c.as_ref.ensures.value in
    object_next (g.R.Keeper.content c.next_object_after.new.self) (g.R.Keeper.content c.load_object.new.keeper) c.args.last.now c.in-Some.id c.load_object.ensures.same.content (λ r told. cc (c.in_ok-id.ensures.answer r told, h)) c.in-Some-2.object c.as_bytes.ensures.valid (rw c.in-Some-2.is at c.in_ok-object.ensures.own) (rw c.in-Some-2.is at c.in_ok-object.ensures.found)

pub returns-in-None-clause-looks : goal.returns-in-None-clause-looks
returns-in-None-clause-looks g c =
    let h = c.as_ref.ensures.value in
    object_damaged (g.R.Keeper.content c.next_object_after.new.self) (g.R.Keeper.content c.load_object.new.keeper) c.args.last.now c.in-Some.id c.load_object.ensures.same.content (λ r told. cc (c.in_ok-id.ensures.answer r told, h)) (rw c.in-None.is at c.in_ok-object.ensures.none)
