use Rattle.std.proofs.Common.{refl}
use Rattle.judging.specs.Engines.{has_taken}
use Rattle.desk_core.specs.Adding.{change_beside}
use Rattle.desk_core.proofs.Laying.{answered_beside, objects_of}
use Rattle.desk_core.proofs.looking.look_at.Goals as goal

pub look_over-requires : goal.look_over-requires
look_over-requires g c = record {
  known = λ r told.
      let has = has_taken c.entries.result.now in
      c.in_ok-make_ready.ensures.grown r c.in_ok-change.change has told (objects_of has c.args.push.now c.as_slice.result.now c.in_ok-change.change c.as_slice.ensures c.in_ok-change.ensures);
}

pub returns-in-Ok-clause-answer : goal.returns-in-Ok-clause-answer
returns-in-Ok-clause-answer g c = λ r log told follows.
    answered_beside log c.make_ready.new.engine c.entries.result.now c.args.push.now c.in_ok-change.change r c.in-Ok.verdict c.entries.ensures c.in_ok-change.ensures (c.in-Ok.ensures.answer r log told follows)

pub returns-in-Ok-clause-grown : goal.returns-in-Ok-clause-grown
returns-in-Ok-clause-grown g c = λ r has told.
    let change = change_beside has c.args.push.now in
    c.in_ok-make_ready.ensures.grown r change has (c.look_over.ensures.same.content r told) (objects_of has c.args.push.now c.as_slice.result.now change c.as_slice.ensures refl)
