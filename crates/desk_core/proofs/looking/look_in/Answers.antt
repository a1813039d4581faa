use Rattle.std.proofs.Common.{refl}
use Rattle.desk_core.proofs.Laying.{known_over, looked, still}
use Rattle.desk_core.proofs.looking.look_in.Goals as goal

pub look-requires-clause-known : goal.look-requires-clause-known
look-requires-clause-known g c = known_over c.args.overlay.now.change.now c.args.engine.now.known (g.R.Keeper.content c.args.overlay.now.under.now) c.requires.known

pub returns-in-Ok-clause-answer : goal.returns-in-Ok-clause-answer
returns-in-Ok-clause-answer g c = λ r log told follows.
    let came = c.look.ensures.same.comes c.args.overlay.now (refl, refl, still g.R.Keeper c.args.overlay.now.under.now) in
    looked c.args.overlay.now.change.now c.look.new.keeper.change.now (g.R.Keeper.content c.look.new.keeper.under.now) c.args.engine.now.rules.anchor log c.args.entry.now c.in-Ok.verdict came.1 (λ r told. c.in-Ok.ensures.answer r log told follows) r told

pub returns-in-Ok-clause-same : goal.returns-in-Ok-clause-same
returns-in-Ok-clause-same g c = let came = c.look.ensures.same.comes c.args.overlay.now (refl, refl, still g.R.Keeper c.args.overlay.now.under.now) in came.2

pub returns-in-Ok-clause-same_reference : goal.returns-in-Ok-clause-same_reference
returns-in-Ok-clause-same_reference g c = let came = c.look.ensures.same.comes c.args.overlay.now (refl, refl, still g.R.Keeper c.args.overlay.now.under.now) in came.0

pub returns-in-Err-clause-same : goal.returns-in-Err-clause-same
returns-in-Err-clause-same g c = let came = c.look.ensures.same.comes c.args.overlay.now (refl, refl, still g.R.Keeper c.args.overlay.now.under.now) in came.2

pub returns-in-Err-clause-same_reference : goal.returns-in-Err-clause-same_reference
returns-in-Err-clause-same_reference g c = let came = c.look.ensures.same.comes c.args.overlay.now (refl, refl, still g.R.Keeper c.args.overlay.now.under.now) in came.0
