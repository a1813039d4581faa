use Rattle.std.proofs.Common.{◌≡◌, List, [], ◌∷◌, ◌++◌, sym, ap, subst, ◌∙◌, rules}
use Rattle.git_object.specs.Objects.{Pair}
use Rattle.clone_stream.specs.Grouped.{GoesOn, pair_of}
use Rattle.clone_stream.specs.Records.{last_read}
use Rattle.clone_stream.specs.Wrongs.{ComesObject}
use Rattle.clone_stream.proofs.GoingOn.{object_taken}
use Rattle.clone_stream.proofs.grouped.take_object.Goals as goal

pub returns-clause-goes_on : goal.returns-clause-goes_on
returns-clause-goes_on c =
    let objects = c.args.objects.now in
    let refs = c.args.refs.now in
    let added : c.push.new.self ≡ objects ++ c.in-Ok.object ∷ [] = search (rules, c.push.ensures) in
    let made : c.in-Ok.object ≡ pair_of c.args.object = c.in-Ok.ensures in
    let comes : ComesObject (last_read objects refs) c.args.claim.id = rw c.as_slice.ensures at (c.may_come.ensures.0 c.if-not-may_come.false) in
    subst (λ (now : List Pair). GoesOn objects now refs c.args.reader.now c.pass.new.self) (sym (added ∙ ap (λ (o : Pair). objects ++ o ∷ []) made))
    (object_taken objects refs c.args.reader.now c.pass.new.self c.args.claim c.args.object c.requires.stands c.requires.own comes c.pass.ensures.after c.pass.ensures.limited)
