use Rattle.std.proofs.Common.{sym, ap, subst, ◌∙◌, ◌++◌, ◌∷◌, []}
use Rattle.git_object.specs.Objects.{Pair, object_id}
use Rattle.git_object.specs.Trees.{AreWellFormed}
use Rattle.object_making.specs.Editing.{put_entry}
use Rattle.object_making.proofs.InOrder.{put_is}
use Rattle.approvals.proofs.Puts.{tree_made}
use Rattle.approvals.proofs.putting.put_tree.Goals as goal

pub write-requires : goal.write-requires
write-requires c = subst AreWellFormed (sym c.in_ok-list.ensures) (put_is c.args.entry c.args.entries.now c.requires.named c.requires.formed c.requires.alike).formed

pub returns-clause-placed : goal.returns-clause-placed
returns-clause-placed c = λ before below whole.
    tree_made c.args.old.now (put_entry c.args.entry c.args.entries.now) c.in_ok-list.list c.in_ok-body.body c.id-root.result before below c.args.objects.now c.push.new.self
    c.in_ok-list.ensures c.in_ok-body.ensures.found c.in_default.ensures.none
    (c.id-root.ensures ∙ ap (λ (o : Pair). object_id o.kind o.body) c.in_ok-object.ensures)
    (c.in_ok-push.ensures.added ∙ (λ i. c.args.objects.now ++ c.in_ok-object.ensures i ∷ [])) whole
