use Rattle.std.proofs.Common.{List, ap, sym, subst, ◌∙◌}
use Rattle.git_object.specs.Objects.{Pair}
use Rattle.pushes.specs.Pushes.{AreRising, entry_in}
use Rattle.pushes.proofs.Finding.{are_rising}
use Rattle.pushes.proofs.Written.{pushable}
use Rattle.pushes.proofs.making.text_of.Goals as goal

pub entry_among-requires : goal.entry_among-requires
entry_among-requires c = subst AreRising (sym c.as_slice.ensures) (are_rising c.requires.own.0 c.args.objects c.requires.own.1)

pub write_push-requires : goal.write_push-requires
write_push-requires c =
    let found = ap (λ (objects : List Pair). entry_in objects c.args.id.now) (sym c.as_slice.ensures) ∙ sym c.in_ok-entry.ensures ∙ c.in-Some.is in
    pushable c.args.objects c.args.id.now c.in-Some.entry c.as_bytes.ensures.valid c.requires.own c.requires.short found
