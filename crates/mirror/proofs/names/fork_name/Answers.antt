use Rattle.std.proofs.Common.{ap, sym, subst, ◌∙◌}
use Rattle.std.specs.Prelude.{Err}
use Rattle.git_object.specs.Names.{IsRefName}
use Rattle.mirror.proofs.ForkNames.{fork_is_named}
use Rattle.mirror.proofs.names.fork_name.Goals as goal

pub unreachable-requires : goal.unreachable-requires
unreachable-requires c = c.in-Err-BadRef.ensures.bad (ap Err c.in-Err-BadRef.field-0-is)
    (subst IsRefName (sym (c.as_slice.ensures ∙ c.in_ok-text.ensures)) (fork_is_named c.args.number c.args.id.now c.requires c.as_bytes.ensures.valid))
