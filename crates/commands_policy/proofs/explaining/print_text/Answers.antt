use Rattle.commands_policy.proofs.Explained.{cut, not_loaded}
use Rattle.commands_policy.proofs.explaining.print_text.Goals as goal

pub returns-in_err-text-clause-prints : goal.returns-in_err-text-clause-prints
returns-in_err-text-clause-prints g c =
    not_loaded (g.R.Keeper.content c.load_text.new.keeper) (g.K.Sink.contents c.args.sink.now) (record { space = c.args.space; text = c.args.name.now }) c.from_residual.result c.in_err-text.field-0.0 c.from_residual.ensures.1 c.in_err-text.ensures.broken

pub returns-in_err-write_all-clause-prints : goal.returns-in_err-write_all-clause-prints
returns-in_err-write_all-clause-prints g c =
    cut (g.R.Keeper.content c.load_text.new.keeper) (g.K.Sink.contents c.args.sink.now) (g.K.Sink.contents c.write_all.new.sink) (record { space = c.args.space; text = c.args.name.now }) c.in_ok-text.text c.from_residual-in_err-write_all.result c.from_residual-in_err-write_all.ensures.1 c.in_ok-text.ensures.explains
    (rw c.as_slice.ensures at c.in_err-write_all.ensures.part)
