use Rattle.std.proofs.Common.{◌+◌, refl, rules, take}
use Rattle.keeper_api.proofs.Coming.{as_before_then}
use Rattle.commands_log.specs.Faults.{fault_of_log}
use Rattle.commands_log.specs.declared.faults.LogCommandFault.TheVariants.{SinkFailed}
use Rattle.commands_log.proofs.Gathered.{gathered_none, gathered_released, gathering_stops, of_error, one_more_gathered, printed_cut}
use Rattle.commands_log.proofs.printing.print_entries.Goals as goal

pub ids-init : goal.ids-init
ids-init g c = record {
  so = rw c.new-piece.ensures (gathered_none (g.R.Keeper.content c.args.keeper.now) (g.K.Sink.contents c.args.sink.now));
  same = search rules;
  keeper_quiet = refl;
  sink_quiet = refl;
  reads = search rules;
}

pub returns-in_err-gather-clause-prints : goal.returns-in_err-gather-clause-prints
returns-in_err-gather-clause-prints g c =
    of_error c.args.ids.now (g.R.Keeper.content c.gather.new.keeper) (g.K.Sink.contents c.args.sink.now) (g.K.Sink.contents c.ids.sink) c.from_residual.result (fault_of_log c.in_err-gather.field-0.0) c.from_residual.ensures.1
    (gathering_stops (g.R.Keeper.content c.ids.keeper) (g.R.Keeper.content c.gather.new.keeper) c.args.ids.now c.ids.id-index c.id-item.result (g.K.Sink.contents c.args.sink.now) (g.K.Sink.contents c.ids.sink) c.ids.piece c.in_err-gather.field-0.0
    c.ids-test.true c.id-item.is c.gather.ensures.same.content c.ids.invariant.so c.in_err-gather.ensures.broken)

pub returns-in_err-release-clause-prints : goal.returns-in_err-release-clause-prints
returns-in_err-release-clause-prints g c =
    of_error c.args.ids.now (g.R.Keeper.content c.gather.new.keeper) (g.K.Sink.contents c.args.sink.now) (g.K.Sink.contents c.release.new.sink) c.from_residual-in_err-release.result SinkFailed c.from_residual-in_err-release.ensures.1
    (printed_cut (g.R.Keeper.content c.gather.new.keeper) c.args.ids.now (c.ids.id-index + 1) (g.K.Sink.contents c.args.sink.now) (g.K.Sink.contents c.ids.sink) (g.K.Sink.contents c.release.new.sink) c.gather.new.piece
    (one_more_gathered (g.R.Keeper.content c.ids.keeper) (g.R.Keeper.content c.gather.new.keeper) c.args.ids.now c.ids.id-index c.id-item.result (g.K.Sink.contents c.args.sink.now) (g.K.Sink.contents c.ids.sink) c.ids.piece c.gather.new.piece
    c.ids-test.true c.id-item.is c.gather.ensures.same.content c.ids.invariant.so c.in_ok-gather.ensures.gathers)
    c.in_err-release.ensures.part)

pub ids-preserved : goal.ids-preserved
ids-preserved g c = record {
  so = gathered_released (g.R.Keeper.content c.gather.new.keeper) (take (c.ids.id-index + 1) c.args.ids.now) (g.K.Sink.contents c.args.sink.now) (g.K.Sink.contents c.ids.sink) (g.K.Sink.contents c.release.new.sink) c.gather.new.piece c.release.new.piece
      (one_more_gathered (g.R.Keeper.content c.ids.keeper) (g.R.Keeper.content c.gather.new.keeper) c.args.ids.now c.ids.id-index c.id-item.result (g.K.Sink.contents c.args.sink.now) (g.K.Sink.contents c.ids.sink) c.ids.piece c.gather.new.piece
      c.ids-test.true c.id-item.is c.gather.ensures.same.content c.ids.invariant.so c.in_ok-gather.ensures.gathers)
      c.in_ok-release.ensures.releases;
  same = as_before_then g.R.Keeper c.args.keeper.now c.ids.keeper c.gather.new.keeper
      c.ids.invariant.same c.gather.ensures.same;
  keeper_quiet = search rules;
  sink_quiet = search rules;
  reads = search rules;
}

pub returns-in_err-write_all-clause-prints : goal.returns-in_err-write_all-clause-prints
returns-in_err-write_all-clause-prints g c =
    of_error c.args.ids.now (g.R.Keeper.content c.ids.keeper) (g.K.Sink.contents c.args.sink.now) (g.K.Sink.contents c.write_all.new.sink) c.from_residual-in_err-write_all.result SinkFailed c.from_residual-in_err-write_all.ensures.1
    (printed_cut (g.R.Keeper.content c.ids.keeper) c.args.ids.now c.ids.id-index (g.K.Sink.contents c.args.sink.now) (g.K.Sink.contents c.ids.sink) (g.K.Sink.contents c.write_all.new.sink) c.ids.piece c.ids.invariant.so
    (rw c.as_slice.ensures at c.in_err-write_all.ensures.part))
