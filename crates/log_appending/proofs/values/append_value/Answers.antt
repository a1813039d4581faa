use Rattle.std.proofs.Common.{refl}
use Rattle.std.specs.Prelude.{Ok, Err}
use Rattle.leaf_journal.proofs.Steps.{moments}
use Rattle.keeper_api.proofs.Coming.{as_before_then}
use Rattle.log_appending.proofs.Moved.{only_read}
use Rattle.log_appending.proofs.Told.{of_value, tried}
use Rattle.log_appending.proofs.Unopened.{holds_key}
use Rattle.log_appending.specs.Recording.{Records, RecordsValue}
use Rattle.log_appending.proofs.values.append_value.Goals as goal

pub returns-in-Err-Failed-clause-ends : goal.returns-in-Err-Failed-clause-ends
returns-in-Err-Failed-clause-ends g c = record {
  why = holds_key g.R.Keeper g.D.Disk c.body_of.new.keeper c.open_log.new.disk c.in-Ok.opened.key.signer c.in-Ok.ensures.loaded;
  same = record {
    store = as_before_then g.R.Keeper c.args.keeper.now c.open_log.new.keeper c.body_of.new.keeper c.in-Ok.ensures.same c.body_of.ensures.same;
    kept = c.in-Ok.ensures.kept;
  };
  unasked = refl;
}

pub returns-in-Err-Failed-clause-any_moment : goal.returns-in-Err-Failed-clause-any_moment
returns-in-Err-Failed-clause-any_moment g c = only_read g.D.Disk c.args.disk.now c.open_log.new.disk c.in-Ok.ensures.any_moment

pub returns-in-Err-Memory-clause-any_moment : goal.returns-in-Err-Memory-clause-any_moment
returns-in-Err-Memory-clause-any_moment g c = only_read g.D.Disk c.args.disk.now c.open_log.new.disk c.in-Ok.ensures.any_moment

pub returns-in-Ok-append_entry-clause-ends : goal.returns-in-Ok-append_entry-clause-ends
returns-in-Ok-append_entry-clause-ends g c =
    tried g.R.Keeper g.D.Disk (g.C.Clock.left c.args.clock.now) (g.C.Clock.left c.append_entry.new.clock) (Records c.args.name.now) (RecordsValue c.args.name.now) c.in-Ok.opened.key.signer.secret c.in-Ok.opened.log.ids
    c.in-Ok-body_of.body c.args.keeper.now c.open_log.new.keeper c.body_of.new.keeper c.append_entry.new.keeper c.args.disk.now c.open_log.new.disk c.append_entry.new.disk
    (Ok c.in-Ok-append_entry.appended) c.in-Ok.ensures.short c.in-Ok.ensures.same c.body_of.ensures.same c.in-Ok.ensures.kept c.in-Ok.ensures.log (c.in-Ok-body_of.ensures.body.0, c.in-Ok-body_of.ensures.body.1)
    (of_value c.args.name.now c.in-Ok-body_of.ensures.body.0 c.in-Ok-body_of.body (g.R.Keeper.content c.body_of.new.keeper) c.in-Ok-body_of.ensures.body.1 c.in-Ok-body_of.ensures.body.2)
    c.in-Ok-append_entry.ensures.ends

pub returns-in-Ok-append_entry-clause-any_moment : goal.returns-in-Ok-append_entry-clause-any_moment
returns-in-Ok-append_entry-clause-any_moment g c =
    moments g.D.Disk c.args.disk.now c.open_log.new.disk c.append_entry.new.disk c.in-Ok.ensures.any_moment c.in-Ok.ensures.kept.no_more c.in-Ok-append_entry.ensures.any_moment

pub returns-in-Err-append_entry-clause-ends : goal.returns-in-Err-append_entry-clause-ends
returns-in-Err-append_entry-clause-ends g c =
    tried g.R.Keeper g.D.Disk (g.C.Clock.left c.args.clock.now) (g.C.Clock.left c.append_entry.new.clock) (Records c.args.name.now) (RecordsValue c.args.name.now) c.in-Ok.opened.key.signer.secret c.in-Ok.opened.log.ids
    c.in-Ok-body_of.body c.args.keeper.now c.open_log.new.keeper c.body_of.new.keeper c.append_entry.new.keeper c.args.disk.now c.open_log.new.disk c.append_entry.new.disk
    (Err c.in-Err-append_entry.fault) c.in-Ok.ensures.short c.in-Ok.ensures.same c.body_of.ensures.same c.in-Ok.ensures.kept c.in-Ok.ensures.log (c.in-Ok-body_of.ensures.body.0, c.in-Ok-body_of.ensures.body.1)
    (of_value c.args.name.now c.in-Ok-body_of.ensures.body.0 c.in-Ok-body_of.body (g.R.Keeper.content c.body_of.new.keeper) c.in-Ok-body_of.ensures.body.1 c.in-Ok-body_of.ensures.body.2)
    c.in-Err-append_entry.ensures.ends

pub returns-in-Err-append_entry-clause-any_moment : goal.returns-in-Err-append_entry-clause-any_moment
returns-in-Err-append_entry-clause-any_moment g c =
    moments g.D.Disk c.args.disk.now c.open_log.new.disk c.append_entry.new.disk c.in-Ok.ensures.any_moment c.in-Ok.ensures.kept.no_more c.in-Err-append_entry.ensures.any_moment
