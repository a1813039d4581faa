use Rattle.std.specs.Prelude.{Ok, Err}
use Rattle.leaf_journal.proofs.Steps.{moments}
use Rattle.keeper_api.proofs.Coming.{as_before}
use Rattle.log_appending.proofs.Told.{tried}
use Rattle.log_appending.specs.Recording.{Annotates, AnyNoted}
use Rattle.commands_log.proofs.annotating.append_note.Goals as goal

pub returns-in-Ok-append_entry-clause-ends : goal.returns-in-Ok-append_entry-clause-ends
returns-in-Ok-append_entry-clause-ends g c =
    tried g.R.Keeper g.D.Disk (g.C.Clock.left c.args.clock.now) (g.C.Clock.left c.append_entry.new.clock) (Annotates c.args.ids.now c.args.skip c.args.message.now) AnyNoted c.in-Ok-open_log.opened.key.signer.secret c.in-Ok-open_log.opened.log.ids
    c.in-Ok.body c.args.keeper.now c.open_log.new.keeper c.open_log.new.keeper c.append_entry.new.keeper c.args.disk.now c.open_log.new.disk c.append_entry.new.disk
    (Ok c.in-Ok-append_entry.appended) c.in-Ok-open_log.ensures.short c.in-Ok-open_log.ensures.same (as_before g.R.Keeper c.open_log.new.keeper) c.in-Ok-open_log.ensures.kept c.in-Ok-open_log.ensures.log c.in-Ok.ensures
    (λ r told. tt) c.in-Ok-append_entry.ensures.ends

pub returns-in-Ok-append_entry-clause-any_moment : goal.returns-in-Ok-append_entry-clause-any_moment
returns-in-Ok-append_entry-clause-any_moment g c =
    moments g.D.Disk c.args.disk.now c.open_log.new.disk c.append_entry.new.disk c.in-Ok-open_log.ensures.any_moment c.in-Ok-open_log.ensures.kept.no_more c.in-Ok-append_entry.ensures.any_moment

pub returns-in-Err-append_entry-clause-ends : goal.returns-in-Err-append_entry-clause-ends
returns-in-Err-append_entry-clause-ends g c =
    tried g.R.Keeper g.D.Disk (g.C.Clock.left c.args.clock.now) (g.C.Clock.left c.append_entry.new.clock) (Annotates c.args.ids.now c.args.skip c.args.message.now) AnyNoted c.in-Ok-open_log.opened.key.signer.secret c.in-Ok-open_log.opened.log.ids
    c.in-Ok.body c.args.keeper.now c.open_log.new.keeper c.open_log.new.keeper c.append_entry.new.keeper c.args.disk.now c.open_log.new.disk c.append_entry.new.disk
    (Err c.in-Err-append_entry.fault) c.in-Ok-open_log.ensures.short c.in-Ok-open_log.ensures.same (as_before g.R.Keeper c.open_log.new.keeper) c.in-Ok-open_log.ensures.kept c.in-Ok-open_log.ensures.log c.in-Ok.ensures
    (λ r told. tt) c.in-Err-append_entry.ensures.ends

pub returns-in-Err-append_entry-clause-any_moment : goal.returns-in-Err-append_entry-clause-any_moment
returns-in-Err-append_entry-clause-any_moment g c =
    moments g.D.Disk c.args.disk.now c.open_log.new.disk c.append_entry.new.disk c.in-Ok-open_log.ensures.any_moment c.in-Ok-open_log.ensures.kept.no_more c.in-Err-append_entry.ensures.any_moment
