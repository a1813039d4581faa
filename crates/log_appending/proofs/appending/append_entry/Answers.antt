use Rattle.std.proofs.Common.{refl}
use Rattle.log_appending.proofs.Causes.{no_cause}
use Rattle.log_appending.proofs.Ended.{added, no_clock, not_added, not_drafted}
use Rattle.log_appending.specs.Signing.{clock_failed}
use Rattle.log_appending.proofs.appending.append_entry.Goals as goal

pub returns-in-Err-clause-ends : goal.returns-in-Err-clause-ends
returns-in-Err-clause-ends g c =
    not_drafted g.R.Keeper g.D.Disk c.args.opened.key.signer.secret c.args.keeper.now c.args.disk.now c.args.opened.log.ids c.args.body
    (g.C.Clock.left c.args.clock.now) (g.C.Clock.left c.draft_entry.new.clock) c.in-Err.fault c.in-Err.ensures.why

pub returns-in-Ok-append_draft-clause-ends : goal.returns-in-Ok-append_draft-clause-ends
returns-in-Ok-append_draft-clause-ends g c =
    added g.R.Keeper g.D.Disk c.args.opened.key.signer.secret c.args.keeper.now c.append_draft.new.keeper c.args.disk.now c.append_draft.new.disk c.args.opened.log.ids c.args.body
    (g.C.Clock.left c.args.clock.now) (g.C.Clock.left c.draft_entry.new.clock) c.in-Ok.draft c.in-Ok.ensures.draft.0 (record { number = c.in-Ok.draft.number; id = c.in-Ok-append_draft.id }) c.in-Ok.draft.number
    c.in-Ok.ensures.draft.1 c.in-Ok.ensures.draft.2 refl refl c.in-Ok-append_draft.ensures.ends

pub returns-clause-ends : goal.returns-clause-ends
returns-clause-ends g c =
    not_added g.R.Keeper g.D.Disk c.args.opened.key.signer.secret c.args.keeper.now c.append_draft.new.keeper c.args.disk.now c.append_draft.new.disk c.args.opened.log.ids c.args.body
    (g.C.Clock.left c.args.clock.now) (g.C.Clock.left c.draft_entry.new.clock) c.in-Ok.draft c.in-Ok.ensures.draft.0 c.in-Err-append_draft.fault
    c.in-Ok.ensures.draft.1 c.in-Ok.ensures.draft.2 c.in-Err-append_draft.ensures.ends

pub returns-clause-clock : goal.returns-clause-clock
returns-clause-clock g c =
    no_cause clock_failed c.in-Err-append_draft.fault _ _
    (no_clock g.R.Keeper g.D.Disk c.args.opened.key.signer.secret c.args.keeper.now c.append_draft.new.keeper c.args.disk.now c.append_draft.new.disk c.in-Ok.draft c.in-Err-append_draft.fault
    c.in-Err-append_draft.ensures.ends)
    c.in-Ok.ensures.clock.later c.in-Ok.ensures.clock.is
