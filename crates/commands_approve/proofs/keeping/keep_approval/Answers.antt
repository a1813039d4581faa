use Rattle.std.proofs.Common.{◌≡◌, ℕ, List, ap, arith, length, subst}
use Rattle.std.specs.FinMap.{get}
use Rattle.std.specs.Prelude.{Ok, Err}
use Rattle.git_object.specs.Names.{log_name}
use Rattle.rsl_chain.proofs.Chains.{one_log}
use Rattle.rsl_chain.specs.Logs.{heads_of}
use Rattle.verify_ref.specs.Logs.{AreEntries}
use Rattle.leaf_journal.proofs.Steps.{moments}
use Rattle.log_appending.proofs.Moved.{only_read}
use Rattle.commands_approve.proofs.Free.{free_at}
use Rattle.commands_approve.proofs.Refused.{declined, tried}
use Rattle.commands_approve.proofs.keeping.keep_approval.Goals as goal

pub returns-in-Err-prepare-clause-ends : goal.returns-in-Err-prepare-clause-ends
returns-in-Err-prepare-clause-ends g c =
    declined g.R.Keeper g.D.Disk c.args.name.now c.args.target.now (g.C.Clock.left c.args.clock.now) c.args.keeper.now c.open_whole_log.new.keeper c.prepare.new.keeper c.args.disk.now c.open_whole_log.new.disk
    c.in-Ok.ensures.same c.in-Err-prepare.ensures.same c.in-Ok.ensures.kept c.in-Ok.opened.key.signer c.in-Ok.ensures.loaded c.in-Ok.opened.log.ids c.in-Ok.ensures.log c.in-Err-prepare.why c.not_kept.result c.not_kept.ensures
    c.in-Err-prepare.ensures.why

pub returns-in-Err-prepare-clause-any_moment : goal.returns-in-Err-prepare-clause-any_moment
returns-in-Err-prepare-clause-any_moment g c = only_read g.D.Disk c.args.disk.now c.open_whole_log.new.disk c.in-Ok.ensures.any_moment

pub returns-in-Ok-store_approval-clause-ends : goal.returns-in-Ok-store_approval-clause-ends
returns-in-Ok-store_approval-clause-ends g c =
    tried g.R.Keeper g.D.Disk c.args.name.now c.args.target.now (g.C.Clock.left c.args.clock.now) c.args.keeper.now c.open_whole_log.new.keeper c.prepare.new.keeper c.args.disk.now c.open_whole_log.new.disk
    c.in-Ok.ensures.same c.in-Ok-prepare.ensures.same c.in-Ok.ensures.kept c.in-Ok.opened.key.signer c.in-Ok.ensures.loaded c.in-Ok.opened.log.ids c.in-Ok.ensures.log (g.C.Clock.left c.store_approval.new.clock)
    c.store_approval.new.keeper c.store_approval.new.disk c.in-Ok-prepare.prepared.ends c.in-Ok-prepare.prepared.envelope (Ok c.in-Ok-store_approval.ends) c.in-Ok-prepare.ensures.prepared.room c.in-Ok-prepare.ensures.wanted
    (λ r told. free_at r c.args.name.now c.in-Ok-prepare.prepared.ends c.in-Ok-prepare.prepared.site c.in-Ok-prepare.ensures.prepared.fit (c.in-Ok-prepare.ensures.site r told))
    c.in-Ok-store_approval.ensures.ends

pub returns-in-Ok-store_approval-clause-any_moment : goal.returns-in-Ok-store_approval-clause-any_moment
returns-in-Ok-store_approval-clause-any_moment g c =
    moments g.D.Disk c.args.disk.now c.open_whole_log.new.disk c.store_approval.new.disk c.in-Ok.ensures.any_moment c.in-Ok.ensures.kept.no_more c.in-Ok-store_approval.ensures.any_moment

pub returns-clause-ends : goal.returns-clause-ends
returns-clause-ends g c =
    tried g.R.Keeper g.D.Disk c.args.name.now c.args.target.now (g.C.Clock.left c.args.clock.now) c.args.keeper.now c.open_whole_log.new.keeper c.prepare.new.keeper c.args.disk.now c.open_whole_log.new.disk
    c.in-Ok.ensures.same c.in-Ok-prepare.ensures.same c.in-Ok.ensures.kept c.in-Ok.opened.key.signer c.in-Ok.ensures.loaded c.in-Ok.opened.log.ids c.in-Ok.ensures.log (g.C.Clock.left c.store_approval.new.clock)
    c.store_approval.new.keeper c.store_approval.new.disk c.in-Ok-prepare.prepared.ends c.in-Ok-prepare.prepared.envelope (Err c.in-Err-store_approval.fault) c.in-Ok-prepare.ensures.prepared.room c.in-Ok-prepare.ensures.wanted
    (λ r told. free_at r c.args.name.now c.in-Ok-prepare.prepared.ends c.in-Ok-prepare.prepared.site c.in-Ok-prepare.ensures.prepared.fit (c.in-Ok-prepare.ensures.site r told))
    c.in-Err-store_approval.ensures.ends

pub returns-clause-any_moment : goal.returns-clause-any_moment
returns-clause-any_moment g c =
    moments g.D.Disk c.args.disk.now c.open_whole_log.new.disk c.store_approval.new.disk c.in-Ok.ensures.any_moment c.in-Ok.ensures.kept.no_more c.in-Err-store_approval.ensures.any_moment

pub returns-in-Ok-store_approval-clause-reads : goal.returns-in-Ok-store_approval-clause-reads
returns-in-Ok-store_approval-clause-reads g c = λ now held.
    let kept = c.in-Ok-store_approval.ensures.ends in
    let was = kept.is.0.is now held in
    let opened = c.in-Ok-prepare.ensures.same.content was.0 was.1 in
    let log = c.in-Ok.opened.log.ids in (
      was.0,
      c.in-Ok.ensures.same.content was.0 opened,
      λ ids is_log entries are bounded.
          let same : ids ≡ log = one_log (heads_of was.0) (get was.0.refs log_name) ids log is_log (c.in-Ok.ensures.log was.0 opened) in
          let these = subst (λ (xs : List (List ℕ)). AreEntries was.0 xs entries) same are in
          omega (arith, c.in-Ok-prepare.ensures.reads was.0 was.1 entries these bounded, ap length same, c.in-Ok.ensures.each, c.in-Ok-store_approval.ensures.reads),
    )
