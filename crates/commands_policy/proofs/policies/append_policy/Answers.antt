use Rattle.std.proofs.Common.{◌+◌, ◌≤◌, ℕ, List, ap, arith, length, refl, subst, sum_by, sym}
use Rattle.std.specs.Prelude.{Ok, Err, Result}
use Rattle.leaf_journal.proofs.Steps.{moments}
use Rattle.git_object.specs.References.{policy_name}
use Rattle.rsl_chain.specs.declared.entries.EntryBody.TheVariants.{Reference}
use Rattle.keeper_api.proofs.Coming.{as_before_then}
use Rattle.log_appending.proofs.Moved.{only_read}
use Rattle.git_object.specs.Repository.{value_of}
use Rattle.log_appending.proofs.Told.{told_before, tried}
use Rattle.log_appending.proofs.Unopened.{holds_key}
use Rattle.log_appending.specs.Opening.{WhyUnread}
use Rattle.log_appending.specs.Recording.{Records}
use Rattle.log_appending.specs.declared.opening.ReadingFault.{ReadingFault}
use Rattle.policy_epochs.specs.declared.faults.PolicyFault.{PolicyFault}
use Rattle.policy_reading.specs.Policies.{policy_reads}
use Rattle.policy_reading.specs.Reading.{entry_reads}
use Rattle.commands_policy.proofs.Judging.{opens, policy_fault, refuses, unread}
use Rattle.commands_policy.specs.Applying.{Judges, RecordsEpoch}
use Rattle.commands_policy.proofs.policies.append_policy.Goals as goal

pub returns-in-Ok-Err-clause-ends : goal.returns-in-Ok-Err-clause-ends
returns-in-Ok-Err-clause-ends g c =
    refuses g.R.Keeper g.D.Disk (g.C.Clock.left c.args.clock.now) c.args.keeper.now c.judge_value.new.keeper c.args.disk.now c.open_log.new.disk c.in-Ok-Err.why c.refused.result c.refused.ensures
    (holds_key g.R.Keeper g.D.Disk c.judge_value.new.keeper c.open_log.new.disk c.in-Ok-open_log.opened.key.signer c.in-Ok-open_log.ensures.loaded)
    (λ r told.
    let log = c.in-Ok-open_log.ensures.log r (c.in-Ok-Err.ensures.same.content r told) in
    policy_fault r c.in-Ok-open_log.opened.log.ids c.in-Ok.name c.in-Ok-Err.why log c.in-Ok-open_log.ensures.short c.in-Ok.ensures
    (subst (λ (judged : Result (List ℕ) PolicyFault). Judges r c.in-Ok.name judged) c.in-Ok-Err.field-0-is (c.in-Ok-Err.ensures.judges r told log)))
    (record {
      store = as_before_then g.R.Keeper c.args.keeper.now c.open_log.new.keeper c.judge_value.new.keeper c.in-Ok-open_log.ensures.same c.in-Ok-Err.ensures.same;
      kept = c.in-Ok-open_log.ensures.kept;
    })

pub returns-in-Ok-Err-clause-any_moment : goal.returns-in-Ok-Err-clause-any_moment
returns-in-Ok-Err-clause-any_moment g c = only_read g.D.Disk c.args.disk.now c.open_log.new.disk c.in-Ok-open_log.ensures.any_moment

pub returns-in-Err-judge_value-clause-ends : goal.returns-in-Err-judge_value-clause-ends
returns-in-Err-judge_value-clause-ends g c = record {
  why = subst (λ (f : ReadingFault). WhyUnread g.R.Keeper g.D.Disk c.judge_value.new.keeper c.open_log.new.disk f) (sym c.unread_log.ensures)
      (unread g.R.Keeper g.D.Disk c.judge_value.new.keeper c.open_log.new.disk c.in-Err-judge_value.fault
      (holds_key g.R.Keeper g.D.Disk c.judge_value.new.keeper c.open_log.new.disk c.in-Ok-open_log.opened.key.signer c.in-Ok-open_log.ensures.loaded)
      (λ r told. c.in-Err-judge_value.ensures.broken r told (c.in-Ok-open_log.ensures.log r (c.in-Err-judge_value.ensures.same.content r told))));
  same = record {
    store = as_before_then g.R.Keeper c.args.keeper.now c.open_log.new.keeper c.judge_value.new.keeper c.in-Ok-open_log.ensures.same c.in-Err-judge_value.ensures.same;
    kept = c.in-Ok-open_log.ensures.kept;
  };
  unasked = refl;
}

pub returns-in-Err-judge_value-clause-any_moment : goal.returns-in-Err-judge_value-clause-any_moment
returns-in-Err-judge_value-clause-any_moment g c = only_read g.D.Disk c.args.disk.now c.open_log.new.disk c.in-Ok-open_log.ensures.any_moment

pub returns-in-Ok-append_entry-clause-ends : goal.returns-in-Ok-append_entry-clause-ends
returns-in-Ok-append_entry-clause-ends g c =
    tried g.R.Keeper g.D.Disk (g.C.Clock.left c.args.clock.now) (g.C.Clock.left c.append_entry.new.clock) (Records policy_name) RecordsEpoch c.in-Ok-open_log.opened.key.signer.secret c.in-Ok-open_log.opened.log.ids
    (Reference c.in-Ok.name c.in-Ok-Ok.target) c.args.keeper.now c.open_log.new.keeper c.judge_value.new.keeper c.append_entry.new.keeper c.args.disk.now c.open_log.new.disk c.append_entry.new.disk
    (Ok c.in-Ok-append_entry.appended) c.in-Ok-open_log.ensures.short c.in-Ok-open_log.ensures.same c.in-Ok-Ok.ensures.same c.in-Ok-open_log.ensures.kept c.in-Ok-open_log.ensures.log
    (c.in-Ok-Ok.target, ap (λ (n : List ℕ). Reference n c.in-Ok-Ok.target) c.in-Ok.ensures)
    (λ r told.
    opens r c.in-Ok-open_log.opened.log.ids c.in-Ok.name c.in-Ok-Ok.target c.in-Ok.ensures
    (subst (λ (judged : Result (List ℕ) PolicyFault). Judges r c.in-Ok.name judged) c.in-Ok-Ok.field-0-is
    (c.in-Ok-Ok.ensures.judges r told (c.in-Ok-open_log.ensures.log r (c.in-Ok-Ok.ensures.same.content r told)))))
    c.in-Ok-append_entry.ensures.ends

pub returns-in-Ok-append_entry-clause-any_moment : goal.returns-in-Ok-append_entry-clause-any_moment
returns-in-Ok-append_entry-clause-any_moment g c =
    moments g.D.Disk c.args.disk.now c.open_log.new.disk c.append_entry.new.disk c.in-Ok-open_log.ensures.any_moment c.in-Ok-open_log.ensures.kept.no_more c.in-Ok-append_entry.ensures.any_moment

pub returns-in-Err-append_entry-clause-ends : goal.returns-in-Err-append_entry-clause-ends
returns-in-Err-append_entry-clause-ends g c =
    tried g.R.Keeper g.D.Disk (g.C.Clock.left c.args.clock.now) (g.C.Clock.left c.append_entry.new.clock) (Records policy_name) RecordsEpoch c.in-Ok-open_log.opened.key.signer.secret c.in-Ok-open_log.opened.log.ids
    (Reference c.in-Ok.name c.in-Ok-Ok.target) c.args.keeper.now c.open_log.new.keeper c.judge_value.new.keeper c.append_entry.new.keeper c.args.disk.now c.open_log.new.disk c.append_entry.new.disk
    (Err c.in-Err-append_entry.fault) c.in-Ok-open_log.ensures.short c.in-Ok-open_log.ensures.same c.in-Ok-Ok.ensures.same c.in-Ok-open_log.ensures.kept c.in-Ok-open_log.ensures.log
    (c.in-Ok-Ok.target, ap (λ (n : List ℕ). Reference n c.in-Ok-Ok.target) c.in-Ok.ensures)
    (λ r told.
    opens r c.in-Ok-open_log.opened.log.ids c.in-Ok.name c.in-Ok-Ok.target c.in-Ok.ensures
    (subst (λ (judged : Result (List ℕ) PolicyFault). Judges r c.in-Ok.name judged) c.in-Ok-Ok.field-0-is
    (c.in-Ok-Ok.ensures.judges r told (c.in-Ok-open_log.ensures.log r (c.in-Ok-Ok.ensures.same.content r told)))))
    c.in-Err-append_entry.ensures.ends

pub returns-in-Err-append_entry-clause-any_moment : goal.returns-in-Err-append_entry-clause-any_moment
returns-in-Err-append_entry-clause-any_moment g c =
    moments g.D.Disk c.args.disk.now c.open_log.new.disk c.append_entry.new.disk c.in-Ok-open_log.ensures.any_moment c.in-Ok-open_log.ensures.kept.no_more c.in-Err-append_entry.ensures.any_moment

pub returns-in-Ok-append_entry-clause-reads : goal.returns-in-Ok-append_entry-clause-reads
returns-in-Ok-append_entry-clause-reads g c = λ now held.
    let was = told_before g.R.Keeper g.D.Disk c.in-Ok-open_log.opened.key.signer.secret c.judge_value.new.keeper c.append_entry.new.keeper c.open_log.new.disk c.append_entry.new.disk
    c.in-Ok-open_log.opened.log.ids (Reference c.in-Ok.name c.in-Ok-Ok.target) (g.C.Clock.left c.args.clock.now) (g.C.Clock.left c.append_entry.new.clock) (Ok c.in-Ok-append_entry.appended)
    c.in-Ok-append_entry.ensures.ends now held in
    let opened = c.in-Ok-Ok.ensures.same.content was.0 was.1 in
    let named = ap (λ (name : List ℕ). policy_reads was.0 (value_of was.0 name)) c.in-Ok.ensures in
    let few : g.R.Keeper.reads c.append_entry.new.keeper
    ≤ g.R.Keeper.reads c.args.keeper.now + (length c.in-Ok-open_log.opened.log.ids + sum_by (entry_reads was.0) c.in-Ok-open_log.opened.log.ids + policy_reads was.0 (value_of was.0 policy_name)) =
    omega (arith, c.in-Ok-open_log.ensures.each, c.in-Ok-Ok.ensures.reads was.0 was.1, named, c.in-Ok-append_entry.ensures.reads) in
    (was.0, c.in-Ok-open_log.ensures.same.content was.0 opened, record { ids = c.in-Ok-open_log.opened.log.ids; log = c.in-Ok-open_log.ensures.log was.0 opened; few = few })
