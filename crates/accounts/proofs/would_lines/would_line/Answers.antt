use Rattle.std.proofs.Common.{◌∙◌, Option, ap, false, refl, subst, sym}
use Rattle.std.proofs.lemmas.Result.{IfOk-weaker}
use Rattle.judging.specs.Engines.{Stands}
use Rattle.judging.specs.declared.engine.Engine.{Engine}
use Rattle.policy_epochs.specs.declared.policies.Policy.{Policy}
use Rattle.std.specs.Option.{option_copied}
use Rattle.policy_changes.specs.Persons.{persons_of}
use Rattle.entry_rules.specs.RealRules.{real_rules}
use Rattle.entry_rules.specs.declared.faults.Fault.{Fault}
use Rattle.account_lines.specs.Lines.{entry_line}
use Rattle.account_lines.specs.declared.rows.EntryRow.{EntryRow}
use Rattle.accounts.specs.Accounts.{no_later}
use Rattle.accounts.proofs.Would.{row_is}
use Rattle.accounts.proofs.would_lines.would_line.Goals as goal

pub returns : goal.returns
returns c =
    IfOk-weaker c.entry_line.result _ _ (λ line made log stands.
    let rules = real_rules c.args.judged.now.engine.rules.anchor in
    let follows = subst (λ (e : Engine Policy Fault). Stands rules log e) (sym c.entries.ensures) stands.follows in
    let row : EntryRow = record {
      id = c.zeros.result;
      epoch = c.args.judged.now.epoch;
      prior = c.prior.result;
      from = c.prior_target.result;
      signed = false;
      signers = c.in_ok-copy.field-0;
      persons = c.in_ok-persons_of.field-0;
      verdict = c.in_ok-answer_of.field-0;
      changed = c.args.changed;
    } in
    let is = row_is c.args.judged.now log stands c.args.proposed.now c.args.found.now row c.zeros.ensures refl (c.prior.ensures rules log follows) (c.prior_target.ensures log stands.follows) refl
    c.in_ok-copy.ensures.same (c.in_ok-persons_of.ensures ∙ ap (persons_of (option_copied c.policy.result)) c.as_slice.ensures
    ∙ ap (λ (p : Option Policy). persons_of p c.args.found.now.signers) (c.policy.ensures log stands.follows)) c.in_ok-answer_of.ensures in
    made ∙ (λ i. entry_line (c.in_ok-entry.ensures i) (is i) no_later)) c.entry_line.ensures
