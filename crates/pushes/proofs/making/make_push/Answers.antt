use Rattle.std.proofs.Common.{sym, ap, ◌∙◌}
use Rattle.pushes.specs.Making.{fault_of_log, first_missing}
use Rattle.pushes.proofs.Causes.{keeper_cause, log_cause, text_cause}
use Rattle.pushes.proofs.Made.{as_made, not_gathered, not_gone, not_read, of_text}
use Rattle.pushes.proofs.Written.{push_of}
use Rattle.pushes.proofs.making.make_push.Goals as goal

pub returns-in_err-entry-clause-makes : goal.returns-in_err-entry-clause-makes
returns-in_err-entry-clause-makes g c = λ r told.
    let fault = c.in_err-entry.field-0.0 in
    as_made r c.args.before.now c.args.id.now c.from_residual.result (fault_of_log fault) c.from_residual.ensures.1
    (not_read r c.args.before.now c.args.id.now c.as_bytes.ensures.valid fault (c.in_err-entry.ensures.broken r told) c.in_err-entry.ensures.named)

pub returns-in_err-ids-clause-makes : goal.returns-in_err-ids-clause-makes
returns-in_err-ids-clause-makes g c = λ r told.
    let fault = c.in_err-ids.field-0.0 in
    as_made r c.args.before.now c.args.id.now c.from_residual-in_err-ids.result (fault_of_log fault) c.from_residual-in_err-ids.ensures.1
    (not_gone r c.args.before.now c.args.id.now c.as_bytes.ensures.valid fault (c.in_err-ids.ensures.broken r told))

pub returns-in_err-ids-clause-cause : goal.returns-in_err-ids-clause-cause
returns-in_err-ids-clause-cause g c =
    log_cause c.from_residual-in_err-ids.result c.in_err-ids.field-0.0 c.from_residual-in_err-ids.ensures.1 c.in_ok-entry.ensures.cause.is
    c.in_err-ids.ensures.cause

pub returns-in_err-missing-clause-cause : goal.returns-in_err-missing-clause-cause
returns-in_err-missing-clause-cause g c =
    keeper_cause c.from_residual-in_err-missing.result c.in_err-missing.field-0.0 c.from_residual-in_err-missing.ensures.1
    (c.in_ok-ids.ensures.cause.is ∙ c.in_ok-entry.ensures.cause.is) c.in_err-missing.ensures.cause

pub returns-in_err-objects-clause-makes : goal.returns-in_err-objects-clause-makes
returns-in_err-objects-clause-makes g c = λ r told.
    let missing_told = c.in_err-objects.ensures.same.content r told in
    let ids_told = c.in_ok-missing.ensures.same.content r missing_told in
    let entry_told = c.in_ok-ids.ensures.same.content r ids_told in
    let whole = ap (first_missing r) (sym c.as_slice.ensures.value) ∙ sym (c.in_ok-missing.ensures.first r missing_told) ∙ c.in_default.is in
    let fault = c.in_err-objects.field-0.0 in
    as_made r c.args.before.now c.args.id.now c.from_residual-in_err-objects.result fault c.from_residual-in_err-objects.ensures.1
    (not_gathered r c.args.before.now c.args.id.now c.as_bytes.ensures.valid c.in_ok-entry.entry
    (c.in_ok-entry.ensures.entry r entry_told) c.in_ok-ids.ids.items (c.in_ok-ids.ensures.go r ids_told) whole fault
    (c.in_err-objects.ensures.stops r told))

pub returns-clause-makes : goal.returns-clause-makes
returns-clause-makes g c = λ r told.
    let missing_told = c.in_ok-objects.ensures.same.content r told in
    let ids_told = c.in_ok-missing.ensures.same.content r missing_told in
    let entry_told = c.in_ok-ids.ensures.same.content r ids_told in
    let whole = ap (first_missing r) (sym c.as_slice.ensures.value) ∙ sym (c.in_ok-missing.ensures.first r missing_told) ∙ c.in_default.is in
    of_text r c.args.before.now c.args.id.now c.as_bytes.ensures.valid c.in_ok-entry.entry
    (c.in_ok-entry.ensures.entry r entry_told) c.in_ok-ids.ids.items (c.in_ok-ids.ensures.go r ids_told) whole
    c.in_ok-objects.objects (c.in_ok-objects.ensures.those r told)
    (c.in_ok-objects.ensures.found r told) c.text_of.result c.text_of.ensures.written c.text_of.ensures.stops

pub returns-clause-push : goal.returns-clause-push
returns-clause-push g c = push_of c.in_ok-objects.objects c.args.id.now c.text_of.result c.text_of.ensures.written

pub returns-clause-cause : goal.returns-clause-cause
returns-clause-cause g c =
    text_cause c.in_ok-objects.objects c.args.id.now c.text_of.result
    (c.in_ok-objects.ensures.cause.is ∙ c.in_ok-missing.ensures.cause.is ∙ c.in_ok-ids.ensures.cause.is
    ∙ c.in_ok-entry.ensures.cause.is) c.text_of.ensures.stops
