use Rattle.std.proofs.Common.{◌≡◌, ◌-◌, List, Some, length, refl, sym, ap, ◌∙◌, arith}
use Rattle.std.specs.List.{slice_get}
use Rattle.std.proofs.lemmas.Option.{slice_get_read}
use Rattle.entry_rules.specs.RealRules.{real_rules}
use Rattle.account_lines.specs.declared.rows.EntryRow.{EntryRow}
use Rattle.judged_logs.specs.Firsts.{rescuer_of, skipper_of}
use Rattle.judged_logs.specs.LaterRules.{rules_from}
use Rattle.judged_logs.proofs.Later.{rescuer_late}
use Rattle.accounts.proofs.Lines.{is_line, no_break}
use Rattle.accounts.proofs.later_lines.later_line.Goals as goal

pub returns-in-Err-clause-unbroken : goal.returns-in-Err-clause-unbroken
returns-in-Err-clause-unbroken g c = λ r told is.
    let rows = c.as_slice.result.now in
    let there : slice_get rows (c.args.number - 1) ≡ Some c.index-as_slice-number.result =
    slice_get_read rows (length rows) (c.args.number - 1) c.index-as_slice-number.result refl
    (omega (arith, c.requires.some, c.requires.within, ap length c.as_slice.ensures)) c.index-as_slice-number.is in
    let at = ap (λ (all : List EntryRow). slice_get all (c.args.number - 1)) (sym c.as_slice.ensures) ∙ there in
    let known = is.stands.rows c.args.number c.index-as_slice-number.result c.requires.some c.requires.judged at in
    no_break r c.args.judged.now.engine.rules.anchor is.log is.own c.args.number c.index-as_slice-number.result known c.in-Err.fault (c.in-Err.ensures.broken r told)

pub returns-in-Ok-line_of-clause-line : goal.returns-in-Ok-line_of-clause-line
returns-in-Ok-line_of-clause-line g c = λ r told is.
    let rows = c.as_slice.result.now in
    let there : slice_get rows (c.args.number - 1) ≡ Some c.index-as_slice-number.result =
    slice_get_read rows (length rows) (c.args.number - 1) c.index-as_slice-number.result refl
    (omega (arith, c.requires.some, c.requires.within, ap length c.as_slice.ensures)) c.index-as_slice-number.is in
    let at = ap (λ (all : List EntryRow). slice_get all (c.args.number - 1)) (sym c.as_slice.ensures) ∙ there in
    let known = is.stands.rows c.args.number c.index-as_slice-number.result c.requires.some c.requires.judged at in
    let whole = real_rules c.args.judged.now.engine.rules.anchor in
    let rules = rules_from c.args.judged.now.engine.first whole in
    let skipper : c.skipper.result ≡ skipper_of whole is.log c.args.number = c.skipper.ensures rules is.log c.requires.some is.stands.later in
    let rescuer : c.rescuer.result ≡ rescuer_of whole is.log c.args.number =
    c.rescuer.ensures rules is.log c.requires.some is.stands.later
    ∙ rescuer_late c.args.judged.now.engine.first whole is.log is.stands.numbered c.args.number c.requires.some c.requires.judged in
    is_line r c.args.judged.now.engine.rules.anchor is.log is.own c.args.number c.index-as_slice-number.result known c.in-Ok.entry (record { skipper = c.skipper.result; rescuer = c.rescuer.result }) c.in-Ok-line_of.text
    (c.in-Ok.ensures.entry r told) (λ i. record { skipper = skipper i; rescuer = rescuer i }) c.in-Ok-line_of.ensures
