use Rattle.std.proofs.Common.{◌∙◌, Some, ap}
use Rattle.rsl_chain.specs.declared.entries.Entry.{Entry}
use Rattle.accounts.specs.Skips.{skip_told, skips_told}
use Rattle.accounts.proofs.Skipping.{found_some, no_break_at}
use Rattle.accounts.proofs.skip_lines.tell_there.Goals as goal

pub returns-in-Err-clause-unbroken : goal.returns-in-Err-clause-unbroken
returns-in-Err-clause-unbroken g c = λ r told is at. no_break_at r c.args.judged.now is c.args.id.now c.args.number at c.in-Err.fault (c.in-Err.ensures.broken r told)

pub returns-in-Ok-told_of-clause-told : goal.returns-in-Ok-told_of-clause-told
returns-in-Ok-told_of-clause-told g c = λ r told is at.
    let anchor = c.args.judged.now.engine.rules.anchor in
    let found = found_some r c.args.judged.now is c.args.id.now c.args.number at c.in-Ok.entry (c.in-Ok.ensures.entry r told) in
    let t = found.0 in
    record {
      ids = is.ids;
      is_log = is.is_log;
      log = is.log;
      entries = is.entries;
      number = c.args.number;
      found = Some t;
      at = found.2;
      told = c.in-Ok-told_of.ensures.line is.log t.repository is.stands
          ∙ ap (λ (e : Entry). skip_told anchor is.log c.args.key.now c.args.id.now c.args.number (Some (record { entry = e; repository = t.repository }))) found.1;
      is = c.in-Ok-told_of.ensures.skips is.log t.repository is.stands
          ∙ ap (λ (e : Entry). skips_told anchor is.log c.args.key.now (Some (record { entry = e; repository = t.repository }))) found.1;
    }
