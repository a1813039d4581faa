use Rattle.std.proofs.Common.{◌++◌, ap, sym, ◌∙◌}
use Rattle.std.proofs.lemmas.Result.{on_ok_weaker}
use Rattle.serde_json.specs.Written.{compact_text}
use Rattle.account_lines.specs.Lines.{body_data}
use Rattle.account_lines.proofs.entries.write_entry.Goals as goal

pub returns-in-Annotation : goal.returns-in-Annotation
returns-in-Annotation c =
    on_ok_weaker c.write_annotation.result
    (λ e. e ∙ ap (λ body. c.args.text.now ++ compact_text (body_data c.args.entry.now c.args.row.now c.args.later.now body)) (sym c.in-Annotation.is))
    c.write_annotation.ensures
