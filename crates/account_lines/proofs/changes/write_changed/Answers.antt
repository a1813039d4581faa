use Rattle.std.proofs.Common.{◌++◌, ap, subst, sym, ◌∙◌}
use Rattle.std.proofs.lemmas.Result.{on_ok_weaker}
use Rattle.std.specs.Prelude.{Option, codes}
use Rattle.serde_json.specs.Written.{compact_text, has_float}
use Rattle.json_fields.specs.Writing.{Follows}
use Rattle.json_fields.proofs.InParts.{followed}
use Rattle.policy_changes.specs.declared.changes.PolicyChange.{PolicyChange}
use Rattle.account_lines.specs.Lines.{change_data, changed_members}
use Rattle.account_lines.proofs.Floatless.{change_floatless}
use Rattle.account_lines.proofs.changes.write_changed.Goals as goal

pub returns-in_ok-next_name-in-Some : goal.returns-in_ok-next_name-in-Some
returns-in_ok-next_name-in-Some c =
    let change = c.in-Some.change in
    let is = c.in_ok-value-in-Some.ensures in
    let P : Option PolicyChange → Type 0 = λ told. Follows (changed_members told) c.args.text.now c.write_value.new.text in
    on_ok_weaker c.write_value.result
    (λ written. subst P (sym c.in-Some.is) (followed (codes "changed") (change_data change) c.args.text.now c.next_name.new.text c.write_value.new.text c.in_ok-next_name-in-Some.ensures
    (written (ap has_float is ∙ change_floatless change) ∙ ap (λ d. c.next_name.new.text ++ compact_text d) is)))
    c.write_value.ensures
