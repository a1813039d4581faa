use Rattle.std.proofs.lemmas.Result.{on_ok_weaker}
use Rattle.std.specs.Prelude.{codes}
use Rattle.json_fields.proofs.InParts.{followed}
use Rattle.account_lines.specs.Lines.{refusal_data}
use Rattle.account_lines.proofs.entries.fault_field.Goals as goal

pub returns : goal.returns
returns c =
    on_ok_weaker c.write_refusal.result
    (λ e. followed (codes "fault") (refusal_data c.args.verdict.now) c.args.text.now c.next_name.new.text c.write_refusal.new.text c.in_ok-next_name.ensures e)
    c.write_refusal.ensures
