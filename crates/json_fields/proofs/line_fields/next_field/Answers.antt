use Rattle.std.proofs.lemmas.Result.{on_ok_weaker}
use Rattle.json_fields.proofs.InParts.{followed}
use Rattle.json_fields.proofs.line_fields.next_field.Goals as goal

pub returns : goal.returns
returns g c =
    on_ok_weaker c.write_json.result
    (λ e. followed c.args.name.now (g.T.ToJson.data_of c.args.value.now) c.args.text.now c.next_name.new.text c.write_json.new.text c.in_ok-next_name.ensures e)
    c.write_json.ensures
