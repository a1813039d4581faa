use Rattle.std.proofs.lemmas.Result.{on_ok_weaker}
use Rattle.serde_json.specs.Data.{string}
use Rattle.json_fields.proofs.InParts.{followed}
use Rattle.json_fields.proofs.line_fields.next_word.Goals as goal

pub returns : goal.returns
returns c =
    on_ok_weaker c.write_word.result
    (λ e. followed c.args.name.now (string c.args.word.now) c.args.text.now c.next_name.new.text c.write_word.new.text c.in_ok-next_name.ensures e)
    c.write_word.ensures
