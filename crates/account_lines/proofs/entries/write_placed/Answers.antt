use Rattle.std.proofs.lemmas.Result.{on_ok_weaker}
use Rattle.json_fields.proofs.InParts.{follows_more}
use Rattle.account_lines.proofs.entries.write_placed.Goals as goal

pub returns : goal.returns
returns c =
    on_ok_weaker c.next_field-5.result (λ e. follows_more (follows_more (follows_more (follows_more (follows_more c.in_ok-next_word.ensures c.in_ok-next_field.ensures) c.in_ok-next_field-2.ensures) c.in_ok-next_field-3.ensures) c.in_ok-next_field-4.ensures) e) c.next_field-5.ensures
