use Rattle.std.proofs.lemmas.Result.{on_ok_weaker}
use Rattle.json_fields.proofs.InParts.{follows_more}
use Rattle.account_lines.proofs.entries.write_noting.Goals as goal

pub returns : goal.returns
returns c =
    let timed = rw c.time_of.ensures at c.in_ok-next_field-5.ensures in
    on_ok_weaker c.next_word.result (λ e. follows_more (follows_more (follows_more (follows_more (follows_more c.in_ok-next_field.ensures c.in_ok-next_field-2.ensures) c.in_ok-next_field-3.ensures) c.in_ok-next_field-4.ensures) timed) (rw c.verdict_word.ensures at e)) c.next_word.ensures
