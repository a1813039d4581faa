use Rattle.std.proofs.lemmas.Result.{on_ok_weaker}
use Rattle.json_fields.proofs.InParts.{opens_more}
use Rattle.account_lines.proofs.entries.write_listing.Goals as goal

pub returns : goal.returns
returns c =
    on_ok_weaker c.next_word.result (λ e. opens_more (opens_more (opens_more (opens_more (opens_more c.in_ok-open_with_author.ensures c.in_ok-next_field.ensures) c.in_ok-next_field-2.ensures) c.in_ok-next_field-3.ensures) c.in_ok-next_field-4.ensures) (rw c.annotation_word.ensures at e)) c.next_word.ensures
