use Rattle.std.proofs.lemmas.Result.{on_ok_weaker}
use Rattle.json_fields.proofs.InParts.{closed, opens_more}
use Rattle.account_lines.proofs.entries.write_reference.Goals as goal

pub returns : goal.returns
returns c = on_ok_weaker c.push.result (λ e. closed c.push.new.self (opens_more (opens_more c.in_ok-write_judged.ensures c.in_ok-write_placed.ensures) c.in_ok-write_signed.ensures) e) c.push.ensures.added
