use Rattle.std.proofs.Common.{sym}
use Rattle.std.proofs.lemmas.Bool.{false≢true}
use Rattle.text_reader.proofs.LowerHexadecimal.{written, not_read}
use Rattle.text_reader.proofs.hexadecimal.read_hexadecimal.Goals as goal

pub returns-in-Ok-clause-value : goal.returns-in-Ok-clause-value
returns-in-Ok-clause-value g c =
    written g.row.N c.args.text.now c.in-Ok.bytes (c.is_lower_hexadecimal.ensures.0 c.if-not-is_lower_hexadecimal.false) (sym c.in-Ok.ensures)

pub returns-in-Err-clause-found : goal.returns-in-Err-clause-found
returns-in-Err-clause-found g c =
    (λ never. absurd (false≢true never), λ is. absurd (not_read g.row.N c.args.text.now c.in-Err.field-0 c.in-Err.ensures is))
