use Rattle.std.specs.Prelude.{Ok, Err}
use Rattle.json_fields.proofs.Digits.{not_lower, read_found}
use Rattle.json_fields.proofs.shapes.read_hex.Goals as goal

pub returns-then-not-is_lower_hexadecimal : goal.returns-then-not-is_lower_hexadecimal
returns-then-not-is_lower_hexadecimal g c = not_lower _ c.args.text.now c.is_lower_hexadecimal.result c.if-not-is_lower_hexadecimal.true c.is_lower_hexadecimal.ensures.1

pub returns-in-Ok : goal.returns-in-Ok
returns-in-Ok g c = read_found _ c.args.text.now (Ok c.in-Ok.bytes) (c.is_lower_hexadecimal.ensures.0 c.if-not-is_lower_hexadecimal.false) c.in-Ok.ensures

pub returns-in-Err : goal.returns-in-Err
returns-in-Err g c = read_found _ c.args.text.now (Err c.in-Err.field-0) (c.is_lower_hexadecimal.ensures.0 c.if-not-is_lower_hexadecimal.false) c.in-Err.ensures
