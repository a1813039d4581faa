use Rattle.std.proofs.Common.{arith, subst, sym}
use Rattle.std.specs.List.{AllPass}
use Rattle.json_fields.specs.Writing.{is_plain}
use Rattle.json_fields.proofs.Plain.{hexadecimal_plain}
use Rattle.json_fields.proofs.line_writing.write_through.Goals as goal

pub write_quoted-requires : goal.write_quoted-requires
write_quoted-requires c = subst (AllPass is_plain) (sym c.in-Ok.ensures.written) (hexadecimal_plain c.args.bytes.now (λ i. let h = c.type_inv.bytes i in omega arith))
