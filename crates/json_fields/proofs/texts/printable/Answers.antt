use Rattle.std.proofs.lemmas.Result.{IfOk-weaker}
use Rattle.json_fields.proofs.Printable.{is_text}
use Rattle.json_fields.proofs.texts.printable.Goals as goal

pub returns-clause-ascii : goal.returns-clause-ascii
returns-clause-ascii c = IfOk-weaker c.escaped_text.result _ _ (λ word is. is_text c.args.bytes.now word is) c.escaped_text.ensures
