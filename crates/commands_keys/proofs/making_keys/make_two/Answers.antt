use Rattle.std.proofs.Common.{◌∙◌, ap}
use Rattle.commands_keys.specs.KeyLines.{key_line}
use Rattle.commands_keys.proofs.making_keys.make_two.Goals as goal

pub returns-in-Ok-clause-told : goal.returns-in-Ok-clause-told
returns-in-Ok-clause-told g c = c.write_key_line.ensures ∙ ap key_line (c.as_slice.ensures ∙ c.in-Ok.ensures.key)
