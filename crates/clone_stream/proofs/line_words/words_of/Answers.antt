use Rattle.std.proofs.Common.{refl, ap, ◌∙◌}
use Rattle.std.specs.Prelude.{Err}
use Rattle.clone_stream.proofs.line_words.words_of.Goals as goal

pub returns-in-Err-TooLarge-clause-bad : goal.returns-in-Err-TooLarge-clause-bad
returns-in-Err-TooLarge-clause-bad c = (refl, c.read_head.ensures.too_large (c.in-Err-TooLarge.is ∙ ap Err c.in-Err-TooLarge.field-0-is))
