use Rattle.std.specs.Prelude.{Err}
use Rattle.std.proofs.Common.{◌∙◌, ap, refl, inr}
use Rattle.program_desk.proofs.words.serve_words.Goals as goal

pub returns-in-Err-Outside-clause-found : goal.returns-in-Err-Outside-clause-found
returns-in-Err-Outside-clause-found c =
    let none = c.read_command.ensures.outside (c.in-Err-Outside.is ∙ ap Err c.in-Err-Outside.field-0-is) in inr (none, refl)
