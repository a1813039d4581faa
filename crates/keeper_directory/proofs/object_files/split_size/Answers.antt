use Rattle.std.proofs.Common.{sym, ◌∙◌}
use Rattle.std.specs.Prelude.{decimal}
use Rattle.text_reader.proofs.Unique.{same_until}
use Rattle.keeper_directory.proofs.Heads.{decimal_word}
use Rattle.keeper_directory.proofs.object_files.split_size.Goals as goal

pub returns-in_default-read_decimal-clause-none : goal.returns-in_default-read_decimal-clause-none
returns-in_default-read_decimal-clause-none c = λ size rest small same.
    let parts = same_until 0 c.in-Some.digits.now (decimal size) c.in-Some.rest.now rest c.in-Some.ensures.first (decimal_word size small) (sym c.in-Some.ensures.found ∙ same) in
    c.in_default-read_decimal.ensures.none size small parts.0
