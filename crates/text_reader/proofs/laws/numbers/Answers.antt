use Rattle.std.proofs.Common.{refl}
use Rattle.text_reader.proofs.Spellings.{one_spelling, place_value, some_spelling}
use Rattle.text_reader.proofs.laws.numbers.Goals as goal

pub returns : goal.returns
returns c = record {
  one_spelling = one_spelling;
  no_digits = refl;
  one_more_digit = place_value;
  some_spelling = some_spelling;
}
