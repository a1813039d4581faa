use Rattle.std.proofs.Common.{sym, subst}
use Rattle.std.specs.Prelude.{codes}
use Rattle.std.specs.Option.{IsSomeAnd}
use Rattle.clap.specs.Words.{first_of}
use Rattle.command_words.specs.Numbers.{IsCount}
use Rattle.command_words.proofs.pushing.read_push.Goals as goal

pub returns-in_default-number_in-clause-outside : goal.returns-in_default-number_in-clause-outside
returns-in_default-number_in-clause-outside c = λ said command asks.
    c.in_default-number_in.ensures.none asks.1
    (subst (λ rows. IsSomeAnd (first_of (codes "number") rows) (λ text. IsCount 1000000 text asks.1)) (sym c.in_ok-matches.ensures.rows) asks.3.is_number)
