use Rattle.std.proofs.Common.{inl, inr, arith}
use Rattle.command_words.proofs.OneValue.{out_of_range}
use Rattle.command_words.proofs.numbers.read_count.Goals as goal
use Rattle.command_words.proofs.numbers.read_count.Goals.{then-count-lt1-via-then-count-lt1, then-count-lt1-via-else-count-lt1+then-count-from}

pub returns-then-count-lt1-clause-none : goal.returns-then-count-lt1-clause-none
returns-then-count-lt1-clause-none c = λ count is.
    elim c.then-count-lt1.branch [
      | then-count-lt1-via-then-count-lt1 w ↦ out_of_range c.args.most c.args.text.now c.in_ok-count.count count (omega arith) (omega arith) c.in_ok-count.ensures.found (inl w.if-count-lt1.true) is
      | then-count-lt1-via-else-count-lt1+then-count-from w ↦ out_of_range c.args.most c.args.text.now c.in_ok-count.count count (omega arith) (omega arith) c.in_ok-count.ensures.found (inr (omega arith)) is
    ]
