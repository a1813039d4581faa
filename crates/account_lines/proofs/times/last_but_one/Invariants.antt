use Rattle.std.proofs.Common.{◌≡◌, length}
use Rattle.std.specs.Option.{option_copied}
use Rattle.account_lines.specs.Times.{last_but_one, words}
use Rattle.account_lines.proofs.Words.{before}
use Rattle.account_lines.proofs.times.last_but_one.Given as goal

abbrev pub invariant-words : goal.invariant-words
invariant-words l = last_but_one (before (option_copied l.last) (words l.rest)) ≡ last_but_one (words l.text)

abbrev pub decreases-words : goal.decreases-words
decreases-words l = length l.rest
