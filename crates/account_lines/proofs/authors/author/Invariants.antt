use Rattle.std.proofs.Common.{◌≡◌, length}
use Rattle.account_lines.specs.Authors.{author_of}
use Rattle.account_lines.proofs.authors.author.Given as goal

abbrev pub invariant-lines : goal.invariant-lines
invariant-lines l = author_of l.rest ≡ author_of l.signed

abbrev pub decreases-lines : goal.decreases-lines
decreases-lines l = length l.rest
