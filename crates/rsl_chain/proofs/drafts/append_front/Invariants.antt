use Rattle.std.proofs.Common.{◌≡◌, ◌++◌, ℕ, List, length}
use Rattle.rsl_chain.specs.Drafts
use Rattle.rsl_chain.proofs.drafts.append_front.Given as goal

abbrev pub invariant-lines : goal.invariant-lines
invariant-lines l = (line : List ℕ) → l.fn.text ++ Drafts.with_line_in line l.unsigned ≡ l.text ++ Drafts.with_line_in line l.rest

abbrev pub decreases-lines : goal.decreases-lines
decreases-lines l = length l.rest
