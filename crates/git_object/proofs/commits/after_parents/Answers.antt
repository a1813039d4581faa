use Rattle.std.specs.Prelude.{codes}
use Rattle.git_object.proofs.CommitLemmas.{parents_push}
use Rattle.git_object.proofs.LineLemmas.{line_shorter}
use Rattle.git_object.proofs.commits.after_parents.Goals as goal

pub parents-smaller : goal.parents-smaller
parents-smaller c = line_shorter (codes "parent ") c.in-Some.line.0 c.in-Some.line.1.now c.parents.rest.now c.in-Some.ensures.found

pub parents-preserved : goal.parents-preserved
parents-preserved c = parents_push c.args.text.now c.parents.rest.now c.in-Some.line.0 c.in-Some.line.1.now c.parents.invariant c.in-Some.ensures.valid c.in-Some.ensures.found
