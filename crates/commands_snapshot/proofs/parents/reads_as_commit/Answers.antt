use Rattle.std.proofs.Common.{◌↔◌, refl, sym, subst, Bool}
use Rattle.std.specs.Prelude.{IfOk, IsTrue, Result}
use Rattle.std.proofs.lemmas.Bool.{false≢true}
use Rattle.octets.specs.declared.memory.Memory.{Memory}
use Rattle.git_object.proofs.CommitLemmas.{apart}
use Rattle.git_object.specs.Commits.{IsCommit, IsCommitFault}
use Rattle.git_object.specs.Faults.{Refuses}
use Rattle.git_object.specs.declared.object_faults.ObjectFault.{ObjectFault}
use Rattle.commands_snapshot.proofs.parents.reads_as_commit.Goals as goal
use Rattle.commands_snapshot.proofs.parents.reads_as_commit.Goals.{in-Ok, in-Err-Malformed, in-Err-Memory}

pub returns : goal.returns
returns c = elim c.match-read.branch [
  | in-Ok w ↦ subst (λ (r : Result Bool Memory). IfOk r (λ reads. IsTrue reads ↔ IsCommit c.args.body.now)) (sym w.result-is)
      (λ yes. record { commit = w.in-Ok.field-0; text = w.in-Ok.ensures.found }, λ is. refl)
  | in-Err-Malformed w ↦ subst (λ (r : Result Bool Memory). IfOk r (λ reads. IsTrue reads ↔ IsCommit c.args.body.now)) (sym w.result-is) (
    λ yes. absurd (false≢true yes),
    λ is. absurd (apart is.commit c.args.body.now w.in-Err-Malformed.field-0-0 is.text
        (subst (λ (f : ObjectFault). Refuses IsCommitFault c.args.body.now f) w.in-Err-Malformed.field-0-is w.in-Err-Malformed.ensures.bad)),
  )
  | in-Err-Memory w ↦ subst (λ (r : Result Bool Memory). IfOk r (λ reads. IsTrue reads ↔ IsCommit c.args.body.now)) (sym w.result-is) tt
]
