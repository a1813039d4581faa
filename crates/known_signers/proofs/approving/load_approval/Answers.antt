use Rattle.std.proofs.Common.{sym, ap, ◌∙◌}
use Rattle.std.specs.Option.{option_map}
use Rattle.git_object.specs.Objects.{Pair}
use Rattle.approvals.specs.Lookups.{file_in, approval_of}
use Rattle.approvals.proofs.Finding.{file_there, no_file}
use Rattle.known_signers.proofs.approving.load_approval.Goals as goal

pub returns-in_default-clause-found : goal.returns-in_default-clause-found
returns-in_default-clause-found g c = λ r told.
    no_file r c.args.attestations.now c.args.name.now c.args.from.now c.args.tree.now
    (ap (option_map (λ (pair : Pair). pair.body)) (sym c.in_default.is) ∙ c.in_ok-object.ensures.found r told ∙ ap (file_in r c.args.attestations.now) (c.as_slice.ensures ∙ c.in_ok-path.ensures.path))

pub returns-clause-found : goal.returns-clause-found
returns-clause-found g c = λ r told.
    file_there r c.args.attestations.now c.args.name.now c.args.from.now c.args.tree.now c.in-Some.object.body c.in_ok-found.found
    (ap (option_map (λ (pair : Pair). pair.body)) (sym c.in-Some.is) ∙ c.in_ok-object.ensures.found r told ∙ ap (file_in r c.args.attestations.now) (c.as_slice.ensures ∙ c.in_ok-path.ensures.path))
    (c.in_ok-found.ensures ∙ ap (approval_of c.args.name.now c.args.from.now c.args.tree.now) c.body.ensures)
