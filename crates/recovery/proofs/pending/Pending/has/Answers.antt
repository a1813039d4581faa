use Rattle.std.proofs.Common.{ap, sym, ◌∙◌}
use Rattle.std.specs.Result.{is_ok}
use Rattle.recovery.specs.Lanes.{is_in}
use Rattle.recovery.proofs.Cuts.{has_is}
use Rattle.recovery.proofs.pending.Pending.has.Goals as goal

pub returns-in-Ok : goal.returns-in-Ok
returns-in-Ok c =
    ap is_ok (sym c.in-Ok.is) ∙ has_is c.args.number c.as_slice.result.now c.binary_search.result (rw c.as_slice.ensures.value c.self.invariant) c.binary_search.ensures.position ∙ ap (is_in c.args.number) (c.as_slice.ensures.value ∙ c.self.view_is)

pub returns-in-Err : goal.returns-in-Err
returns-in-Err c =
    ap is_ok (sym c.in-Err.is) ∙ has_is c.args.number c.as_slice.result.now c.binary_search.result (rw c.as_slice.ensures.value c.self.invariant) c.binary_search.ensures.position ∙ ap (is_in c.args.number) (c.as_slice.ensures.value ∙ c.self.view_is)
