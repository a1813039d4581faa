use Rattle.root_metadata.proofs.Sortedness.{rising_push}
use Rattle.root_metadata.proofs.rising.Rising.push.Goals as goal

pub invariant_of-self : goal.invariant_of-self
invariant_of-self g c = rw c.in_err-push.ensures.same c.self.invariant

pub invariant_of-self-2 : goal.invariant_of-self-2
invariant_of-self-2 g c =
    rw c.in_ok-push.ensures.added (rising_push g.T.Keyed.key _ _ c.self.invariant (rw (← c.self.view_is) at c.requires))
