use Rattle.mirror.proofs.Compared.{can_settle}
use Rattle.mirror.proofs.mirroring.compared.Goals as goal

pub returns-clause-can : goal.returns-clause-can
returns-clause-can g c =
    can_settle c.args.held.now.held c.in-Ok.log.ids c.in-Ok-offered_log.log.ids c.compare.result
    (rw (c.as_slice.ensures, c.as_slice-2.ensures) at c.compare.ensures) c.in-Ok.ensures.few c.in-Ok-offered_log.ensures.log
