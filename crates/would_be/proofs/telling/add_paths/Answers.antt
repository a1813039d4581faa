use Rattle.would_be.proofs.Told.{told_more}
use Rattle.std.proofs.Common.{◌≡◌, ◌++◌, ◌∙◌, List, Option, ap}
use Rattle.entry_rules.specs.declared.faults.Fault.{Fault}
use Rattle.would_be.specs.Would.{one}
use Rattle.would_be.proofs.telling.add_paths.Goals as goal

pub paths-preserved : goal.paths-preserved
paths-preserved c =
    told_more c.args.rules.now c.args.signers.now c.args.faults.now c.paths.faults c.add.new.faults c.args.paths.now c.paths.path-index c.path-item.result c.paths-test.true c.path-item.is
    c.paths.invariant (c.in_ok-add.ensures ∙ ap (λ (o : Option Fault). c.paths.faults ++ one o) c.in_ok-fault.ensures)
