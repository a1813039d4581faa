use Rattle.serde_json.specs.View.{view}
use Rattle.account_lines.specs.Lines.{violation_data, violation_line}
use Rattle.account_lines.proofs.Floatless.{exact_line, violation_floatless}
use Rattle.account_lines.proofs.mending.violation_line.Goals as goal

pub returns : goal.returns
unfolding violation_line
returns c =
    exact_line c.line.result (view c.in_ok-value.value) (violation_data c.args.name.now c.args.number c.args.fault.now c.args.mend.now) c.in_ok-value.ensures
    (violation_floatless c.args.name.now c.args.number c.args.fault.now c.args.mend.now) c.line.ensures
