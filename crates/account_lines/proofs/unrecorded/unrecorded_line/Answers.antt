use Rattle.serde_json.specs.View.{view}
use Rattle.account_lines.specs.Lines.{unrecorded_data, unrecorded_line}
use Rattle.account_lines.proofs.Floatless.{exact_line, unrecorded_floatless}
use Rattle.account_lines.proofs.unrecorded.unrecorded_line.Goals as goal

pub returns : goal.returns
unfolding unrecorded_line
returns c =
    exact_line c.line.result (view c.in_ok-value.value) (unrecorded_data c.args.name.now c.args.verdict.now) c.in_ok-value.ensures
    (unrecorded_floatless c.args.name.now c.args.verdict.now) c.line.ensures
