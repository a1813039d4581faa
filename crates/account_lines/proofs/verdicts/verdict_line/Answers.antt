use Rattle.serde_json.specs.View.{view}
use Rattle.account_lines.specs.Lines.{verdict_data, verdict_line}
use Rattle.account_lines.proofs.Floatless.{exact_line, verdict_floatless}
use Rattle.account_lines.proofs.verdicts.verdict_line.Goals as goal

pub returns : goal.returns
unfolding verdict_line
returns c =
    exact_line c.line.result (view c.in_ok-value.value) (verdict_data c.args.name.now c.args.verdict.now) c.in_ok-value.ensures
    (verdict_floatless c.args.name.now c.args.verdict.now) c.line.ensures
