use Rattle.std.specs.Option.{option_copied}
use Rattle.serde_json.specs.View.{view}
use Rattle.account_lines.specs.Lines.{skip_data, skip_line}
use Rattle.account_lines.proofs.Floatless.{exact_line, skip_floatless}
use Rattle.account_lines.proofs.skips.skip_line.Goals as goal

pub returns : goal.returns
unfolding skip_line
returns c =
    exact_line c.line.result (view c.in_ok-value.value)
    (skip_data c.args.id.now c.args.number (option_copied c.args.name) c.args.skips) c.in_ok-value.ensures
    (skip_floatless c.args.id.now c.args.number (option_copied c.args.name) c.args.skips) c.line.ensures
