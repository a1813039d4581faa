use Rattle.std.proofs.Common.{◌≡◌, ◌∙◌, ℕ, List, Option, ap, refl}
use Rattle.std.specs.Prelude.{false}
use Rattle.std.proofs.lemmas.Result.{IfOk-weaker}
use Rattle.serde_json.specs.Written.{has_float}
use Rattle.json_fields.specs.Values.{line_text, number_data}
use Rattle.json_fields.proofs.Floatless.{option_floatless}
use Rattle.account_lines.specs.Used.{used_data}
use Rattle.account_lines.proofs.lines.used_line.Goals as goal

used_floatless : (id : List ℕ) (leaf : Option ℕ) → has_float (used_data id leaf) ≡ false
used_floatless id leaf = rw (option_floatless number_data (λ _. refl) leaf) refl

pub returns : goal.returns
returns c =
    IfOk-weaker c.line.result _ _ (λ text made. made (ap has_float c.in_ok-value.ensures ∙ used_floatless c.args.id.now c.args.leaf) ∙ ap line_text c.in_ok-value.ensures) c.line.ensures
