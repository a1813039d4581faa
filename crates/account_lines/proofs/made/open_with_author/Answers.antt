use Rattle.std.proofs.lemmas.Result.{on_ok_weaker}
use Rattle.std.specs.Prelude.{codes}
use Rattle.json_fields.proofs.InParts.{opened}
use Rattle.account_lines.specs.Lines.{author_data}
use Rattle.account_lines.proofs.made.open_with_author.Goals as goal

pub returns : goal.returns
returns c =
    on_ok_weaker c.write_author.result
    (λ e. opened (codes "author") (author_data c.args.entry.now) c.args.text.now c.first_name.new.text c.write_author.new.text c.in_ok-first_name.ensures e)
    c.write_author.ensures
