use Rattle.std.proofs.Common.{List, ℕ, ◌++◌, ap, ◌∙◌}
use Rattle.git_object.specs.Tags.{object_line}
use Rattle.git_object.proofs.tags.Tag.read.Goals as goal

pub returns-in_err-rest-clause-formed : goal.returns-in_err-rest-clause-formed
returns-in_err-rest-clause-formed c _ = record {
  tag = record { object = c.in-Some.first.0; kind = c.in-Some-split_type_line.second.0; rest = c.in-Some-split_type_line.second.1.now };
  text = record {
    object_is = c.in-Some.ensures.valid;
    text = c.in-Some.ensures.found ∙ ap (λ (rest : List ℕ). object_line c.in-Some.first.0 ++ rest) c.in-Some-split_type_line.ensures.found;
  };
}
