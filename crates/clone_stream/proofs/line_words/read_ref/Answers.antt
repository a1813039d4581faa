use Rattle.std.proofs.Common.{sym, ap, subst, ◌∙◌}
use Rattle.std.specs.Prelude.{Err}
use Rattle.git_object.specs.Names.{IsRefName}
use Rattle.git_object.proofs.NameLemmas.{name_has_no_space}
use Rattle.clone_stream.proofs.Lines.{same_ref_line}
use Rattle.clone_stream.proofs.line_words.read_ref.Goals as goal

pub returns-in-Err-Memory-clause-lacks : goal.returns-in-Err-Memory-clause-lacks
returns-in-Err-Memory-clause-lacks c = record {
  name = c.in-Some.parts.0.now;
  id = c.in-Some.parts.1;
  is_ref = record { name = c.read.ensures.named (c.in-Err-Memory.is ∙ ap Err c.in-Err-Memory.field-0-is); id = c.in-Some.ensures.valid };
  is = c.in-Some.ensures.found;
}

pub returns-in-Err-BadRef-clause-none : goal.returns-in-Err-BadRef-clause-none
returns-in-Err-BadRef-clause-none c = λ other.
    let line = same_ref_line c.in-Some.parts.0.now other.name c.in-Some.parts.1 other.id c.in-Some.ensures.word (name_has_no_space other.name other.is_ref.name) c.in-Some.ensures.valid other.is_ref.id
    (sym c.in-Some.ensures.found ∙ other.is) in
    c.read.ensures.bad (c.in-Err-BadRef.is ∙ ap Err c.in-Err-BadRef.field-0-is) (subst IsRefName (sym line.0) other.is_ref.name)
