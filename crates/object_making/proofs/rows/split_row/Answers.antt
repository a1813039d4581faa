use Rattle.std.proofs.Common.{◌∙◌, sym}
use Rattle.git_object.proofs.TreeLemmas.{same_mode}
use Rattle.object_making.proofs.Fronts.{same_size}
use Rattle.object_making.proofs.rows.split_row.Goals as goal

pub returns-in_default-split_size-clause-none : goal.returns-in_default-split_size-clause-none
returns-in_default-split_size-clause-none c = λ row more is same.
    c.in_default-split_size.ensures.none _ _ is.small (same_mode c.in-Some.mode row.mode c.in-Some.after.now _ (sym c.in-Some.ensures.found ∙ same)).1

pub returns-in_default-split_file-clause-none : goal.returns-in_default-split_file-clause-none
returns-in_default-split_file-clause-none c = λ row more is same.
    let after = (same_mode c.in-Some.mode row.mode c.in-Some.after.now _ (sym c.in-Some.ensures.found ∙ same)).1 in
    let size = same_size c.in-Some-split_size.size _ c.in-Some-split_size.last.now _ c.in-Some-split_size.ensures.small is.small (sym c.in-Some-split_size.ensures.found ∙ after) in
    c.in_default-split_file.ensures.none row.path row.body more is.line is.short (sym size.0) size.1
