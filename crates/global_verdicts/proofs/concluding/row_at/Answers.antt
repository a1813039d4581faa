use Rattle.std.proofs.Common.{List, length, refl, sym, ap, ◌∙◌, arith}
use Rattle.std.specs.List.{slice_get}
use Rattle.std.proofs.lemmas.Option.{slice_get_read}
use Rattle.global_verdicts.specs.declared.rows.Row.{Row}
use Rattle.global_verdicts.proofs.concluding.row_at.Goals as goal

pub returns : goal.returns
returns c =
    let rows = c.as_slice.result.now in
    ap (λ (all : List Row). slice_get all c.args.at) (sym c.as_slice.ensures)
    ∙ slice_get_read rows (length rows) c.args.at c.index-as_slice-at.result refl (omega (arith, c.requires, ap length c.as_slice.ensures)) c.index-as_slice-at.is
