use Rattle.std.proofs.Common.{◌≡◌, ◌-◌, ◌∙◌, List, Some, length, refl, sym, ap, arith}
use Rattle.std.specs.List.{slice_get}
use Rattle.std.proofs.lemmas.Option.{slice_get_read}
use Rattle.account_lines.specs.declared.rows.EntryRow.{EntryRow}
use Rattle.accounts.proofs.WaysBack.{went}
use Rattle.accounts.proofs.mending.go_back.Goals as goal

pub returns-clause-walked : goal.returns-clause-walked
returns-clause-walked c = λ log name b stands go walked.
    let rows = c.as_slice.result.now in
    let there : slice_get rows (c.args.way.at - 1) ≡ Some c.index-as_slice-at.result =
    slice_get_read rows (length rows) (c.args.way.at - 1) c.index-as_slice-at.result refl
    (omega (arith, c.requires.some, c.requires.within, ap length c.as_slice.ensures)) c.index-as_slice-at.is in
    let at = ap (λ (all : List EntryRow). slice_get all (c.args.way.at - 1)) (sym c.as_slice.ensures) ∙ there in
    went c.args.judged.now log stands name b c.args.way.at c.args.way.from c.args.way.found c.requires.some walked c.index-as_slice-at.result at go c.below.result c.below.ensures.same c.index-as_slice-at.result.from
    refl c.is_skipped.result (c.is_skipped.ensures log stands c.requires.some) c.in_ok-found.found c.in_ok-found.ensures
