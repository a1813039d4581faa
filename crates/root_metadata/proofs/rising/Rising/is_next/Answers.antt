use Rattle.std.proofs.Common.{◌≡◌, ◌-◌, length, sym}
use Rattle.std.specs.Prelude.{slice_get, Some}
use Rattle.root_metadata.proofs.Sortedness.{next_of_last}
use Rattle.root_metadata.proofs.rising.Rising.is_next.Goals as goal

pub returns-in-Some : goal.returns-in-Some
returns-in-Some g c =
    let last : slice_get c.args.self.now (length c.args.self.now - 1) ≡ Some c.in-Some.last.now = rw (← c.self.view_is, ← c.as_slice.ensures) (sym c.in-Some.ensures.value) in
    let is = next_of_last g.T.Keyed.key c.args.self.now c.args.key.now c.in-Some.last.now last in
    rw (c.is_lt.ensures, c.cmp.ensures, c.key.ensures) (sym is)
