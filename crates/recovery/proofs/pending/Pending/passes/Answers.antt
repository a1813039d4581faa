use Rattle.std.proofs.Common.{◌≡◌, ◌-◌, ℕ, List, Some, None, nat_lt, length, ap, sym, ◌∙◌}
use Rattle.std.specs.List.{list_any, slice_get}
use Rattle.recovery.proofs.Cuts.{none_passes, passes_last}
use Rattle.recovery.proofs.pending.Pending.passes.Goals as goal

pub returns-in-Some : goal.returns-in-Some
returns-in-Some c =
    let ns : List ℕ = c.self.inside.numbers.items in
    let is : slice_get ns (length ns - 1) ≡ Some c.in-Some.last.now = ap (λ xs. slice_get xs (length xs - 1)) (sym c.as_slice.ensures.value) ∙ sym c.in-Some.ensures.value in
    passes_last c.args.above c.in-Some.last.now ns c.self.invariant is ∙ ap (list_any (nat_lt c.args.above)) c.self.view_is

pub returns-in-None : goal.returns-in-None
returns-in-None c =
    let ns : List ℕ = c.self.inside.numbers.items in
    let is : slice_get ns (length ns - 1) ≡ None = ap (λ xs. slice_get xs (length xs - 1)) (sym c.as_slice.ensures.value) ∙ sym c.in-None.ensures.value in
    sym (none_passes c.args.above ns is) ∙ ap (list_any (nat_lt c.args.above)) c.self.view_is
