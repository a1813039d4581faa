use Rattle.std.proofs.Common.{◌≡◌, ℕ, List, false, ap, subst}
use Rattle.std.specs.Option.{IfNone}
use Rattle.octets.specs.BytesMap.{BytesMap}
use Rattle.recovery.specs.Lanes.{Lane, is_in, lane_of}
use Rattle.judging.proofs.book.Book.name_of.Goals as goal

pub returns-clause-none : goal.returns-clause-none
returns-clause-none g c =
    subst (λ (m : BytesMap Lane). IfNone c.name_of.result ((name : List ℕ) → is_in c.args.number (lane_of m name).pushed ≡ false)) (ap (λ k. k.marks) c.self.view_is) c.name_of.ensures.none
