use Rattle.std.proofs.Common.{◌≡◌, ◌<◌, ℕ}
use Rattle.std.specs.Prelude.{Some}
use Rattle.rule_delegations.specs.Forests.{link_at}
use Rattle.rule_delegations.specs.Marks.{Grows, IsMarked}
use Rattle.rule_delegations.proofs.marking.mark_all_below.Given as goal

abbrev pub invariant-loop-at : goal.invariant-loop-at
invariant-loop-at l = record {
  grows : Grows (λ other. (at : ℕ) × (link_at l.forest (record { file = l.file; rule = at }) ≡ Some other)) l.fn.marks.items l.fn.order.items l.marks.items l.order.items;
  below : (at other : ℕ) → at < l.at → link_at l.forest (record { file = l.file; rule = at }) ≡ Some other → IsMarked l.marks.items other;
}
