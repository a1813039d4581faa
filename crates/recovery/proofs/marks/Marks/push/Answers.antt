use Rattle.std.proofs.Common.{◌<◌, cond, List, ap, sym, subst, ◌∙◌, arith}
use Rattle.octets.specs.BytesMap.{by_bytes}
use Rattle.std.specs.BTreeMap as tree
use Rattle.std.specs.List.{All}
use Rattle.std.specs.Str.{bytes_eq}
use Rattle.recovery.specs.Lanes.{Lane, lane_of, with_number}
use Rattle.recovery.specs.Marking.{AreNames, AreRows, IsMarked}
use Rattle.recovery.specs.declared.rows.Row.{Row}
use Rattle.recovery.specs.declared.slots.Slot.{Slot}
use Rattle.recovery.proofs.LaneLemmas.{lane_for, lanes_are}
use Rattle.recovery.proofs.NameLemmas.{all_below, names_same, on_err, opened, push_lanes, push_marked}
use Rattle.recovery.proofs.RowLemmas.{few_numbers}
use Rattle.recovery.proofs.marks.Marks.push.Goals as goal

pub invariant_of-self : goal.invariant_of-self
invariant_of-self c = record {
  kept = subst (λ (xs : List Slot). AreRows c.self.inside.rows.items xs) (sym c.in_err-at.ensures.same) c.self.invariant.kept;
  named = subst (λ (xs : List Slot). AreNames xs c.open_slot.new.names) (sym c.in_err-at.ensures.same) (names_same c.self.inside.slots.items c.self.inside.names c.open_slot.new.names c.in_err-at.ensures.same_names c.self.invariant.named);
}

pub push_row-requires-clause-few : goal.push_row-requires-clause-few
push_row-requires-clause-few c =
    let o = opened c.self.inside.rows.items c.self.inside.slots.items c.self.inside.names c.args.name.now c.open_slot.new.slots.items c.open_slot.new.names c.in_ok-at.at c.self.invariant.kept c.self.invariant.named c.in_ok-at.ensures.opened in
    let count = (o.kept.stand c.in_ok-at.at (o.named.within c.args.name.now c.in_ok-at.at o.here)).count in
    omega (arith, few_numbers c.in_ok-at.at c.self.inside.rows.items)

pub push_row-requires-clause-rising : goal.push_row-requires-clause-rising
push_row-requires-clause-rising c =
    let rows = c.self.inside.rows.items in
    let o = opened c.self.inside.rows.items c.self.inside.slots.items c.self.inside.names c.args.name.now c.open_slot.new.slots.items c.open_slot.new.names c.in_ok-at.at c.self.invariant.kept c.self.invariant.named c.in_ok-at.ensures.opened in
    (o.kept.stand c.in_ok-at.at (o.named.within c.args.name.now c.in_ok-at.at o.here)).pending c.args.number (all_below rows c.self.inside.slots.items c.self.inside.names c.args.number c.self.invariant (λ name. subst (λ (l : Lane). All (λ n. n < c.args.number) l.pushed) (ap (λ m. lane_of m name) (sym c.self.view_is) ∙ lanes_are rows c.self.inside.slots.items c.self.inside.names name) (c.requires name)))

pub invariant_of-self-in_err-push_row : goal.invariant_of-self-in_err-push_row
invariant_of-self-in_err-push_row c =
    let o = opened c.self.inside.rows.items c.self.inside.slots.items c.self.inside.names c.args.name.now c.open_slot.new.slots.items c.open_slot.new.names c.in_ok-at.at c.self.invariant.kept c.self.invariant.named c.in_ok-at.ensures.opened in
    subst (λ (xs : List Row). IsMarked xs c.push_row.new.slots.items c.open_slot.new.names) (sym c.in_err-push_row.ensures.same)
    (subst (λ (xs : List Slot). IsMarked c.self.inside.rows.items xs c.open_slot.new.names) (sym c.in_err-push_row.ensures.same_slots) (record { kept = o.kept; named = o.named }))

pub returns-in_err-push_row-clause-same : goal.returns-in_err-push_row-clause-same
returns-in_err-push_row-clause-same c =
    let rows = c.self.inside.rows.items in
    let slots = c.self.inside.slots.items in
    let o = opened c.self.inside.rows.items c.self.inside.slots.items c.self.inside.names c.args.name.now c.open_slot.new.slots.items c.open_slot.new.names c.in_ok-at.at c.self.invariant.kept c.self.invariant.named c.in_ok-at.ensures.opened in
    on_err c.from_residual-in_err-push_row.result (λ other.
    lanes_are c.push_row.new.rows.items c.push_row.new.slots.items c.open_slot.new.names other
    ∙ ap (λ xs. lane_for xs c.push_row.new.slots.items (tree.get by_bytes c.open_slot.new.names other)) c.in_err-push_row.ensures.same
    ∙ ap (λ xs. lane_for rows xs (tree.get by_bytes c.open_slot.new.names other)) c.in_err-push_row.ensures.same_slots
    ∙ o.lanes other
    ∙ sym (lanes_are rows slots c.self.inside.names other) ∙ ap (λ m. lane_of m other) c.self.view_is)

pub invariant_of-self-2 : goal.invariant_of-self-2
invariant_of-self-2 c =
    let rows = c.self.inside.rows.items in
    let o = opened c.self.inside.rows.items c.self.inside.slots.items c.self.inside.names c.args.name.now c.open_slot.new.slots.items c.open_slot.new.names c.in_ok-at.at c.self.invariant.kept c.self.invariant.named c.in_ok-at.ensures.opened in
    push_marked rows c.push_row.new.rows.items c.open_slot.new.slots.items c.push_row.new.slots.items c.open_slot.new.names c.in_ok-at.at c.args.number c.args.pending o.kept o.named (o.named.within c.args.name.now c.in_ok-at.at o.here)
    (all_below rows c.self.inside.slots.items c.self.inside.names c.args.number c.self.invariant (λ name. subst (λ (l : Lane). All (λ n. n < c.args.number) l.pushed) (ap (λ m. lane_of m name) (sym c.self.view_is) ∙ lanes_are rows c.self.inside.slots.items c.self.inside.names name) (c.requires name)))
    c.in_ok-push_row.ensures.row c.in_ok-push_row.ensures.slot

pub returns-clause-pushed : goal.returns-clause-pushed
returns-clause-pushed c = λ other.
    let rows = c.self.inside.rows.items in
    let slots = c.self.inside.slots.items in
    let o = opened c.self.inside.rows.items c.self.inside.slots.items c.self.inside.names c.args.name.now c.open_slot.new.slots.items c.open_slot.new.names c.in_ok-at.at c.self.invariant.kept c.self.invariant.named c.in_ok-at.ensures.opened in
    let was = o.lanes other ∙ sym (lanes_are rows slots c.self.inside.names other) ∙ ap (λ m. lane_of m other) c.self.view_is in
    lanes_are c.push_row.new.rows.items c.push_row.new.slots.items c.open_slot.new.names other
    ∙ push_lanes rows c.push_row.new.rows.items c.open_slot.new.slots.items c.push_row.new.slots.items c.open_slot.new.names c.args.name.now other c.in_ok-at.at c.args.number c.args.pending o.named o.here c.in_ok-push_row.ensures.row c.in_ok-push_row.ensures.slot
    ∙ ap (λ (l : Lane). cond (bytes_eq c.args.name.now other) (with_number c.args.number c.args.pending l) l) was
