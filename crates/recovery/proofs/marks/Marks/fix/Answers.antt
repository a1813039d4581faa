use Rattle.std.proofs.Common.{cond, ap, sym, ◌∙◌}
use Rattle.std.specs.Str.{bytes_eq}
use Rattle.recovery.specs.Lanes.{Lane, lane_of, with_fix}
use Rattle.recovery.proofs.LaneLemmas.{lanes_are}
use Rattle.recovery.proofs.NameLemmas.{fix_lanes, fixed_marked, no_fix}
use Rattle.recovery.proofs.marks.Marks.fix.Goals as goal

pub invariant_of-self : goal.invariant_of-self
invariant_of-self c =
    let found = sym c.slot_of.ensures ∙ c.in-Some.is in
    fixed_marked c.self.inside.rows.items c.self.inside.slots.items c.fix_slot.new.slots.items c.self.inside.names c.args.name.now c.in-Some.at c.args.above c.args.below c.self.invariant found c.fix_slot.ensures

pub returns-in-Some : goal.returns-in-Some
returns-in-Some c = λ other.
    let rows = c.self.inside.rows.items in
    let slots = c.self.inside.slots.items in
    let names = c.self.inside.names in
    let found = sym c.slot_of.ensures ∙ c.in-Some.is in
    let was = sym (lanes_are rows slots names other) ∙ ap (λ m. lane_of m other) c.self.view_is in
    lanes_are rows c.fix_slot.new.slots.items names other
    ∙ fix_lanes rows slots c.fix_slot.new.slots.items names c.args.name.now other c.in-Some.at c.args.above c.args.below c.self.invariant found c.fix_slot.ensures
    ∙ ap (λ (l : Lane). cond (bytes_eq c.args.name.now other) (with_fix c.args.above c.args.below l) l) was

pub returns-in-None : goal.returns-in-None
returns-in-None c = λ other.
    let rows = c.self.inside.rows.items in
    let slots = c.self.inside.slots.items in
    let names = c.self.inside.names in
    let found = sym c.slot_of.ensures ∙ c.in-None.is in
    let was = sym (lanes_are rows slots names other) ∙ ap (λ m. lane_of m other) c.self.view_is in
    sym was ∙ no_fix rows slots names c.args.name.now other c.args.above c.args.below found
    ∙ ap (λ (l : Lane). cond (bytes_eq c.args.name.now other) (with_fix c.args.above c.args.below l) l) was
