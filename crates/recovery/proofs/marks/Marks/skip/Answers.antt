use Rattle.std.proofs.Common.{ap, sym, ◌∙◌}
use Rattle.octets.specs.BytesMap.{by_bytes}
use Rattle.std.specs.BTreeMap as tree
use Rattle.recovery.specs.Lanes.{lane_of, with_skip}
use Rattle.recovery.proofs.Keeping.{skips_kept}
use Rattle.recovery.proofs.LaneLemmas.{lanes_are, skips_lane}
use Rattle.recovery.proofs.NameLemmas.{names_skipped}
use Rattle.recovery.proofs.marks.Marks.skip.Goals as goal

pub invariant_of-self : goal.invariant_of-self
invariant_of-self c = record {
  kept = skips_kept c.args.number c.self.inside.rows.items c.self.inside.slots.items _ _ c.self.invariant.kept c.skip_row.ensures;
  named = names_skipped c.args.number c.self.inside.rows.items c.self.inside.slots.items _ _ c.self.inside.names c.skip_row.ensures c.self.invariant.named;
}

pub returns : goal.returns
returns c = λ name.
    lanes_are c.skip_row.new.rows.items c.skip_row.new.slots.items c.self.inside.names name
    ∙ skips_lane c.args.number c.self.inside.rows.items c.self.inside.slots.items _ _ c.self.invariant.kept c.skip_row.ensures (tree.get by_bytes c.self.inside.names name)
    ∙ ap (with_skip c.args.number) (sym (lanes_are c.self.inside.rows.items c.self.inside.slots.items c.self.inside.names name) ∙ ap (λ m. lane_of m name) c.self.view_is)
