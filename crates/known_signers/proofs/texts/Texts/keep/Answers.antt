use Rattle.std.proofs.Common.{rules, ◌≤◌}
use Rattle.std.specs.BTreeMap.{btree_map_len}
use Rattle.known_signers.proofs.MoreRows.{read_more}
use Rattle.known_signers.proofs.texts.Texts.keep.Goals as goal

pub invariant_of-self : goal.invariant_of-self
invariant_of-self g c =
    let few : btree_map_len c.add_row.new.rows ≤ 4096 = search rules in
    (read_more g.T.FromText.reading c.self.inside.rows c.add_row.new.rows c.args.text c.args.found c.in-Ok.ensures.put c.self.invariant.0 c.requires, few)
