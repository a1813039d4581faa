use Rattle.std.proofs.Common.{sym, ◌∙◌}
use Rattle.std.proofs.lemmas.Bool.{false≢true}
use Rattle.std.specs.BTreeMap as tree
use Rattle.octets.specs.BytesMap.{by_bytes}
use Rattle.placed_items.proofs.OneId.{let_go_had, let_go_other}
use Rattle.placed_items.proofs.fronts.let_whole_go.Goals as goal

pub returns-then-is_at : goal.returns-then-is_at
returns-then-is_at c =
    let_go_had (tree.get by_bytes c.args.wholes.now) (tree.get by_bytes c.drop_whole.new.wholes) c.args.id.now c.args.place
    (sym c.whole_place.ensures ∙ c.is_at.ensures.0 c.if-is_at.true) c.drop_whole.ensures

pub returns-else-is_at : goal.returns-else-is_at
returns-else-is_at c =
    let_go_other (tree.get by_bytes c.args.wholes.now) c.args.id.now c.args.place
    (λ has. false≢true (sym c.if-is_at.false ∙ c.is_at.ensures.1 (c.whole_place.ensures ∙ has)))
