use Rattle.std.proofs.Common.{sym, ◌∙◌}
use Rattle.std.proofs.lemmas.Bool.{false≢true}
use Rattle.std.specs.BTreeMap as tree
use Rattle.octets.specs.BytesMap.{by_bytes}
use Rattle.placed_items.proofs.OneId.{let_go_had, let_go_other}
use Rattle.placed_items.proofs.fronts.let_front_go.Goals as goal

pub returns-then-is_at : goal.returns-then-is_at
returns-then-is_at c =
    let_go_had (tree.get by_bytes c.args.fronts.now) (tree.get by_bytes c.drop_front.new.fronts) c.args.front.now c.args.place
    (sym c.front_place.ensures ∙ c.is_at.ensures.0 c.if-is_at.true) c.drop_front.ensures

pub returns-else-is_at : goal.returns-else-is_at
returns-else-is_at c =
    let_go_other (tree.get by_bytes c.args.fronts.now) c.args.front.now c.args.place
    (λ has. false≢true (sym c.if-is_at.false ∙ c.is_at.ensures.1 (c.front_place.ensures ∙ has)))
