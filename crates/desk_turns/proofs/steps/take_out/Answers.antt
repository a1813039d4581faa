use Rattle.std.proofs.Common.{◌≡◌, [], ◌∷◌, None, Some, true, refl, sym, ap, ◌∙◌, arith}
use Rattle.atomic_table.specs.Table.{rest}
use Rattle.desk_turns.proofs.Moves.{read_as}
use Rattle.desk_turns.proofs.steps.take_out.Goals as goal

pub exchange-requires : goal.exchange-requires
exchange-requires g c =
    let slot = c.requires.slot in
    (c.requires.table.0, (Some slot.0, slot.1 ∙ ap (λ l. (0, Some slot.0) ∷ rest l) (sym slot.1)))

pub load-requires : goal.load-requires
load-requires g c =
    let C = g.S.Chronicle in
    let old = c.args.token.now in
    let now = c.exchange.new.seat in
    let put = c.exchange.ensures in
    let empty : rest old.me.1 ≡ [] = ap rest c.requires.slot.1 in (
      put.0 ∙ c.requires.table.0,
      omega (arith, c.requires.table.1),
      read_as C.is_legal C.stands C.counted c.args.board.now.shared.table_id.slots now.id now.me (ap (λ m. m.0.holds) put.3 ∙ c.requires.holds.0) (ap (λ m. m.0.out) put.3 ∙ c.requires.holds.1)
          (ap (λ m. m.1) put.3 ∙ ap (λ l. (0, None) ∷ l) empty),
    )
