use Rattle.std.proofs.Common.{sym, subst}
use Rattle.desk_core.specs.declared.gate_state.GateState.{GateState}
use Rattle.desk_shops.specs.GateStanding.{Stands}
use Rattle.desk_http.proofs.gates.gate_over.Goals as goal

pub new-requires-2-clause-stands : goal.new-requires-2-clause-stands
new-requires-2-clause-stands g c =
    let opened = c.new.ensures.opens c.requires.loaded c.requires.left in (
      opened.0,
      subst (λ (shop : GateState × g.row.R.Denot). Stands g.R.Keeper shop.1 shop.0 opened.0) (sym c.new.ensures.parts) opened.1.stands,
      opened.1.at_start,
    )
