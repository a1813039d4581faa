use Rattle.std.proofs.Common.{◌∙◌, [], ap}
use Rattle.desk_core.proofs.Loading.{judges_on, loaded_on, unbroken_on}
use Rattle.desk_core.proofs.gate_state.GateState.load.Goals as goal

pub take_rows-requires : goal.take_rows-requires
take_rows-requires g c = record { known = λ r told. c.new-engine.ensures.known r }

pub returns-clause-loaded : goal.returns-clause-loaded
returns-clause-loaded g c = loaded_on _ _ c.take_rows.ensures.same.content c.in_ok-log.log c.in_ok-log.ensures.loaded

pub returns-clause-judges : goal.returns-clause-judges
returns-clause-judges g c = λ r told.
    judges_on _ _ c.take_rows.ensures.same.content c.in_ok-log.log c.in_ok-log.ensures.loaded c.rows.result.now c.rows.ensures c.take_rows.new.engine (ap (λ x. x.anchor) c.take_rows.ensures.rules ∙ c.new-engine.ensures.anchor) r told (c.in-Ok.ensures.takes r [] told c.new-engine.ensures.follows)

pub returns-in-Err-clause-broken : goal.returns-in-Err-clause-broken
returns-in-Err-clause-broken g c = λ r told.
    unbroken_on _ _ c.take_rows.ensures.same.content c.in_ok-log.log c.in_ok-log.ensures.loaded c.rows.result.now c.rows.ensures c.in-Err.fault r told (c.in-Err.ensures.broken r [] told c.new-engine.ensures.follows)
