use Rattle.std.proofs.Common.{◌∙◌, None, refl, sym}
use Rattle.desk_core.specs.declared.gate_state.GateState.{GateState}
use Rattle.desk_core.proofs.Settling.{known_settled, settled_gate, waits_dropped, waits_free, waits_kept}
use Rattle.desk_core.proofs.gate_state.GateState.settle.Goals as goal
use Rattle.desk_core.proofs.gate_state.GateState.settle.Goals.{else-drops-via-then-drops+else-is_clear, else-drops-via-else-drops}

pub returns-then-is_clear-clause-settled : goal.returns-then-is_clear-clause-settled
returns-then-is_clear-clause-settled g c = λ r log told judged.
    let was = c.args.self.now in
    let now : GateState = record { log = c.settle-settled.new.self; engine = was.engine; waiting = None } in
    settled_gate g.R.Keeper c.args.keeper.now c.settle-settled.new.keeper was now refl log r told judged c.settle-settled.result
    (waits_dropped was now c.settle-settled.result (sym c.in_doubt-drops.ensures ∙ c.if-drops.true) (sym c.is_clear.ensures ∙ c.if-is_clear.true) refl) c.settle-settled.ensures.settles

pub returns-then-is_clear-clause-known : goal.returns-then-is_clear-clause-known
returns-then-is_clear-clause-known g c =
    known_settled g.R.Keeper c.args.keeper.now c.settle-settled.new.keeper c.args.self.now.log c.settle-settled.new.self c.settle-settled.result c.args.self.now.engine c.args.self.now.engine refl c.settle-settled.ensures.settles

pub returns-clause-settled : goal.returns-clause-settled
returns-clause-settled g c =
    let was = c.args.self.now in
    let now : GateState = record { log = c.settle-settled.new.self; engine = was.engine; waiting = was.waiting } in
    elim c.else-drops.branch [
      | else-drops-via-then-drops+else-is_clear w ↦
          λ r log told judged. settled_gate g.R.Keeper c.args.keeper.now c.settle-settled.new.keeper was now refl log r told judged c.settle-settled.result
          (waits_kept was now c.settle-settled.result (sym w.is_clear.ensures ∙ w.if-is_clear.false) refl) c.settle-settled.ensures.settles
      | else-drops-via-else-drops w ↦
          λ r log told judged. settled_gate g.R.Keeper c.args.keeper.now c.settle-settled.new.keeper was now refl log r told judged c.settle-settled.result
          (waits_free was now c.settle-settled.result (sym c.in_doubt-drops.ensures ∙ w.if-drops.false) refl) c.settle-settled.ensures.settles
    ]

pub returns-clause-known : goal.returns-clause-known
returns-clause-known g c =
    known_settled g.R.Keeper c.args.keeper.now c.settle-settled.new.keeper c.args.self.now.log c.settle-settled.new.self c.settle-settled.result c.args.self.now.engine c.args.self.now.engine refl c.settle-settled.ensures.settles
