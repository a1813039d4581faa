use Rattle.std.proofs.Common.{sym, subst}
use Rattle.desk_core.specs.declared.gate_state.GateState.{GateState}
use Rattle.desk_http.specs.Opening.{IsOfOpening, ReadsLog}
use Rattle.desk_http.specs.declared.faults.DeskFault.{DeskFault}
use Rattle.desk_http.proofs.LogReads.{opening_fault, reads_loaded, reads_refused, refused}
use Rattle.desk_http.proofs.gates.load_gate.Goals as goal

pub returns-in-Ok-clause-loaded : goal.returns-in-Ok-clause-loaded
returns-in-Ok-clause-loaded g c = record { loaded = c.in-Ok.ensures.loaded; few = c.in-Ok.ensures.few; judges = c.in-Ok.ensures.judges }

pub returns-in-Ok-clause-reads : goal.returns-in-Ok-clause-reads
returns-in-Ok-clause-reads g c =
    reads_loaded g.R.Keeper c.args.store.now c.load.new.keeper c.in-Ok.state c.in-Ok.state.log c.load.ensures.same c.in-Ok.ensures.cause c.in-Ok.ensures.loaded

pub returns-in-Err-clause-reads : goal.returns-in-Err-clause-reads
returns-in-Err-clause-reads g c =
    let k = g.R.Keeper in
    let old = c.args.store.now in
    let new = c.load.new.keeper in
    subst (λ (fault : DeskFault). ReadsLog k old new (refused {T = GateState} fault)) (sym c.fault_of.ensures)
    (reads_refused k old new c.in-Err.fault c.load.ensures.same c.in-Err.ensures.cause c.in-Err.ensures.broken)

pub returns-in-Err-clause-opening : goal.returns-in-Err-clause-opening
returns-in-Err-clause-opening g c = subst IsOfOpening (sym c.fault_of.ensures) (opening_fault c.in-Err.fault)
