use Rattle.std.proofs.Common.{refl}
use Rattle.desk_http.proofs.LogReads.{reads_on, refused_as}
use Rattle.desk_http.proofs.opening.open_desk.Goals as goal

pub returns-in-Err-clause-log : goal.returns-in-Err-clause-log
returns-in-Err-clause-log g c =
    let old = c.args.store in
    let new = c.load_log.new.store in
    record { loaded = new; reads = refused_as g.R.Keeper old new c.in-Err.fault c.in-Err.ensures.reads }

pub returns-in-Ok-desk_over-clause-log : goal.returns-in-Ok-desk_over-clause-log
returns-in-Ok-desk_over-clause-log g c =
    let old = c.args.store in
    let new = c.load_log.new.store in
    record { loaded = new; reads = reads_on g.R.Keeper old new c.in-Ok.state c.in-Ok.ensures.reads _ refl (λ r log. log) }

pub returns-in-Err-desk_over-clause-log : goal.returns-in-Err-desk_over-clause-log
returns-in-Err-desk_over-clause-log g c =
    let old = c.args.store in
    let new = c.load_log.new.store in
    record { loaded = new; reads = reads_on g.R.Keeper old new c.in-Ok.state c.in-Ok.ensures.reads _ refl (λ r log. tt) }
