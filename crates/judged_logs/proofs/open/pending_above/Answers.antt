use Rattle.std.proofs.Common.{arith, ◌∙◌, sym}
use Rattle.judged_logs.proofs.Takes.{all_found, none_so_far, one_further, taken_is}
use Rattle.judged_logs.proofs.open.pending_above.Goals as goal

pub places-init : goal.places-init
places-init g c = λ rules log stands. none_so_far rules log c.args.above c.new-found.result c.new-found.ensures

pub places-preserved : goal.places-preserved
places-preserved g c = λ rules log stands.
    one_further rules log c.args.above c.places.place c.places.found c.add_pending.new.found (c.places.invariant rules log stands) (c.in_ok-add_pending.ensures rules log stands)

pub returns : goal.returns
returns g c = λ rules log stands.
    let long = taken_is rules log c.args.engine.now stands in
    all_found rules log c.args.above c.places.place c.places.found (omega (arith, c.places-test.false, c.len-place-end.ensures, long)) (c.places.invariant rules log stands)
