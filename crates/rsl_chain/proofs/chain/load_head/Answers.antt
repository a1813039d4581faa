use Rattle.std.proofs.Common.{sym, ◌∙◌}
use Rattle.rsl_chain.proofs.Lookups.{heads_none, heads_there, pair_valid}
use Rattle.rsl_chain.proofs.chain.load_head.Goals as goal

pub returns-in_ok-object_head-in-Some-clause-answer : goal.returns-in_ok-object_head-in-Some-clause-answer
returns-in_ok-object_head-in-Some-clause-answer g c = λ r told.
    heads_there r c.args.id.now c.in-Some.object (rw c.in-Some.is at (c.in_ok-object.ensures.found r told)) ∙ sym c.in_ok-object_head-in-Some.ensures

pub returns-in_ok-object_head-in-Some-clause-valid : goal.returns-in_ok-object_head-in-Some-clause-valid
returns-in_ok-object_head-in-Some-clause-valid g c =
    rw c.in_ok-object_head-in-Some.ensures (pair_valid c.in-Some.object.kind c.in-Some.object.body)

pub returns-in-None-clause-answer : goal.returns-in-None-clause-answer
returns-in-None-clause-answer g c = λ r told. heads_none r c.args.id.now (rw c.in-None.is at (c.in_ok-object.ensures.none r told))
