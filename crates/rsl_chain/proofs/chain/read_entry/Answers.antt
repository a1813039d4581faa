use Rattle.std.proofs.Common.{◌∙◌}
use Rattle.rsl_chain.proofs.Lookups.{entry_none, entry_read}
use Rattle.rsl_chain.proofs.chain.read_entry.Goals as goal

pub returns-in_default-clause-broken : goal.returns-in_default-clause-broken
returns-in_default-clause-broken g c = λ r told. entry_none r c.args.id.now (rw c.in_default.is at (c.in_ok-object.ensures.none r told))

pub returns-in-Some-2-clause-entry : goal.returns-in-Some-2-clause-entry
returns-in-Some-2-clause-entry g c = λ r told.
    entry_read r c.args.id.now c.in-Some.object (rw c.in-Some.is at (c.in_ok-object.ensures.found r told)) _ c.in_ok-entry.ensures ∙ c.in-Some-2.is

pub returns-clause-broken : goal.returns-clause-broken
returns-clause-broken g c = λ r told.
    entry_read r c.args.id.now c.in-Some.object (rw c.in-Some.is at (c.in_ok-object.ensures.found r told)) _ c.in_ok-entry.ensures ∙ c.in-None.is
