use Rattle.rsl_chain.proofs.drafts.append_body.Goals as goal

pub returns-in-Reference-clause-added : goal.returns-in-Reference-clause-added
returns-in-Reference-clause-added c = rw c.in-Reference.is c.append_reference.ensures.added
