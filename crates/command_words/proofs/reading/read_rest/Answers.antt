use Rattle.command_words.proofs.reading.read_rest.Goals as goal

pub returns-in-VerifyRef-clause-outside : goal.returns-in-VerifyRef-clause-outside
returns-in-VerifyRef-clause-outside c = rw c.in-VerifyRef.is c.read_verify_ref.ensures.outside

pub returns-in-VerifyGlobal-clause-outside : goal.returns-in-VerifyGlobal-clause-outside
returns-in-VerifyGlobal-clause-outside c = rw c.in-VerifyGlobal.is c.read_verify_global.ensures.outside

pub returns-in-KeyGen-clause-outside : goal.returns-in-KeyGen-clause-outside
returns-in-KeyGen-clause-outside c = rw c.in-KeyGen.is c.read_key_gen.ensures.outside

pub returns-in-Seal-clause-outside : goal.returns-in-Seal-clause-outside
returns-in-Seal-clause-outside c = rw c.in-Seal.is c.read_seal.ensures.outside

pub returns-in-Explain-clause-outside : goal.returns-in-Explain-clause-outside
returns-in-Explain-clause-outside c = rw c.in-Explain.is c.read_explain.ensures.outside

pub returns-in-Annotate-clause-outside : goal.returns-in-Annotate-clause-outside
returns-in-Annotate-clause-outside c = rw c.in-Annotate.is c.read_annotate.ensures.outside

pub returns-in-Approve-clause-outside : goal.returns-in-Approve-clause-outside
returns-in-Approve-clause-outside c = rw c.in-Approve.is c.read_approve.ensures.outside

pub returns-in-Demo-clause-outside : goal.returns-in-Demo-clause-outside
returns-in-Demo-clause-outside c = rw c.in-Demo.is c.read_demo.ensures.outside

pub returns-in-EvidenceMake-clause-outside : goal.returns-in-EvidenceMake-clause-outside
returns-in-EvidenceMake-clause-outside c = rw c.in-EvidenceMake.is c.read_evidence.ensures.outside

pub returns-in-Serve-clause-outside : goal.returns-in-Serve-clause-outside
returns-in-Serve-clause-outside c = rw c.in-Serve.is c.read_serve.ensures.outside

pub returns-in-Push-clause-outside : goal.returns-in-Push-clause-outside
returns-in-Push-clause-outside c = rw c.in-Push.is c.read_push.ensures.outside
