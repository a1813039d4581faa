use Rattle.dsse_envelope.proofs.Written.{written_reads}
use Rattle.dsse_envelope.proofs.writing.envelope_value.Goals as goal

pub returns-clause-reads_back : goal.returns-clause-reads_back
returns-clause-reads_back c =
    written_reads c.args.envelope.now c.as_slice.result.now c.as_slice-3.result.now c.requires.some c.requires.few c.as_slice.ensures c.as_slice-3.ensures c.in_ok-payload.ensures.decodes c.in_ok-signatures.ensures.reads_back
