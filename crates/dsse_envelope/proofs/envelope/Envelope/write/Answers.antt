use Rattle.json_fields.proofs.Written.{exact_text}
use Rattle.dsse_envelope.specs.Written.{envelope_data}
use Rattle.dsse_envelope.proofs.Written.{no_float, text_reads}
use Rattle.dsse_envelope.proofs.envelope.Envelope.write.Goals as goal

pub returns-clause-exact : goal.returns-clause-exact
returns-clause-exact c = exact_text c.write.result _ (envelope_data c.args.self.now) c.in_ok-value.ensures.data (no_float c.args.self.now) c.write.ensures.exact

pub returns-clause-reads_back : goal.returns-clause-reads_back
returns-clause-reads_back c = text_reads c.write.result _ c.args.self.now c.in_ok-value.ensures.data c.in_ok-value.ensures.reads_back c.write.ensures.reads_back
