use Rattle.json_fields.proofs.Bytes.{reads_as}
use Rattle.json_fields.proofs.writing.write.Goals as goal

pub returns-in-Ok-clause-reads_back : goal.returns-in-Ok-clause-reads_back
returns-in-Ok-clause-reads_back c = reads_as _ _ _ c.from_vec.ensures c.in-Ok.ensures.utf8 c.in-Ok.ensures.reads_back
