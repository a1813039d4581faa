use Rattle.lmots.proofs.OnTheWay.{table_begun, begun}
use Rattle.lmots.proofs.on_way.begin.Goals as goal

pub returns : goal.returns
returns c = record {
  table = table_begun _ _ _ c.args.chain c.args.at c.args.to c.args.value c.requires.room c.requires.low c.requires.table;
  goes = λ i q z is on. begun i q z _ _ _ c.args.chain c.args.at c.args.to c.args.value c.requires.room c.requires.table is on;
}
