use Rattle.std.proofs.Common.{refl}
use Rattle.lmots.proofs.OnTheWay.{table_advanced, advanced}
use Rattle.lmots.proofs.on_way.advance.Goals as goal

pub returns : goal.returns
returns c = record {
  table = table_advanced _ _ _ c.args.chain c.args.at _ c.requires.room c.requires.low c.requires.table;
  ends = refl;
  goes = λ i q n z is on. advanced i q n z _ _ _ c.args.chain c.args.at _ c.requires.room c.requires.table is on;
}
