use Rattle.std.proofs.Common.{◌≡◌, ◌-◌}
use Rattle.buffered_reader.specs.Ahead.{ahead, past}
use Rattle.clone_stream.specs.Fronts.{ReadSoFar}
use Rattle.clone_stream.proofs.records.read_records.Given as goal

abbrev pub invariant-records : goal.invariant-records
invariant-records g l = record {
  read : ReadSoFar l.objects l.refs (ahead l.fn.reader (g.S.Source.left l.fn.source)) (ahead l.reader (g.S.Source.left l.source)) l.fn.reader.taken l.reader.taken;
  past : past l.reader (g.S.Source.left l.source) ≡ past l.fn.reader (g.S.Source.left l.fn.source);
  limit : l.reader.limit ≡ l.fn.reader.limit;
  quiet : g.S.Source.faults l.source ≡ g.S.Source.faults l.fn.source;
}

abbrev pub decreases-records : goal.decreases-records
decreases-records g l = l.reader.limit - l.reader.taken
