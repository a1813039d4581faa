use Rattle.std.proofs.Common.{sym, subst}
use Rattle.std.specs.List.{AllByRecursion, flat_map}
use Rattle.std.specs.Prelude.{◌++◌}
use Rattle.clone_stream.specs.Streams.{IsOwn, IsRef, end_line, header, object_record, ref_record}
use Rattle.tests_rows.proofs.Empty.{no_entries}
use Rattle.tests_rows.proofs.proved_rows.empty_stream.Goals as goal

pub returns : goal.returns
returns c = record {
  objects = subst (AllByRecursion IsOwn) (sym no_entries) tt;
  refs = subst (AllByRecursion IsRef) (sym no_entries) tt;
  text = λ i. header ++ (flat_map object_record (sym no_entries i) ++ (flat_map ref_record (sym no_entries i) ++ end_line));
}
