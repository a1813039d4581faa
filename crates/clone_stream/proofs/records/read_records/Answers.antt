use Rattle.std.proofs.Common.{refl, rules}
use Rattle.std.specs.Prelude.{IfSome}
use Rattle.buffered_reader.specs.Ahead.{ahead}
use Rattle.clone_stream.specs.Fronts.{BreaksRecords}
use Rattle.clone_stream.specs.Grouped.{GoesOn}
use Rattle.clone_stream.specs.Records.{IsNextObject, IsNextRef, last_read}
use Rattle.clone_stream.specs.declared.stream_faults.Break.TheVariants.{Memory}
use Rattle.clone_stream.proofs.Growing.{all_read, at_first, next_breaks, object_lacks, object_read, ref_lacks, ref_read, stops_after}
use Rattle.clone_stream.proofs.Lacking.{gives}
use Rattle.clone_stream.proofs.records.read_records.Goals as goal

pub records-init : goal.records-init
records-init g c = record {
  read = rw (c.new-objects.ensures, c.new-refs.ensures) (at_first (ahead c.args.reader.now (g.S.Source.left c.args.source.now)) c.args.reader.now.taken);
  past = refl;
  limit = refl;
  quiet = search rules;
}

pub records-preserved-in-Continue-1 : goal.records-preserved-in-Continue-1
records-preserved-in-Continue-1 g c =
    let goes : GoesOn c.records.objects c.take_group.new.objects c.records.refs c.records.reader c.take_group.new.reader = rw c.as_slice.ensures at c.take_group.ensures.goes_on in
    let so_far = goes.read (ahead c.args.reader.now (g.S.Source.left c.args.source.now)) (g.S.Source.left c.records.source) c.args.reader.now.taken c.records.invariant.read in
    record {
      read =
          let object = c.in-Ok-Object.object in
          let found : IsNextObject (last_read c.as_slice-in-records.result.now c.as_slice-in-records-2.result.now) object = rw c.in-Ok-Object.field-0-is at c.in-Ok-Object.ensures.next in
          let next : IsNextObject (last_read c.take_group.new.objects c.records.refs) object = rw (c.as_slice-in-records.ensures, c.as_slice-in-records-2.ensures) at found in
          rw c.in_ok-push-in-Ok-Object.ensures.added (object_read c.take_group.new.objects c.records.refs _ _ _ _ so_far object _ _ next
          (rw c.in-Ok-Object.field-0-is at c.in-Ok-Object.ensures.ahead) (rw c.in-Ok-Object.field-0-is at c.in-Ok-Object.ensures.taken));
      past = search (rules, goes.past);
      limit = search (rules, goes.limit);
      quiet = search rules;
    }

pub records-preserved : goal.records-preserved
records-preserved g c =
    let goes : GoesOn c.records.objects c.take_group.new.objects c.records.refs c.records.reader c.take_group.new.reader = rw c.as_slice.ensures at c.take_group.ensures.goes_on in
    let so_far = goes.read (ahead c.args.reader.now (g.S.Source.left c.args.source.now)) (g.S.Source.left c.records.source) c.args.reader.now.taken c.records.invariant.read in
    record {
      read =
          let value = c.in-Ok-Ref.value in
          let found : IsNextRef (last_read c.as_slice-in-records.result.now c.as_slice-in-records-2.result.now) value.name value.id = rw c.in-Ok-Ref.field-0-is at c.in-Ok-Ref.ensures.next in
          let next : IsNextRef (last_read c.take_group.new.objects c.records.refs) value.name value.id = rw (c.as_slice-in-records.ensures, c.as_slice-in-records-2.ensures) at found in
          rw (c.in_ok-push-in-Ok-Ref.ensures.added, c.set.ensures) (ref_read c.take_group.new.objects c.records.refs _ _ _ _ so_far value.name value.id _ _ next
          (rw c.in-Ok-Ref.field-0-is at c.in-Ok-Ref.ensures.ahead) (rw c.in-Ok-Ref.field-0-is at c.in-Ok-Ref.ensures.taken));
      past = search (rules, goes.past);
      limit = search (rules, goes.limit);
      quiet = search rules;
    }

pub returns-in-Ok-End-clause-found : goal.returns-in-Ok-End-clause-found
returns-in-Ok-End-clause-found g c =
    let goes : GoesOn c.records.objects c.take_group.new.objects c.records.refs c.records.reader c.take_group.new.reader = rw c.as_slice.ensures at c.take_group.ensures.goes_on in
    let so_far = goes.read (ahead c.args.reader.now (g.S.Source.left c.args.source.now)) (g.S.Source.left c.records.source) c.args.reader.now.taken c.records.invariant.read in
    all_read c.take_group.new.objects c.records.refs _ _ _ _ so_far _ _ (rw c.in-Ok-End.field-0-is at c.in-Ok-End.ensures.ahead) (rw c.in-Ok-End.field-0-is at c.in-Ok-End.ensures.taken)

pub returns-in-Err-clause-bad : goal.returns-in-Err-clause-bad
returns-in-Err-clause-bad g c =
    let goes : GoesOn c.records.objects c.take_group.new.objects c.records.refs c.records.reader c.take_group.new.reader = rw c.as_slice.ensures at c.take_group.ensures.goes_on in
    let so_far = goes.read (ahead c.args.reader.now (g.S.Source.left c.args.source.now)) (g.S.Source.left c.records.source) c.args.reader.now.taken c.records.invariant.read in
    next_breaks c.take_group.new.objects c.records.refs _ _ _ _ so_far c.in-Err.fault (rw (c.as_slice-in-records.ensures, c.as_slice-in-records-2.ensures) at c.in-Err.ensures.bad)

pub returns-in-Err-clause-reads : goal.returns-in-Err-clause-reads
returns-in-Err-clause-reads g c =
    let goes : GoesOn c.records.objects c.take_group.new.objects c.records.refs c.records.reader c.take_group.new.reader = rw c.as_slice.ensures at c.take_group.ensures.goes_on in
    let so_far = goes.read (ahead c.args.reader.now (g.S.Source.left c.args.source.now)) (g.S.Source.left c.records.source) c.args.reader.now.taken c.records.invariant.read in
    record {
      past = search (rules, goes.past);
      limit = search (rules, goes.limit);
      cause = search rules;
      stops = stops_after c.take_group.new.objects c.records.refs _ _ _ _ so_far c.take_group.new.reader c.next_record.new.reader c.args.reader.now _ c.in-Err.fault refl refl c.in-Err.ensures.reads.stops;
    }

pub returns-in_err-push-in-Ok-Object-clause-bad : goal.returns-in_err-push-in-Ok-Object-clause-bad
returns-in_err-push-in-Ok-Object-clause-bad g c =
    let goes : GoesOn c.records.objects c.take_group.new.objects c.records.refs c.records.reader c.take_group.new.reader = rw c.as_slice.ensures at c.take_group.ensures.goes_on in
    let so_far = goes.read (ahead c.args.reader.now (g.S.Source.left c.args.source.now)) (g.S.Source.left c.records.source) c.args.reader.now.taken c.records.invariant.read in
    let object = c.in-Ok-Object.object in
    let found : IsNextObject (last_read c.as_slice-in-records.result.now c.as_slice-in-records-2.result.now) object = rw c.in-Ok-Object.field-0-is at c.in-Ok-Object.ensures.next in
    let next : IsNextObject (last_read c.take_group.new.objects c.records.refs) object = rw (c.as_slice-in-records.ensures, c.as_slice-in-records-2.ensures) at found in
    gives c.from_residual.result Memory (λ fault. IfSome (ahead c.args.reader.now (g.S.Source.left c.args.source.now)) (λ rest. BreaksRecords c.args.reader.now.taken rest fault)) c.from_residual.ensures.1
    (object_lacks c.take_group.new.objects c.records.refs _ _ _ _ so_far object _ next (rw c.in-Ok-Object.field-0-is at c.in-Ok-Object.ensures.ahead))

pub returns-in_err-push-in-Ok-Ref-clause-bad : goal.returns-in_err-push-in-Ok-Ref-clause-bad
returns-in_err-push-in-Ok-Ref-clause-bad g c =
    let goes : GoesOn c.records.objects c.take_group.new.objects c.records.refs c.records.reader c.take_group.new.reader = rw c.as_slice.ensures at c.take_group.ensures.goes_on in
    let so_far = goes.read (ahead c.args.reader.now (g.S.Source.left c.args.source.now)) (g.S.Source.left c.records.source) c.args.reader.now.taken c.records.invariant.read in
    let value = c.in-Ok-Ref.value in
    let found : IsNextRef (last_read c.as_slice-in-records.result.now c.as_slice-in-records-2.result.now) value.name value.id = rw c.in-Ok-Ref.field-0-is at c.in-Ok-Ref.ensures.next in
    let next : IsNextRef (last_read c.take_group.new.objects c.records.refs) value.name value.id = rw (c.as_slice-in-records.ensures, c.as_slice-in-records-2.ensures) at found in
    gives c.from_residual-in_err-push-in-Ok-Ref.result Memory (λ fault. IfSome (ahead c.args.reader.now (g.S.Source.left c.args.source.now)) (λ rest. BreaksRecords c.args.reader.now.taken rest fault)) c.from_residual-in_err-push-in-Ok-Ref.ensures.1
    (ref_lacks c.take_group.new.objects c.records.refs _ _ _ _ so_far value.name value.id _ next (rw c.in-Ok-Ref.field-0-is at c.in-Ok-Ref.ensures.ahead))
