use Rattle.clone_stream.proofs.Exported.{end_refused, exported, header_refused, objects_refused, objects_written, refs_refused, refs_written}
use Rattle.clone_stream.proofs.export.write_stream.Goals as goal

pub returns-in-Err-clause-refused : goal.returns-in-Err-clause-refused
returns-in-Err-clause-refused g c = header_refused _ _ _ c.in-Err.fault c.in-Err.ensures.puts

pub returns-in-Err-write_objects-clause-refused : goal.returns-in-Err-write_objects-clause-refused
returns-in-Err-write_objects-clause-refused g c = objects_refused _ _ _ _ _ c.in-Ok.ensures.puts c.in-Err-write_objects.fault c.in-Err-write_objects.ensures.runs

pub returns-in-Err-write_refs-clause-refused : goal.returns-in-Err-write_refs-clause-refused
returns-in-Err-write_refs-clause-refused g c =
    refs_refused _ _ _ _ _ _ (objects_written _ _ _ _ _ c.in-Ok.ensures.puts c.in-Ok-write_objects.now c.in-Ok-write_objects.ensures.runs) c.write_refs.ensures.same.content c.in-Err-write_refs.fault c.in-Err-write_refs.ensures.runs

pub returns-in-Ok-put-clause-ok : goal.returns-in-Ok-put-clause-ok
returns-in-Ok-put-clause-ok g c =
    exported _ _ _ _ _ (refs_written _ _ _ _ _ _ (objects_written _ _ _ _ _ c.in-Ok.ensures.puts c.in-Ok-write_objects.now c.in-Ok-write_objects.ensures.runs) c.write_refs.ensures.same.content c.in-Ok-write_refs.now c.in-Ok-write_refs.ensures.runs) _ c.in-Ok-put.ensures.puts

pub returns-in-Err-put-clause-refused : goal.returns-in-Err-put-clause-refused
returns-in-Err-put-clause-refused g c =
    end_refused _ _ _ _ _ (refs_written _ _ _ _ _ _ (objects_written _ _ _ _ _ c.in-Ok.ensures.puts c.in-Ok-write_objects.now c.in-Ok-write_objects.ensures.runs) c.write_refs.ensures.same.content c.in-Ok-write_refs.now c.in-Ok-write_refs.ensures.runs) c.in-Err-put.fault c.in-Err-put.ensures.puts
