use Rattle.std.proofs.Common.{sym, true, false}
use Rattle.tree_paths.proofs.Blobs.{found_at, no_text, text_tested}
use Rattle.tree_paths.proofs.blob_reads.load_blob.Goals as goal

pub returns-in_default-clause-read : goal.returns-in_default-clause-read
returns-in_default-clause-read g c = λ r told.
    let id = c.args.id.now in
    no_text r id c.in_ok-object.field-0 (found_at r id c.in_ok-object.field-0 (c.in_ok-object.ensures.found r told) (c.in_ok-object.ensures.none r told)) c.in_default.is

pub returns-then-is_small_blob-clause-read : goal.returns-then-is_small_blob-clause-read
returns-then-is_small_blob-clause-read g c = λ r told.
    let id = c.args.id.now in
    text_tested r id c.in_ok-object.field-0 c.in-Some.object true (found_at r id c.in_ok-object.field-0 (c.in_ok-object.ensures.found r told) (c.in_ok-object.ensures.none r told)) c.in-Some.is (sym c.if-is_small_blob.ensures)

pub returns-else-is_small_blob-clause-read : goal.returns-else-is_small_blob-clause-read
returns-else-is_small_blob-clause-read g c = λ r told.
    let id = c.args.id.now in
    text_tested r id c.in_ok-object.field-0 c.in-Some.object false (found_at r id c.in_ok-object.field-0 (c.in_ok-object.ensures.found r told) (c.in_ok-object.ensures.none r told)) c.in-Some.is (sym c.if-is_small_blob.ensures)
