-- The text of a stream as the first line, records and the last line.
use Rattle.std.proofs.Common.{◌≡◌, ℕ, List, ◌++◌, sym, ap, ◌∙◌, append_assoc}
use Rattle.std.specs.List.{flat_map}
use Rattle.std.specs.FinMap.{entries}
use Rattle.git_object.specs.Repository.{Repository}
use Rattle.clone_stream.specs.Fronts.{AreRecords, records_text}
use Rattle.clone_stream.specs.Streams.{IsStreamText, end_line, header, object_record, ref_record}
use Rattle.clone_stream.proofs.Built.{entries_rise}

pub stream_records : (r : Repository) (text : List ℕ) → IsStreamText r text → AreRecords (entries r.objects) (entries r.refs)
stream_records r text is = record { own = is.objects; ids_rise = entries_rise r.objects; are_refs = is.refs; names_rise = entries_rise r.refs }

pub stream_split : (r : Repository) (text : List ℕ) → IsStreamText r text → text ≡ header ++ (records_text (entries r.objects) (entries r.refs) ++ end_line)
stream_split r text is = is.text ∙ ap (λ (t : List ℕ). header ++ t) (sym (append_assoc (flat_map object_record (entries r.objects)) (flat_map ref_record (entries r.refs)) end_line))
